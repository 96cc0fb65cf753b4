-- Sets at places of lists and of words that they share.
use Rattle.std.proofs.Common.{◌≡◌, ℕ, ◌+◌, ◌-◌, ◌≤◌, List, [], ◌∷◌, ◌++◌, length, take, drop, map, Result, Ok, Err, IfOk, OnErr, MatchResult, refl, sym, ap, ap₂, subst, ◌∙◌, arith}
use Rattle.std.specs.List.{slice_range, AllByRecursion}
use Rattle.std.proofs.lemmas.List.{length-append, take-append-le, drop-append-le, take_all, length-drop, map-append}
use Rattle.std.proofs.Math.Seq.{drop-append_seam}
use Rattle.base_bits.specs.Rows.{Numbers, IsSet}
use Rattle.base_bits.specs.Grid.{Table}
use Rattle.base_bits.specs.Sets.{set_by, IsSetBy, list_at, words_at, set_at, IsInside, IsPlaced, ArePlaced, Begins, sets_of}
use Rattle.base_bits.specs.declared.place.Place.{Place}
use Rattle.base_bits.specs.declared.place.Place.TheVariants.{Listed, Shown}
use Rattle.base_bits.proofs.Rows.{Shows}
use Rattle.base_bits.proofs.SetViews.{members-shown}

range-seam : (xs ys : List ℕ) → slice_range (xs ++ ys) (length xs) (length xs + length ys) ≡ ys
range-seam xs ys =
    let e : length xs + length ys - length xs ≡ length ys = omega arith in
    ap₂ take e (drop-append_seam xs ys) ∙ take_all (length ys) ys (omega arith)

range-begun : (old new : List ℕ) (from to : ℕ) → Begins old new → from ≤ to → to ≤ length old → slice_range new from to ≡ slice_range old from to
range-begun old new from to (rest, e) l m =
    ap (λ xs. slice_range xs from to) e
    ∙ (ap (take (to - from)) (drop-append-le from old rest (omega arith)) ∙ take-append-le (to - from) (drop from old) rest (omega (arith, length-drop from old)))

module _ (old new words more : List ℕ) (width : ℕ) (lists : Begins old new) (shown : Begins words more) where
  list-kept : (place : Place) → IsInside old words place → list_at new place ≡ list_at old place
  list-kept (Listed from to) is = range-begun old new from to lists is.0 is.1
  list-kept (Shown from to) is = refl

  words-kept : (place : Place) → IsInside old words place → words_at more place ≡ words_at words place
  words-kept (Listed from to) is = refl
  words-kept (Shown from to) is = range-begun words more from to shown is.0 is.1

  longer : (xs ys : List ℕ) → Begins xs ys → length xs ≤ length ys
  longer xs ys (rest, e) = omega (arith, ap length e, length-append xs rest)

  inside-kept : (place : Place) → IsInside old words place → IsInside new more place
  inside-kept (Listed from to) is = (is.0, omega (arith, is.1, longer old new lists))
  inside-kept (Shown from to) is = (is.0, omega (arith, is.1, longer words more shown))

  set-kept : (place : Place) → IsPlaced old words width place → set_at new more width place ≡ set_at old words width place
  set-kept place is = ap₂ (λ xs ws. set_by xs ws width) (list-kept place is.inside) (words-kept place is.inside)

  placed-kept : (place : Place) → IsPlaced old words width place → IsPlaced new more width place
  placed-kept place is = record {
    inside = inside-kept place is.inside;
    set = subst (λ xs. IsSetBy xs (words_at more place) width) (sym (list-kept place is.inside)) (subst (λ ws. IsSetBy (list_at old place) ws width) (sym (words-kept place is.inside)) is.set);
  }

  -- what stands at places still stands there, and one set more
  pub all-kept : (places : List Place) (place : Place) → AllByRecursion (IsPlaced old words width) places → IsPlaced new more width place → AllByRecursion (IsPlaced new more width) (places ++ place ∷ [])
  all-kept [] place all is = (is, tt)
  all-kept (first ∷ places) place all is = (placed-kept first all.0, all-kept places place all.1 is)

  pub still-kept : (places : List Place) → AllByRecursion (IsPlaced old words width) places → AllByRecursion (IsPlaced new more width) places
  still-kept [] all = tt
  still-kept (first ∷ places) all = (placed-kept first all.0, still-kept places all.1)

  pub sets-kept : (places : List Place) → AllByRecursion (IsPlaced old words width) places → map (set_at new more width) places ≡ map (set_at old words width) places
  sets-kept [] all = refl
  sets-kept (first ∷ places) all = ap₂ (λ x xs. x ∷ xs) (set-kept first all.0) (sets-kept places all.1)

  pub sets-pushed : (places : List Place) (place : Place) (s : Numbers) → AllByRecursion (IsPlaced old words width) places → set_at new more width place ≡ s → map (set_at new more width) (places ++ place ∷ []) ≡ map (set_at old words width) places ++ s ∷ []
  sets-pushed places place s all e = map-append (set_at new more width) places (place ∷ []) ∙ ap₂ (λ xs x. xs ++ x ∷ []) (sets-kept places all) e

-- a set whose members are listed
module _ (lists words : List ℕ) (s : Numbers) (is : IsSet s) where
  pub placed-list : IsPlaced (lists ++ s.members) words s.width (Listed (length lists) (length lists + length s.members))
  placed-list = record {
    inside = (omega arith, omega (arith, length-append lists s.members));
    set = subst (λ xs. IsSetBy xs [] s.width) (sym (range-seam lists s.members)) (record { fits = is.fits; rising = is.rising; within = is.within; kept = λ n. absurd (n refl) });
  }

  pub set-list : set_at (lists ++ s.members) words s.width (Listed (length lists) (length lists + length s.members)) ≡ s
  set-list = ap (λ xs. record { width = s.width; members = xs }) (range-seam lists s.members)

-- a set whose words stand among others
module _ (lists words own : List ℕ) (s : Numbers) (is : Shows own s.width s) where
  pub placed-words : IsPlaced lists (words ++ own) s.width (Shown (length words) (length words + length own))
  placed-words = record {
    inside = (omega arith, omega (arith, length-append words own));
    set = subst (λ ws. IsSetBy [] ws s.width) (sym (range-seam words own)) (record { fits = is.kept.fits; rising = tt; within = λ i h. absurd h; kept = λ n. is.kept });
  }

  pub set-words : set_at lists (words ++ own) s.width (Shown (length words) (length words + length own)) ≡ s
  set-words = ap (λ ws. set_by [] ws s.width) (range-seam words own) ∙ (ap (λ xs. record { width = s.width; members = xs }) (members-shown own s.width is.kept) ∙ is.view)

module _ {E : Type 0} (r : Result Place E) (lists new words xs : List ℕ) (s : Numbers) (is : IsSet s) (same : xs ≡ s.members) where
  pub put-placed : MatchResult r (λ _. new ≡ lists ++ xs) (λ _. new ≡ lists) → IfOk r (λ p. p ≡ Listed (length lists) (length lists + length xs)) → IfOk r (IsPlaced new words s.width)
  put-placed put place = go r put place
    where
      go : (r : Result Place E) → MatchResult r (λ _. new ≡ lists ++ xs) (λ _. new ≡ lists) → IfOk r (λ p. p ≡ Listed (length lists) (length lists + length xs)) → IfOk r (IsPlaced new words s.width)
      go (Ok p) e f = rw (e, f, same) (placed-list lists words s is)
      go (Err e) f g = tt

  pub put-set : MatchResult r (λ _. new ≡ lists ++ xs) (λ _. new ≡ lists) → IfOk r (λ p. p ≡ Listed (length lists) (length lists + length xs)) → IfOk r (λ p. set_at new words s.width p ≡ s)
  put-set put place = go r put place
    where
      go : (r : Result Place E) → MatchResult r (λ _. new ≡ lists ++ xs) (λ _. new ≡ lists) → IfOk r (λ p. p ≡ Listed (length lists) (length lists + length xs)) → IfOk r (λ p. set_at new words s.width p ≡ s)
      go (Ok p) e f = rw (e, f, same) (set-list lists words s is)
      go (Err e) f g = tt

-- the vectors have grown, and the sets are as they were, or one more
module _ (lists new words more : List ℕ) (width : ℕ) (places : List Place) (listed : Begins lists new) (shown : Begins words more) (is : ArePlaced lists words width places) where
  pub places-still : ArePlaced new more width places
  places-still = record { fits = is.fits; each = still-kept lists new words more width listed shown places is.each }

  pub view-still : (t : Table) → sets_of lists words width places ≡ t → sets_of new more width places ≡ t
  view-still t e = ap (λ rows. record { width = width; rows = rows }) (sets-kept lists new words more width listed shown places is.each) ∙ e

  pub places-pushed : (place : Place) → IsPlaced new more width place → ArePlaced new more width (places ++ place ∷ [])
  places-pushed place here = record { fits = is.fits; each = all-kept lists new words more width listed shown places place is.each here }

  pub view-pushed : (t : Table) (place : Place) (s : Numbers) → sets_of lists words width places ≡ t → set_at new more width place ≡ s
      → sets_of new more width (places ++ place ∷ []) ≡ record { width = t.width; rows = t.rows ++ s ∷ [] }
  view-pushed t place s e f =
      ap (λ rows. record { width = width; rows = rows }) (sets-pushed lists new words more width listed shown places place s is.each f) ∙ ap (λ (t : Table). record { width = t.width; rows = t.rows ++ s ∷ [] }) e

-- a fact that holds, after an error too
pub on_err : {T E P : Type 0} (r : Result T E) → P → OnErr r P
on_err (Ok x) p = tt
on_err (Err e) p = p
