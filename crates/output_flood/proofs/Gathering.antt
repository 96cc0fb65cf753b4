-- Proves how the rows of all publications come to the rows of each client.
use Rattle.std.proofs.Common.{◌≡◌, ℕ, zero, suc, ◌+◌, ◌<◌, Bool, true, false, cond, not, ◌&&◌, ◌||◌, nat_eq, inl, inr, List, [], ◌∷◌, ◌++◌, map, length, take, drop, slice_get, slice_set, Some, Vec, refl, sym, ap, subst, ◌∙◌, arith}
use Rattle.std.specs.declared.alloc.Global.{Global}
use Rattle.std.specs.List.Sorted.{IsStrictlyIncreasing}
use Rattle.std.proofs.lemmas.List.Kept.{AllPairs-from_increasing}
use Rattle.std.proofs.lemmas.Option.{get_or_from_slice_get, same_Some}
use Rattle.base.specs.Sets.{Has}
use Rattle.law_routing.proofs.Listing.{take-one, append-none}
use Rattle.net_model.specs.Parts.{ClientParts}
use Rattle.output_flood.specs.declared.owed.OwedRow.{OwedRow}
use Rattle.output_flood.specs.declared.publication.Publication.{Publication}
use Rattle.output_flood.specs.declared.meeting.Met.{Met}
use Rattle.output_flood.specs.Held.{Script, some_filters, every_filters}
use Rattle.output_flood.specs.Publications.{is_met, with_row, rows_of, all_rows_of}
use Rattle.output_flood.specs.Tables.{is_found, Meets}
use Rattle.output_flood.specs.Rows.{rows_at, once, rows_by, HaveRows}
use Rattle.output_flood.proofs.Numbered.{every_some}
use Rattle.output_flood.proofs.Finding.{found_has}
use Rattle.output_flood.proofs.Finding.{drop_get}
use Rattle.std.proofs.lemmas.Bool.{both_ways}
use Rattle.base.proofs.Numbers.{nat_eq-true, nat_eq-self}
use Rattle.std.proofs.Math.Seq.{take-length}

-- the rows at one place change
set_mine : (all : List (Vec OwedRow Global)) (place : ℕ) (rows : Vec OwedRow Global) → place < length all → rows_at (slice_set all place rows) place ≡ rows.items
set_mine [] place rows l = absurd (omega (arith, l))
set_mine (r ∷ all) zero rows l = refl
set_mine (r ∷ all) (suc place) rows l = set_mine all place rows (omega (arith, l))

set_apart : (all : List (Vec OwedRow Global)) (place i : ℕ) (rows : Vec OwedRow Global) → (place ≡ i → ⊥) → rows_at (slice_set all place rows) i ≡ rows_at all i
set_apart [] place i rows n = refl
set_apart (r ∷ all) zero zero rows n = absurd (n refl)
set_apart (r ∷ all) zero (suc i) rows n = refl
set_apart (r ∷ all) (suc place) zero rows n = refl
set_apart (r ∷ all) (suc place) (suc i) rows n = set_apart all place i rows (λ e. n (ap suc e))

rows_read : (all : List (Vec OwedRow Global)) (place : ℕ) (rows : Vec OwedRow Global) → slice_get all place ≡ Some rows → rows_at all place ≡ rows.items
rows_read [] place rows e = absurd cc
rows_read (r ∷ all) zero rows e = ap (λ (z : Vec OwedRow Global). z.items) (same_Some _ _ e)
rows_read (r ∷ all) (suc place) rows e = rows_read all place rows e

eq_not : (y q : ℕ) → nat_eq y q ≡ false → y ≡ q → ⊥
eq_not y q h e = both_ways (nat_eq y q) h (subst (λ z. nat_eq y z ≡ true) e (nat_eq-self y))

pub pushed_at : (all more : List (Vec OwedRow Global)) (place : ℕ) (old new : Vec OwedRow Global) (row : OwedRow) → slice_get all place ≡ Some old
    → new.items ≡ old.items ++ row ∷ [] → more ≡ slice_set all place new
    → (i : ℕ) → i < length all → rows_at more i ≡ rows_at all i ++ once (nat_eq place i) row
pushed_at all more place old new row at push is i l =
    ap (λ z. rows_at z i) is ∙ go (nat_eq place i) refl
  where
    go : (b : Bool) → nat_eq place i ≡ b → rows_at (slice_set all place new) i ≡ rows_at all i ++ once b row
    go true e =
        ap (rows_at (slice_set all place new)) (sym (nat_eq-true place i e))
        ∙ set_mine all place new (subst (λ z. z < length all) (sym (nat_eq-true place i e)) l)
        ∙ push
        ∙ ap (λ z. z ++ row ∷ []) (sym (rows_read all place old at) ∙ ap (rows_at all) (nat_eq-true place i e))
    go false e = set_apart all place i new (eq_not place i e) ∙ sym (append-none (rows_at all i))

pub none_more : (all more : List (Vec OwedRow Global)) (rows : Vec OwedRow Global) → rows.items ≡ [] → more ≡ all ++ rows ∷ [] → ((i : ℕ) → rows_at all i ≡ [])
    → (i : ℕ) → rows_at more i ≡ []
none_more all more rows e push none i = ap (λ z. rows_at z i) push ∙ go all none i
  where
    go : (all : List (Vec OwedRow Global)) → ((i : ℕ) → rows_at all i ≡ []) → (i : ℕ) → rows_at (all ++ rows ∷ []) i ≡ []
    go [] none zero = e
    go [] none (suc i) = refl
    go (r ∷ all) none zero = none zero
    go (r ∷ all) none (suc i) = go all (λ j. none (suc j)) i

-- a place of a list that rises does not stand there again
drop_has : (k x : ℕ) (xs : List ℕ) → Has x (drop k xs) → (b : ℕ) × (k < b + 1) × (b < length xs) × (slice_get xs b ≡ Some x)
drop_has zero x [] h = absurd h
drop_has (suc k) x [] h = absurd h
drop_has zero x (y ∷ ys) (inl e) = (0, omega arith, omega arith, ap Some (sym e))
drop_has zero x (y ∷ ys) (inr h) = let r = drop_has zero x ys h in (suc r.0, omega arith, omega (arith, r.2), r.3)
drop_has (suc k) x (y ∷ ys) h = let r = drop_has k x ys h in (suc r.0, omega (arith, r.1), omega (arith, r.2), r.3)

once_there : (places : List ℕ) (j x : ℕ) → IsStrictlyIncreasing places → slice_get places j ≡ Some x → is_found x (drop (j + 1) places) ≡ false
once_there places j x up at = go (is_found x (drop (j + 1) places)) refl
  where
    go : (b : Bool) → is_found x (drop (j + 1) places) ≡ b → b ≡ false
    go false e = refl
    go true e =
        let r = drop_has (j + 1) x places (found_has x (drop (j + 1) places) e) in
        let less = AllPairs-from_increasing places up j r.0 0 (omega (arith, r.1)) r.2 in
        absurd (omega (arith, less, get_or_from_slice_get places j x 0 at, get_or_from_slice_get places r.0 x 0 r.3))

-- one more place
pub place_next : (places : List ℕ) (j x : ℕ) (row : OwedRow) (t u goal : List (Vec OwedRow Global)) (count : ℕ) → IsStrictlyIncreasing places → slice_get places j ≡ Some x
    → ((i : ℕ) → i < count → rows_at u i ≡ rows_at t i ++ once (nat_eq x i) row)
    → ((i : ℕ) → i < count → rows_at t i ++ once (is_found i (drop j places)) row ≡ rows_at goal i ++ once (is_found i places) row)
    → (i : ℕ) → i < count → rows_at u i ++ once (is_found i (drop (j + 1) places)) row ≡ rows_at goal i ++ once (is_found i places) row
place_next places j x row t u goal count up at push before i l =
    ap (λ z. z ++ once (is_found i (drop (j + 1) places)) row) (push i l)
    ∙ joined (nat_eq x i) refl
    ∙ ap (λ z. rows_at t i ++ once (is_found i z) row) (sym (drop_get places j x at))
    ∙ before i l
  where
    joined : (b : Bool) → nat_eq x i ≡ b
        → (rows_at t i ++ once b row) ++ once (is_found i (drop (j + 1) places)) row ≡ rows_at t i ++ once (is_found i (x ∷ drop (j + 1) places)) row
    joined true e =
        let no : is_found i (drop (j + 1) places) ≡ false = subst (λ z. is_found z (drop (j + 1) places) ≡ false) (nat_eq-true x i e) (once_there places j x up at) in
        ap (λ z. (rows_at t i ++ row ∷ []) ++ once z row) no
        ∙ append-none (rows_at t i ++ row ∷ [])
        ∙ ap (λ z. rows_at t i ++ once (z || is_found i (drop (j + 1) places)) row) (sym e)
    joined false e =
        ap (λ z. z ++ once (is_found i (drop (j + 1) places)) row) (append-none (rows_at t i))
        ∙ ap (λ z. rows_at t i ++ once (z || is_found i (drop (j + 1) places)) row) (sym e)

-- what a publication adds is its row
rows_is : (i : ℕ) (clients : List ClientParts) (client : ClientParts) (p : Publication) (met : Met) → slice_get clients i ≡ Some client → Meets clients p met
    → rows_by i p met ≡ with_row client.script p []
rows_is i clients client p met at m =
    ap (λ z. once (is_found i met.every) (record { id = p.id; must = p.advertised }) ++ once z (record { id = p.id; must = false })) (m.others i client at)
    ∙ go (is_found i met.every) (is_met (every_filters p.phase client.script) p.notice) (is_met (some_filters p.phase client.script) p.notice) p.advertised
    (m.every i client at) (every_some p.phase client.script p.notice)
  where
    go : (f e s a : Bool) → f ≡ e → (e ≡ true → s ≡ true) → once f (record { id = p.id; must = a }) ++ once (not f && s) (record { id = p.id; must = false })
        ≡ cond s (record { id = p.id; must = a && e } ∷ []) []
    go true true true true q w = refl
    go true true true false q w = refl
    go true true false a q w = let z = w refl in absurd cc
    go true false s a q w = absurd cc
    go false true s a q w = absurd cc
    go false false true true q w = refl
    go false false true false q w = refl
    go false false false a q w = refl

split_row : (script : Script) (ps : List Publication) (p : Publication) → rows_of script (ps ++ p ∷ []) ≡ rows_of script ps ++ with_row script p []
split_row script [] p = refl
split_row script (q ∷ ps) p =
    go (is_met (some_filters q.phase script) q.notice) (record { id = q.id; must = q.advertised && is_met (every_filters q.phase script) q.notice })
    (rows_of script (ps ++ p ∷ [])) (rows_of script ps) (with_row script p []) (split_row script ps p)
  where
    go : (b : Bool) (row : OwedRow) (xs ys zs : List OwedRow) → xs ≡ ys ++ zs → cond b (row ∷ xs) xs ≡ cond b (row ∷ ys) ys ++ zs
    go true row xs ys zs e = ap (λ z. row ∷ z) e
    go false row xs ys zs e = e

-- one more publication
pub publication_next : (clients : List ClientParts) (publications : List Publication) (k : ℕ) (p : Publication) (met : Met) (t u : List (Vec OwedRow Global)) (count : ℕ)
    → count ≡ length clients → slice_get publications k ≡ Some p → Meets clients p met → ((i : ℕ) → i < count → rows_at u i ≡ rows_at t i ++ rows_by i p met)
    → HaveRows clients (take k publications) t → HaveRows clients (take (k + 1) publications) u
publication_next clients publications k p met t u count c at m push before i client has =
    push i (subst (λ z. i < z) (sym c) (within clients i has))
    ∙ ap (λ z. z ++ rows_by i p met) (before i client has)
    ∙ ap (λ z. rows_of client.script (take k publications) ++ z) (rows_is i clients client p met has m)
    ∙ sym (split_row client.script (take k publications) p)
    ∙ ap (rows_of client.script) (sym (take-one publications k p at))
    ∙ ap (λ z. rows_of client.script (take z publications)) (sym (next k))
  where
    next : (k : ℕ) → k + 1 ≡ suc k
    next k = omega arith

    within : {X : Type 0} (xs : List X) (k : ℕ) {x : X} → slice_get xs k ≡ Some x → k < length xs
    within [] k e = absurd cc
    within (y ∷ ys) zero e = omega arith
    within (y ∷ ys) (suc k) e = let i = within ys k e in omega (arith, i)

-- at the end
pub rows_all : (clients : List ClientParts) (publications : List Publication) (all : List (Vec OwedRow Global)) → length all ≡ length clients
    → HaveRows clients (take (length publications) publications) all → map (λ (rows : Vec OwedRow Global). rows.items) all ≡ all_rows_of clients publications
rows_all clients publications all count have = go clients all count (λ i client at. have i client at ∙ ap (rows_of client.script) (take-length publications))
  where
    go : (cs : List ClientParts) (all : List (Vec OwedRow Global)) → length all ≡ length cs
        → ((i : ℕ) (client : ClientParts) → slice_get cs i ≡ Some client → rows_at all i ≡ rows_of client.script publications)
        → map (λ (rows : Vec OwedRow Global). rows.items) all ≡ all_rows_of cs publications
    go [] [] e h = refl
    go [] (r ∷ all) e h = absurd (omega (arith, e))
    go (c ∷ cs) [] e h = absurd (omega (arith, e))
    go (c ∷ cs) (r ∷ all) e h =
        ap (λ z. z ∷ map (λ (rows : Vec OwedRow Global). rows.items) all) (h zero c refl)
        ∙ ap (λ z. rows_of c.script publications ∷ z) (go cs all (omega (arith, e)) (λ i client at. h (suc i) client at))
