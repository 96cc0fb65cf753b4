-- Looking a publication up in the rows of flooding.
use Rattle.std.proofs.Common.{◌≡◌, inl, inr, ℕ, zero, suc, ◌≤◌, ◌<◌, ◌==◌, Bool, true, false, cond, List, [], ◌∷◌, length, get_or, Some, None, refl, sym, ap, ◌∙◌, arith, eqb-true}
use Rattle.std.specs.declared.cmp.Ordering.{Ordering}
use Rattle.std.specs.declared.cmp.Ordering.TheVariants as orders
use Rattle.std.specs.Ordering.{ordering_index}
use Rattle.std.specs.List.Sorted.{IsNonDecreasingBy, IsPartitionPoint}
use Rattle.std.proofs.lemmas.Bool.{and_parts, cases_eq, cases_lt}
use Rattle.std.proofs.lemmas.Bool.Decides.{nat_tests}
use Rattle.base.specs.Sets.{Has, IsRising}
use Rattle.filter_text.specs.declared.id.Id.{Id}
use Rattle.output_flood.specs.declared.owed.OwedRow.{OwedRow}
use Rattle.output_flood.specs.Flooding.{id_before, row_before, row_of}
use Rattle.output_explain.specs.Sought.{same_id, id_cmp, told_of}

pub same_is : (a b : Id) → same_id a b ≡ true → a ≡ b
same_is a b e =
    let both = and_parts (a.publisher == b.publisher) (a.ordinal == b.ordinal) e in
    ap (λ z. made z a.ordinal) (eqb-true a.publisher b.publisher both.0) ∙ ap (made b.publisher) (eqb-true a.ordinal b.ordinal both.1)
  where
    made : ℕ → ℕ → Id
    made publisher ordinal = record { publisher = publisher; ordinal = ordinal }

pub same_self : (a : Id) → same_id a a ≡ true
same_self a = grind (arith, nat_tests)

-- an id that is before another is not that
apart : (a b c : Id) → id_before a b ≡ true → same_id b c ≡ true → same_id a c ≡ false
apart a b c e f = grind (arith, nat_tests, e, f)

pub told_has : (rows : List OwedRow) (id : Id) (row : OwedRow) → IsRising row_before rows → Has row rows → same_id row.id id ≡ true → told_of rows id ≡ Some row.must
told_has [] id row up h e = absurd h
told_has (r ∷ rows) id row up (inl q) e =
    ap (λ b. cond b (Some r.must) (told_of rows id)) (ap (λ (z : OwedRow). same_id z.id id) (sym q) ∙ e) ∙ ap (λ (z : OwedRow). Some z.must) (sym q)
told_has (r ∷ rows) id row up (inr h) e =
    ap (λ b. cond b (Some r.must) (told_of rows id)) (apart r.id row.id id (up.0 row h) e) ∙ told_has rows id row up.1 h e

pub told_none : (rows : List OwedRow) (id : Id) → ((row : OwedRow) → Has row rows → same_id row.id id ≡ true → ⊥) → told_of rows id ≡ None
told_none [] id never = refl
told_none (r ∷ rows) id never = go (same_id r.id id) refl (told_none rows id (λ row h. never row (inr h)))
  where
    go : (b : Bool) → same_id r.id id ≡ b → told_of rows id ≡ None → cond b (Some r.must) (told_of rows id) ≡ None
    go true e later = absurd (never r (inl refl) e)
    go false e later = later

pub told_row : (rows : List OwedRow) (id : Id) (must : Bool) → told_of rows id ≡ Some must → Has (row_of id.publisher id.ordinal must) rows
told_row [] id must e = absurd cc
told_row (r ∷ rows) id must e = go (same_id r.id id) refl (told_row rows id must) e
  where
    made : Id → Bool → OwedRow
    made i m = record { id = i; must = m }

    go : (b : Bool) → same_id r.id id ≡ b → (told_of rows id ≡ Some must → Has (row_of id.publisher id.ordinal must) rows)
        → cond b (Some r.must) (told_of rows id) ≡ Some must → Has (row_of id.publisher id.ordinal must) (r ∷ rows)
    go true q later f = inl (sym (ap (λ i. made i r.must) (same_is r.id id q) ∙ ap (made id) (some_same f)))
      where
        some_same : {a b : Bool} → Some a ≡ Some b → a ≡ b
        some_same x = cc
    go false q later f = inr (later f)

-- places of rows

has_at : {X : Type 0} (xs : List X) (j : ℕ) (d : X) → j < length xs → Has (get_or xs j d) xs
has_at [] j d l = absurd (omega (arith, l))
has_at (x ∷ xs) zero d l = inl refl
has_at (x ∷ xs) (suc j) d l = inr (has_at xs j d (omega (arith, l)))

rising_at : {X : Type 0} (before : X → X → Bool) (xs : List X) → IsRising before xs → (i j : ℕ) (d : X) → i < j → j < length xs
    → before (get_or xs i d) (get_or xs j d) ≡ true
rising_at before [] up i j d l m = absurd (omega (arith, m))
rising_at before (x ∷ xs) up i zero d l m = absurd (omega (arith, l))
rising_at before (x ∷ xs) up zero (suc j) d l m = up.0 (get_or xs j d) (has_at xs j d (omega (arith, m)))
rising_at before (x ∷ xs) up (suc i) (suc j) d l m = rising_at before xs up.1 i j d (omega (arith, l)) (omega (arith, m))

place_of : {X : Type 0} (xs : List X) (x : X) → Has x xs → (k : ℕ) × (k < length xs) × ((d : X) → get_or xs k d ≡ x)
place_of [] x h = absurd h
place_of (y ∷ xs) x (inl q) = (zero, omega arith, λ d. sym q)
place_of (y ∷ xs) x (inr h) = let r = place_of xs x h in (suc r.0, omega (arith, r.1), r.2)

higher : (a b x : Id) → id_before a b ≡ true → ordering_index (id_cmp a x) ≤ ordering_index (id_cmp b x)
higher a b x e = grind (arith, nat_tests, e)

equal_same : (a b : Id) → id_cmp a b ≡ orders.Equal → same_id a b ≡ true
equal_same a b e = go (id_before a b) (same_id a b) refl refl e
  where
    go : (p q : Bool) → id_before a b ≡ p → same_id a b ≡ q → cond p orders.Less (cond q orders.Equal orders.Greater) ≡ orders.Equal → same_id a b ≡ true
    go true q u v f = absurd cc
    go false true u v f = v
    go false false u v f = absurd cc

same_equal : (a b : Id) → same_id a b ≡ true → id_cmp a b ≡ orders.Equal
same_equal a b e = grind (arith, nat_tests, e)

module _ (rows : List OwedRow) (id : Id) (up : IsRising row_before rows) where
  abbrev pub order_of : OwedRow → Ordering
  order_of row = id_cmp row.id id

  pub orders_rise : IsNonDecreasingBy (λ row. ordering_index (order_of row)) rows
  orders_rise i j d le lt = elim (cases_eq i j) [
    | inl e ↦ (let same : ordering_index (order_of (get_or rows i d)) ≡ ordering_index (order_of (get_or rows j d)) = ap (λ k. ordering_index (order_of (get_or rows k d))) e in omega (arith, same))
    | inr n ↦ higher (get_or rows i d).id (get_or rows j d).id id (rising_at row_before rows up i j d (omega (arith, le, n)) lt)
  ]

  pub found_at : (place : ℕ) → place < length rows → ((d : OwedRow) → order_of (get_or rows place d) ≡ orders.Equal) → (d : OwedRow)
      → told_of rows id ≡ Some (get_or rows place d).must
  found_at place lt equal d =
      told_has rows id (get_or rows place d) up (has_at rows place d lt) (equal_same (get_or rows place d).id id (equal d))

  pub lost_at : (place : ℕ) → IsPartitionPoint (λ row. order_of row ≡ orders.Less) (λ row. order_of row ≡ orders.Greater) rows place → told_of rows id ≡ None
  lost_at place parted = told_none rows id lost
    where
      less : orders.Less ≡ orders.Equal → ⊥
      less e = absurd cc

      greater : orders.Greater ≡ orders.Equal → ⊥
      greater e = absurd cc

      lost : (row : OwedRow) → Has row rows → same_id row.id id ≡ true → ⊥
      lost row h e =
          let r = place_of rows row h in
          let same : order_of (get_or rows r.0 row) ≡ orders.Equal = ap order_of (r.2 row) ∙ same_equal row.id id e in
          elim (cases_lt r.0 place) [
            | inl l ↦ less (sym (parted.0 r.0 row (omega arith) l) ∙ same)
            | inr g ↦ greater (sym (parted.1 r.0 row g r.1) ∙ same)
          ]
