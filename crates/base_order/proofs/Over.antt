-- Rows of what stands over each item, made number by number.
use Rattle.std.proofs.Common.{◌≡◌, ◌≢◌, ◌⊎◌, inl, inr, ℕ, zero, suc, ◌+◌, ◌<◌, ◌≤◌, nat_lt, Bool, true, false, cond, List, [], ◌∷◌, length, map, get_or, slice_get, slice_set, Some, refl, sym, ap, ap₂, subst, ◌∙◌, arith}
use Rattle.std.specs.List.{range_with_len}
use Rattle.std.proofs.lemmas.Bool.{cases_lt, cases_eq, lt-ltb, false_from_ne_true}
use Rattle.std.proofs.lemmas.Bool.Decides.{nat_tests}
use Rattle.std.proofs.lemmas.List.{ext_get_or, length-set}
use Rattle.std.proofs.lemmas.List.FromFn.{length-map-range_with_len, get_or-map-range_with_len}
use Rattle.std.proofs.lemmas.Option.{slice_get-get_or, slice_get_within, get_or_from_slice_get, same_Some}
use Rattle.base_bits.specs.Words.{passing}
use Rattle.base_bits.specs.Rows.{Numbers}
use Rattle.base_bits.proofs.Passing.{passing-step}
use Rattle.base_order.specs.Order.{covers_at, stands_at, over_row, above_row, above_rows, AreOver}

module _ {A : Type 0} where
  -- what is read where something was written, and elsewhere
  pub get-set-same : (xs : List A) (p : ℕ) (y : A) → p < length xs → slice_get (slice_set xs p y) p ≡ Some y
  get-set-same [] p y l = absurd (omega arith)
  get-set-same (x ∷ xs) zero y l = refl
  get-set-same (x ∷ xs) (suc p) y l = get-set-same xs p y (omega arith)

  pub get-set-other : (xs : List A) (p q : ℕ) (y : A) → q ≢ p → slice_get (slice_set xs p y) q ≡ slice_get xs q
  get-set-other [] p q y n = refl
  get-set-other (x ∷ xs) zero zero y n = absurd (n refl)
  get-set-other (x ∷ xs) zero (suc q) y n = refl
  get-set-other (x ∷ xs) (suc p) zero y n = refl
  get-set-other (x ∷ xs) (suc p) (suc q) y n = get-set-other xs p q y (λ e. n (ap suc e))

module _ {T : Type 0} (covers : T → T → Bool) (items : List T) where
  -- what an item doesn't cover it doesn't stand over
  stands-not : (i j : ℕ) → covers_at covers items i j ≡ false → stands_at covers items i j ≡ false
  unfolding covers_at
  stands-not i j e = grind (arith, e)

  pub over-skip : (i j : ℕ) → covers_at covers items i j ≡ false → over_row covers items (i + 1) j ≡ over_row covers items i j
  over-skip i j e = ap (λ (z : List ℕ). record { width = length items; members = z })
      (sym (passing-step (λ k. stands_at covers items k j) i false (passing (λ k. stands_at covers items k j) i) refl (sym (stands-not i j e))))

  pub over-more : (i j : ℕ) (b : Bool) (row : Numbers) → b ≡ stands_at covers items i j → row.width ≡ length items
      → row.members ≡ passing (λ k. stands_at covers items k j) (i + 1) → row ≡ over_row covers items (i + 1) j
  over-more i j b row e w m = ap₂ (λ (z : ℕ) (y : List ℕ). record { width = z; members = y }) w m

  -- the row of an item before a place, and of one from it on
  pub passed : (n at i : ℕ) → i < at → over_row covers items (cond (nat_lt i at) (n + 1) n) i ≡ over_row covers items (n + 1) i
  passed n at i l = ap (λ z. over_row covers items (cond z (n + 1) n) i) (lt-ltb i at l)

  pub ahead : (n at i : ℕ) → at ≤ i → over_row covers items (cond (nat_lt i at) (n + 1) n) i ≡ over_row covers items n i
  ahead n at i l =
      let e : nat_lt i at ≡ false = grind (arith, nat_tests) in
      ap (λ z. over_row covers items (cond z (n + 1) n) i) e

  -- all rows, once all numbers were looked at
  pub over-all : (rows : List Numbers) → AreOver covers items (length items) 0 rows → rows ≡ above_rows covers items (length items)
  over-all rows over = ext_get_or empty rows (above_rows covers items n) (over.long ∙ sym long) each
    where
      n : ℕ
      n = length items

      empty : Numbers
      empty = record { width = 0; members = [] }

      long : length (above_rows covers items n) ≡ n
      long = length-map-range_with_len (above_row covers items) 0 n

      each : (i : ℕ) → i < length rows → get_or rows i empty ≡ get_or (above_rows covers items n) i empty
      each i l =
          over.each i (get_or rows i empty) (slice_get-get_or rows i empty l)
          ∙ ahead n 0 i (omega arith)
          ∙ sym (get_or-map-range_with_len (above_row covers items) 0 n i i empty (omega (arith, over.long)) (omega arith))

  -- no number was looked at
  pub over-none : (rows : List Numbers) → rows ≡ map (λ (j : ℕ). record { width = length items; members = [] }) (range_with_len 0 (length items)) → AreOver covers items 0 0 rows
  over-none rows e = record {
    long = ap length e ∙ length-map-range_with_len none 0 n;
    each = λ i row h.
        let l : i < n = omega (arith, slice_get_within rows i row h, ap length e ∙ length-map-range_with_len none 0 n) in
        sym (get_or_from_slice_get rows i row row h) ∙ (ap (λ (z : List Numbers). get_or z i row) e ∙ (get_or-map-range_with_len none 0 n i i row l (omega arith) ∙ sym (ahead 0 0 i (omega arith))));
  }
    where
      n : ℕ
      n = length items

      none : ℕ → Numbers
      none j = record { width = length items; members = [] }

  -- the rows once a number was put into that of the next item that it covers
  pub over-put : (n at j : ℕ) (rows : List Numbers) (row : Numbers) → j < length items
      → ((k : ℕ) → at ≤ k → k < length items → covers_at covers items n k ≡ true → j ≤ k)
      → AreOver covers items n at rows → row ≡ over_row covers items (n + 1) j → at ≤ j → AreOver covers items n (j + 1) (slice_set rows j row)
  over-put n at j rows row m least over e l = record {
    long = length-set rows j row ∙ over.long;
    each = λ i r h. each i r h (cases_eq i j);
  }
    where
      before : (i : ℕ) (r : Numbers) → r ≡ over_row covers items (cond (nat_lt i at) (n + 1) n) i → (i < at) ⊎ (at ≤ i) → i < length items → (i ≡ j → ⊥)
          → (i < j + 1) ⊎ (j + 1 ≤ i) → r ≡ over_row covers items (cond (nat_lt i (j + 1)) (n + 1) n) i
      before i r q (inl a) t d b = q ∙ (passed n at i a ∙ sym (passed n (j + 1) i (omega arith)))
      before i r q (inr a) t d (inl b) =
          let no : covers_at covers items n i ≡ false = false_from_ne_true (covers_at covers items n i) (λ z. d (omega (arith, least i a t z))) in
          q ∙ (ahead n at i a ∙ (sym (over-skip n i no) ∙ sym (passed n (j + 1) i b)))
      before i r q (inr a) t d (inr b) = q ∙ (ahead n at i a ∙ sym (ahead n (j + 1) i b))

      each : (i : ℕ) (r : Numbers) → slice_get (slice_set rows j row) i ≡ Some r → ((i ≡ j) ⊎ (i ≡ j → ⊥)) → r ≡ over_row covers items (cond (nat_lt i (j + 1)) (n + 1) n) i
      each i r h (inl q) =
          let own : row ≡ r = same_Some row r (sym (get-set-same rows j row (omega (arith, over.long))) ∙ subst (λ z. slice_get (slice_set rows j row) z ≡ Some r) q h) in
          sym own ∙ (e ∙ (ap (over_row covers items (n + 1)) (sym q) ∙ sym (passed n (j + 1) i (omega arith))))
      each i r h (inr d) =
          let old : slice_get rows i ≡ Some r = sym (get-set-other rows j i row d) ∙ h in
          before i r (over.each i r old) (cases_lt i at) (omega (arith, slice_get_within rows i r old, over.long)) d (cases_lt i (j + 1))

  -- the rows once no further item is covered
  pub over-next : (n at : ℕ) (rows : List Numbers) → ((k : ℕ) → at ≤ k → k < length items → covers_at covers items n k ≡ false)
      → AreOver covers items n at rows → AreOver covers items (n + 1) 0 rows
  over-next n at rows none over = record { long = over.long; each = λ i r h. each i r h (cases_lt i at) }
    where
      each : (i : ℕ) (r : Numbers) → slice_get rows i ≡ Some r → (i < at) ⊎ (at ≤ i) → r ≡ over_row covers items (cond (nat_lt i 0) (n + 1 + 1) (n + 1)) i
      each i r h (inl a) = over.each i r h ∙ (passed n at i a ∙ sym (ahead (n + 1) 0 i (omega arith)))
      each i r h (inr a) =
          over.each i r h ∙ (ahead n at i a ∙ (sym (over-skip n i (none i a (omega (arith, slice_get_within rows i r h, over.long)))) ∙ sym (ahead (n + 1) 0 i (omega arith))))
