-- What the bits of signatures tell of what may be covered.
use Rattle.std.proofs.Common.{◌≡◌, inl, inr, ℕ, ◌<◌, ◌≤◌, ◌+◌, ◌-◌, zero, suc, ◌==◌, nat_lt, Bool, true, false, cond, ◌||◌, bit_and, min, List, length, slice_index, refl, sym, ap, subst, ◌∙◌, arith}
use Rattle.std.specs.Int.{bit_at}
use Rattle.std.proofs.lemmas.Nat.Bits.{bit_at_and, bit_at-zero, bit_at-lt}
use Rattle.std.proofs.lemmas.Bool.{false_from_ne_true}
use Rattle.std.proofs.lemmas.Bool.Decides.{nat_tests}
use Rattle.base.specs.Sets.{Has, put_in}
use Rattle.base.proofs.Roots.{filter-iff}
use Rattle.base.proofs.Sets.{member-iff}
use Rattle.base_bits.specs.Words.{passing}
use Rattle.base_bits.specs.Rows.{Numbers, is_in, common}
use Rattle.base_bits.proofs.Passing.{nat_laws, passing-has, passing-skip, passing-step}
use Rattle.base_order.specs.Order.{covers_at, IsSign, HasSigns}
use Rattle.base_order.proofs.Rows.{cover-at}
use Rattle.base_order.specs.Columns.{may_have, MayCover, column_row, HasCovered}
use Rattle.base.proofs.Lists.{get-below}

may-keep : (sign other bit : ℕ) → MayCover sign other → bit_at sign bit ≡ 1 → may_have other bit ≡ true
may-keep sign other bit (inl z) e = absurd (omega (arith, bit_at-zero bit, sym (ap (λ n. bit_at n bit) z) ∙ e))
may-keep sign other bit (inr (inl z)) e = subst (λ n. ((n == 0) || (bit_at n bit == 1)) ≡ true) (sym z) refl
may-keep sign other bit (inr (inr a)) e =
    let both : bit_at sign bit ≡ min (bit_at sign bit) (bit_at other bit) = sym (ap (λ n. bit_at n bit) a) ∙ bit_at_and sign other bit in
    let one : bit_at other bit ≡ 1 = omega (arith, both, e, bit_at-lt other bit) in
    grind (arith, nat_tests)

-- what a row keeps once it is narrowed by the column of a bit
pub kept : (signs : List ℕ) (sign bit : ℕ) (holds : Bool) (row : List ℕ) (column : Numbers) (j : ℕ) → column ≡ column_row signs bit → holds ≡ (bit_at sign bit == 1)
    → j < length signs → MayCover sign (slice_index signs j) → Has j row → Has j (cond holds (common row column.members) row)
kept signs sign bit false row column j e q l may h = h
kept signs sign bit true row column j e q l may h =
    let set : bit_at sign bit ≡ 1 = grind (arith, nat_tests) in
    let in_column : Has j column.members = subst (λ (z : Numbers). Has j z.members) (sym e) (passing-has (λ k. may_have (slice_index signs k) bit) (length signs) j l (may-keep sign (slice_index signs j) bit may set)) in
    (filter-iff (λ k. is_in k column.members) j row).1 (h, (member-iff nat_laws j column.members).1 in_column)

-- no number from one to another passes
pub passing-gap : (test : ℕ → Bool) (at d : ℕ) → ((k : ℕ) → at ≤ k → k < at + d → test k ≡ false) → passing test (at + d) ≡ passing test at
passing-gap test at zero none = ap (passing test) (omega arith)
passing-gap test at (suc d) none =
    ap (passing test) (omega arith) ∙ (sym (passing-skip test (at + d) (none (at + d) (omega arith) (omega arith))) ∙ passing-gap test at d (λ k l m. none k l (omega arith)))

module _ {T : Type 0} (covers : T → T → Bool) (marked : T → ℕ) (never_misses : (f g : T) → covers f g ≡ true → bit_and (marked f) (marked g) ≡ marked f) where
  -- what an item covers it may cover by the signatures
  may-cover : (x y : T) (sign other : ℕ) → IsSign marked x sign → IsSign marked y other → covers x y ≡ true → MayCover sign other
  may-cover x y sign other (inl z) b e = inl z
  may-cover x y sign other (inr a) (inl z) e = inr (inl z)
  may-cover x y sign other (inr a) (inr b) e = inr (inr (rw (a, b) (never_misses x y e)))

  pub may-cover-at : (items : List T) (signs : List ℕ) → HasSigns marked items signs → (i j : ℕ) → i < length items → j < length items → covers_at covers items i j ≡ true
      → MayCover (slice_index signs i) (slice_index signs j)
  may-cover-at items signs has i j l m e =
      let x = get-below items i l in
      let y = get-below items j m in
      may-cover x.0 y.0 (slice_index signs i) (slice_index signs j) (has.each i x.0 x.1) (has.each j y.0 y.1) (sym (cover-at covers items i j x.0 y.0 x.1 y.1) ∙ e)

-- the row of those that an item covers, where the next candidate is looked at, and where there is no further one
module _ {T : Type 0} (covers : T → T → Bool) (items : List T) (i : ℕ) (candidates : List ℕ) (has : HasCovered covers items i candidates) where
  abbrev test : ℕ → Bool
  test j = covers_at covers items i j

  pub candidate-step : (at j : ℕ) (holds : Bool) (row : List ℕ) → at ≤ j → j < length items → ((k : ℕ) → at ≤ k → Has k candidates → j ≤ k) → row ≡ passing (λ k. covers_at covers items i k) at
      → holds ≡ covers_at covers items i j → cond holds (put_in nat_lt j row) row ≡ passing (λ k. covers_at covers items i k) (j + 1)
  candidate-step at j holds row l m least e q =
      passing-step test j holds row (e ∙ (sym (passing-gap test at (j - at) none) ∙ ap (passing test) (omega (arith, l)))) q
    where
      none : (k : ℕ) → at ≤ k → k < at + (j - at) → test k ≡ false
      none k a b = false_from_ne_true (test k) (λ t. let n = least k a (has k (omega (arith, b, m, l)) t) in absurd (omega (arith, b, l, n)))

  pub candidate-none : (at : ℕ) (row : List ℕ) → at ≤ length items → ((k : ℕ) → Has k candidates → k < at) → row ≡ passing (λ k. covers_at covers items i k) at
      → row ≡ passing (λ k. covers_at covers items i k) (length items)
  candidate-none at row l none e = e ∙ (sym (passing-gap test at (length items - at) below) ∙ ap (passing test) (omega (arith, l)))
    where
      below : (k : ℕ) → at ≤ k → k < at + (length items - at) → test k ≡ false
      below k a b = false_from_ne_true (test k) (λ t. let n = none k (has k (omega (arith, b, l)) t) in absurd (omega (arith, n, a)))
