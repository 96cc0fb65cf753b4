-- Proves that a walk along two sets of numbers finds whether they are the same.
use Rattle.std.proofs.Common.{◌≡◌, inl, inr, ℕ, ◌+◌, ◌<◌, ◌≤◌, nat_lt, Bool, true, false, not, IsTrue, List, Option, None, Some, IfSome, IfNone, refl, sym, subst, arith}
use Rattle.std.specs.Option.{is_some}
use Rattle.std.proofs.lemmas.Bool.{cases_lt}
use Rattle.base.specs.Sets.{Has, IsRising}
use Rattle.base.proofs.Sets.{ext}
use Rattle.base_bits.proofs.Passing.{nat_laws}

-- the members below a number are the same
pub record AreSameBelow (xs ys : List ℕ) (at : ℕ) : Type 0 where
  pub to : (k : ℕ) → k < at → Has k xs → Has k ys
  pub from : (k : ℕ) → k < at → Has k ys → Has k xs

-- the next member of both is the same
pub next-same : (xs ys : List ℕ) (at i : ℕ) → AreSameBelow xs ys at → Has i xs → Has i ys
    → ((k : ℕ) → at ≤ k → Has k xs → i ≤ k) → ((k : ℕ) → at ≤ k → Has k ys → i ≤ k) → AreSameBelow xs ys (i + 1)
next-same xs ys at i same h j least lowest = record { to = go xs ys (same.to) j least; from = go ys xs (same.from) h lowest }
  where
    go : (us vs : List ℕ) → ((k : ℕ) → k < at → Has k us → Has k vs) → Has i vs → ((k : ℕ) → at ≤ k → Has k us → i ≤ k) → (k : ℕ) → k < i + 1 → Has k us → Has k vs
    go us vs f there low k l m = elim (cases_lt k at) [
      | inl s ↦ f k s m
      | inr s ↦
          let low : i ≤ k = low k s m in
          let e : i ≡ k = omega (arith, l, low) in
          subst (λ (z : ℕ). Has z vs) e there
    ]

-- there is no further one in either
pub all-same : (xs ys : List ℕ) (at : ℕ) → IsRising nat_lt xs → IsRising nat_lt ys → AreSameBelow xs ys at
    → ((k : ℕ) → Has k xs → k < at) → ((k : ℕ) → Has k ys → k < at) → xs ≡ ys
all-same xs ys at r s same f g = ext nat_laws xs ys r s (λ k m. same.to k (f k m) m) (λ k m. same.from k (g k m) m)

-- equal sets have the same next member
pub next-none : (xs ys : List ℕ) (at i : ℕ) → xs ≡ ys → at ≤ i → Has i xs → ((k : ℕ) → Has k ys → k < at) → ⊥
next-none xs ys at i e le h none = let l = none i (subst (λ (z : List ℕ). Has i z) e h) in absurd (omega (arith, l, le))

pub next-one : (xs ys : List ℕ) (at i j : ℕ) → xs ≡ ys → at ≤ i → Has i xs → ((k : ℕ) → at ≤ k → Has k xs → i ≤ k) → at ≤ j → Has j ys → ((k : ℕ) → at ≤ k → Has k ys → j ≤ k) → j ≡ i
next-one xs ys at i j e le h least so there lowest =
    let a = least j so (subst (λ (z : List ℕ). Has j z) (sym e) there) in
    let b = lowest i le (subst (λ (z : List ℕ). Has i z) e h) in
    omega (arith, a, b)

-- whether there is a further one in the second tells whether they are the same
pub ended : (xs ys : List ℕ) (at : ℕ) (r : Option ℕ) (b : Bool) → IsRising nat_lt xs → IsRising nat_lt ys → AreSameBelow xs ys at
    → ((k : ℕ) → Has k xs → k < at) → IfSome r (λ i. (at ≤ i) × Has i ys) → IfNone r ((k : ℕ) → Has k ys → k < at)
    → is_some r ≡ not b → (IsTrue b → xs ≡ ys) × (xs ≡ ys → IsTrue b)
ended xs ys at (Some j) true r s same f some none e = absurd cc
ended xs ys at (Some j) false r s same f some none e = (λ h. absurd (cc h), λ q. absurd (next-none ys xs at j (sym q) some.0 some.1 f))
ended xs ys at None false r s same f some none e = absurd cc
ended xs ys at None true r s same f some none e = (λ h. all-same xs ys at r s same f none, λ q. refl)
