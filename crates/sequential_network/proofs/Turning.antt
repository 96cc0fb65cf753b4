-- Standings that are taken on one place after the other.
use Rattle.std.proofs.Common.{◌≡◌, ℕ, zero, suc, ◌+◌, ◌<◌, ◌≤◌, List, [], ◌∷◌, length, set, Some, slice_get, refl, sym, ap, subst, ◌∙◌, arith}
use Rattle.std.proofs.lemmas.Option.{slice_get_within}
use Rattle.base.proofs.Numbers.{Same, Is, Not, compare}
use Rattle.server_core.specs.Core.{CoreParts}
use Rattle.sequential_network.specs.declared.relinking.Standing.{Standing}
use Rattle.sequential_network.specs.Begin.{IsExchanged, CanTake, CanAllTake, AreExchanged}
use Rattle.sequential_network.proofs.Beginning.{also}
use Rattle.base.proofs.Lists.{get-one, get-set-other}
use Rattle.std.proofs.lemmas.List.{length-set}

-- what stands at a place where the first so many are exchanged
pub record IsGoing (n : ℕ) (place : ℕ) (standing : Standing) (core : CoreParts) (left : Standing) (after : CoreParts) : Type 0 where
  pub done : place < n → IsExchanged standing core left after
  pub other : n ≤ place → (left ≡ standing) × (after ≡ core)

pub record AreGoing (n : ℕ) (standings : List Standing) (old : List CoreParts) (back : List Standing) (new : List CoreParts) : Type 0 where
  pub long : length new ≡ length old
  pub long_back : length back ≡ length standings
  pub each : (place : ℕ) (standing : Standing) (core : CoreParts) → slice_get standings place ≡ Some standing → slice_get old place ≡ Some core
      → (left : Standing) × (after : CoreParts) × (slice_get back place ≡ Some left) × (slice_get new place ≡ Some after) × IsGoing n place standing core left after

pub set-same : {X : Type 0} (xs : List X) (i : ℕ) (x : X) → i < length xs → slice_get (set xs i x) i ≡ Some x
set-same [] i x l = absurd (omega (arith, l))
set-same (y ∷ ys) zero x l = refl
set-same (y ∷ ys) (suc i) x l = set-same ys i x (omega (arith, l))

-- at the next place all is as it was
pub going-here : (n : ℕ) (standings : List Standing) (old : List CoreParts) (back : List Standing) (new : List CoreParts) (left : Standing) (after : CoreParts) → AreGoing n standings old back new → CanAllTake standings old
    → slice_get back n ≡ Some left → slice_get new n ≡ Some after → CanTake left after × (slice_get standings n ≡ Some left) × (slice_get old n ≡ Some after)
going-here n standings old back new left after g can b a =
    let o = also new old n after (sym g.long) a in
    let s = also back standings n left (sym g.long_back) b in
    let e = g.each n s.0 o.0 s.1 o.1 in
    let same = e.4.other (omega arith) in
    let one : s.0 ≡ left = sym same.0 ∙ get-one back n e.0 left e.2 b in
    let two : o.0 ≡ after = sym same.1 ∙ get-one new n e.1 after e.3 a in
    (subst (λ z. CanTake left z) two (subst (λ z. CanTake z o.0) one (can.each n s.0 o.0 s.1 o.1)), subst (λ z. slice_get standings n ≡ Some z) one s.1, subst (λ z. slice_get old n ≡ Some z) two o.1)

pub going-next : (n : ℕ) (standings : List Standing) (old : List CoreParts) (back : List Standing) (new : List CoreParts) (left left' : Standing) (after after' : CoreParts) → AreGoing n standings old back new
    → slice_get standings n ≡ Some left → slice_get old n ≡ Some after → n < length back → n < length new → IsExchanged left after left' after'
    → AreGoing (n + 1) standings old (set back n left') (set new n after')
going-next n standings old back new left left' after after' g s o lb ln x = record {
  long = length-set new n after' ∙ g.long;
  long_back = length-set back n left' ∙ g.long_back;
  each = λ place standing core b a. at-place place standing core b a (compare place n);
}
  where
    at-place : (place : ℕ) (standing : Standing) (core : CoreParts) → slice_get standings place ≡ Some standing → slice_get old place ≡ Some core → Same place n
        → (l : Standing) × (c : CoreParts) × (slice_get (set back n left') place ≡ Some l) × (slice_get (set new n after') place ≡ Some c) × IsGoing (n + 1) place standing core l c
    at-place place standing core b a (Is p v) =
        let one : left ≡ standing = get-one standings n left standing s (subst (λ z. slice_get standings z ≡ Some standing) p b) in
        let two : after ≡ core = get-one old n after core o (subst (λ z. slice_get old z ≡ Some core) p a) in
        let moved : IsExchanged standing core left' after' = subst (λ z. IsExchanged standing z left' after') two (subst (λ z. IsExchanged z after left' after') one x) in (
          left',
          after',
          subst (λ z. slice_get (set back n left') z ≡ Some left') (sym p) (set-same back n left' lb),
          subst (λ z. slice_get (set new n after') z ≡ Some after') (sym p) (set-same new n after' ln),
          record { done = λ l. moved; other = λ l. absurd (omega (arith, l, p)) },
        )
    at-place place standing core b a (Not other v) =
        let e = g.each place standing core b a in
        (e.0, e.1, get-set-other back n place left' other ∙ e.2, get-set-other new n place after' other ∙ e.3, record { done = λ l. e.4.done (less place other l); other = λ l. e.4.other (omega (arith, l)) })
      where
        less : (place : ℕ) → (place ≡ n → ⊥) → place < n + 1 → place < n
        less place other l = grind (arith, other, l)

pub going-end : (n : ℕ) (standings : List Standing) (old : List CoreParts) (back : List Standing) (new : List CoreParts) → length old ≤ n → AreGoing n standings old back new → AreExchanged standings old back new
going-end n standings old back new end g = record {
  long = g.long;
  long_back = g.long_back;
  each = λ place standing core s c.
      let e = g.each place standing core s c in
      (e.0, e.1, e.2, e.3, e.4.done (omega (arith, end, slice_get_within old place core c)));
}
