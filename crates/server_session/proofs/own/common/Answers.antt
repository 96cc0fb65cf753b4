use Rattle.std.proofs.Common.{◌≡◌, ◌<◌, ◌≤◌, ◌+◌, inl, inr, ℕ, [], ◌∷◌, ◌++◌, sym, subst, arith}
use Rattle.std.proofs.lemmas.Bool.{cases_order}
use Rattle.base.specs.Sets.{Has}
use Rattle.base_bits.proofs.Passing.{has-push, push-old, push-new}
use Rattle.server_session.proofs.own.common.Goals as goal

pub loop-i-init : goal.loop-i-init
loop-i-init c = record {
  within = omega arith;
  from = λ k h. absurd (subst (Has k) c.new-list.ensures.items h);
  to = λ k l. absurd (omega (arith, l));
}

pub overflow_add-at : goal.overflow_add-at
overflow_add-at c = let s = c.lemma_sorted.ensures in omega (arith, s.within c.in-Some.i c.in-Some.ensures.some.1, s.fits)

pub loop-i-smaller : goal.loop-i-smaller
loop-i-smaller c = let i = c.in-Some.ensures.some in omega (arith, c.lemma_sorted.ensures.within c.in-Some.i i.1, i.0)

pub loop-i-preserved : goal.loop-i-preserved
loop-i-preserved c =
    let v = c.loop-i.invariant in
    let i = c.in-Some.i in
    let e = c.in-Some.ensures in
    let list = c.loop-i.list.items in
    record {
      within = omega (arith, c.lemma_sorted.ensures.within i e.some.1);
      from = λ k h. elim (has-push k i list (subst (Has k) c.in_ok-push.ensures.items h)) [
        | inl m ↦ v.from k m
        | inr q ↦ (subst (λ z. Has z c.args.row.now.members) (sym q) e.some.1, subst (λ z. Has z c.args.other.now.members) (sym q) e.some.2)
      ];
      to = λ k l a b. subst (Has k) (sym c.in_ok-push.ensures.items) (elim (cases_order k c.loop-i.at) [
        | inl q ↦ last k l a b (omega (arith, q))
        | inr (inl s) ↦ push-old k i list (v.to k s a b)
        | inr (inr s) ↦ last k l a b (omega (arith, s))
      ]);
    }
  where
    last : (k : ℕ) → k < c.in-Some.i + 1 → Has k c.args.row.now.members → Has k c.args.other.now.members → c.loop-i.at ≤ k → Has k (c.loop-i.list.items ++ c.in-Some.i ∷ [])
    last k l a b s =
        let e : k ≡ c.in-Some.i = omega (arith, l, c.in-Some.ensures.least k s a b) in
        subst (λ z. Has z (c.loop-i.list.items ++ c.in-Some.i ∷ [])) (sym e) (push-new c.in-Some.i c.loop-i.list.items)

pub returns : goal.returns
returns c =
    let v = c.loop-i.invariant in
    λ k. (λ h. v.from k h, λ w. v.to k (c.in_default.ensures.none k w.0 w.1) w.0 w.1)
