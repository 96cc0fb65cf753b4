use Rattle.std.proofs.Common.{◌≡◌, ◌<◌, ◌≤◌, ◌+◌, inl, inr, ℕ, false, Some, slice_get, sym, ap, ◌∙◌, arith}
use Rattle.std.proofs.lemmas.Bool.{cases_order}
use Rattle.std.proofs.lemmas.Option.{same_Some}
use Rattle.base.specs.Sets.{Has}
use Rattle.base_order.specs.Order.{picked}
use Rattle.net_model.specs.Real.{real}
use Rattle.server_stock.proofs.Shown.{picked-has, has-picked}
use Rattle.server_session.proofs.Moving.{some-passes, none-passes}
use Rattle.server_session.proofs.publishing.is_allowed.Goals as goal

pub loop-i-init : goal.loop-i-init
loop-i-init c = record { within = omega arith; none = λ k a l. absurd (omega (arith, l)) }

pub at-requires : goal.at-requires
at-requires c = omega (arith, c.lemma_sorted.ensures.within c.in-Some.i c.in-Some.ensures.some.1, c.requires)

pub returns-then-is_allowed_by : goal.returns-then-is_allowed_by
returns-then-is_allowed_by c = sym (some-passes (λ a. real.allows a c.args.notice.now) (picked c.args.adverts.now c.args.row.now.members) c.at.result.now
    (has-picked c.args.adverts.now c.args.row.now.members c.in-Some.i c.at.result.now c.in-Some.ensures.some.1 c.at.ensures)
    (sym c.is_allowed_by.ensures ∙ c.if-is_allowed_by.true))

pub overflow_add-at : goal.overflow_add-at
overflow_add-at c = let s = c.lemma_sorted.ensures in omega (arith, s.within c.in-Some.i c.in-Some.ensures.some.1, s.fits)

pub loop-i-smaller : goal.loop-i-smaller
loop-i-smaller c = let i = c.in-Some.ensures.some in omega (arith, c.lemma_sorted.ensures.within c.in-Some.i i.1, i.0)

pub loop-i-preserved : goal.loop-i-preserved
loop-i-preserved c = record {
  within = omega (arith, c.lemma_sorted.ensures.within c.in-Some.i c.in-Some.ensures.some.1);
  none = λ k a l h e. elim (cases_order k c.loop-i.at) [
    | inl q ↦ here k a l h e (omega (arith, q))
    | inr (inl s) ↦ c.loop-i.invariant.none k a s h e
    | inr (inr s) ↦ here k a l h e (omega (arith, s))
  ];
}
  where
    here : (k : ℕ) (a : real.Advert) → k < c.in-Some.i + 1 → Has k c.args.row.now.members → slice_get c.args.adverts.now k ≡ Some a → c.loop-i.at ≤ k → real.allows a c.args.notice.now ≡ false
    here k a l h e s =
        let q : k ≡ c.in-Some.i = omega (arith, l, c.in-Some.ensures.least k s h) in
        let same : a ≡ c.at.result.now = same_Some a c.at.result.now (sym e ∙ (ap (slice_get c.args.adverts.now) q ∙ c.at.ensures)) in
        ap (λ z. real.allows z c.args.notice.now) same ∙ (sym c.is_allowed_by.ensures ∙ c.if-is_allowed_by.false)

pub returns : goal.returns
returns c = sym (none-passes (λ a. real.allows a c.args.notice.now) (picked c.args.adverts.now c.args.row.now.members)
    (λ a h. let k = picked-has c.args.adverts.now c.args.row.now.members a h in c.loop-i.invariant.none k.0 a (c.in_default.ensures.none k.0 k.1) k.1 k.2))
