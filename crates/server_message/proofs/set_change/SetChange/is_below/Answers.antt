use Rattle.std.proofs.Common.{nat_lt, refl, subst, sym}
use Rattle.base.specs.Sets.{Has, IsRising}
use Rattle.server_message.proofs.set_change.SetChange.is_below.Goals as goal
use Rattle.std.proofs.lemmas.Bool.{true_from_ne_false, false≢true}

pub returns : goal.returns
returns c = (
  λ t. record {
    withdrawn_rising = subst (IsRising nat_lt) c.withdrawn-withdrawn.ensures (c.if-not-are_rising_below.ensures.rising refl);
    added_rising = subst (IsRising nat_lt) c.added-added.ensures (c.if-not-are_rising_below-2.ensures.rising refl);
    withdrawn_known = λ i h. c.if-not-are_rising_below.ensures.below refl i (subst (Has i) (sym c.withdrawn-withdrawn.ensures) h);
    added_known = λ i h. c.if-not-are_rising_below-2.ensures.below refl i (subst (Has i) (sym c.added-added.ensures) h);
    apart = λ i h k. c.are_apart.ensures.yes t i (subst (Has i) (sym c.withdrawn-withdrawn.ensures) h) (subst (Has i) (sym c.added-added.ensures) k);
  },
  λ k. true_from_ne_false c.are_apart.result (λ f. c.are_apart.ensures.no f (λ i h l. k.apart i (subst (Has i) c.withdrawn-withdrawn.ensures h) (subst (Has i) c.added-added.ensures l))),
)

pub returns-then-not-are_rising_below : goal.returns-then-not-are_rising_below
returns-then-not-are_rising_below c =
    (λ t. absurd (false≢true t), λ k. absurd (c.if-not-are_rising_below.ensures.no refl (subst (IsRising nat_lt) (sym c.withdrawn-withdrawn.ensures) k.withdrawn_rising) (λ i h. k.withdrawn_known i (subst (Has i) c.withdrawn-withdrawn.ensures h))))

pub returns-then-not-are_rising_below-2 : goal.returns-then-not-are_rising_below-2
returns-then-not-are_rising_below-2 c =
    (λ t. absurd (false≢true t), λ k. absurd (c.if-not-are_rising_below-2.ensures.no refl (subst (IsRising nat_lt) (sym c.added-added.ensures) k.added_rising) (λ i h. k.added_known i (subst (Has i) c.added-added.ensures h))))
