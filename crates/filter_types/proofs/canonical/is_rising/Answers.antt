use Rattle.std.proofs.Common.{rules}
use Rattle.std.proofs.lemmas.List.Sorted.{answers_always}
use Rattle.std.specs.Ordering.{is_lt}
use Rattle.filter_constraints.specs.Order.{constraint_cmp}
use Rattle.filter_types.proofs.Adjacent.{rising_answered}
use Rattle.filter_types.proofs.canonical.is_rising.Goals as goal

pub returns : goal.returns
returns c = rising_answered c.args.constraints.now c.is_sorted_by.result (c.is_sorted_by.ensures.cases (λ c d. is_lt (constraint_cmp c d)) (answers_always _ _ _ (λ f a r g h. search rules)))
