use Rattle.std.proofs.Common.{rules}
use Rattle.std.proofs.lemmas.List.Sorted.{answers_always}
use Rattle.filter_types.specs.Notice.{is_name_less}
use Rattle.filter_types.proofs.Adjacent.{names_answered}
use Rattle.filter_types.proofs.notice.are_rising.Goals as goal

pub returns : goal.returns
returns c = names_answered c.args.attributes.now c.is_sorted_by.result (c.is_sorted_by.ensures.cases is_name_less (answers_always _ _ _ (λ f a r g h. search rules)))
