use Rattle.std.proofs.Common.{◌≡◌, true, arith}
use Rattle.std.proofs.lemmas.Grind.{common_steps}
use Rattle.filter_types.specs.Notice.{are_rising}
use Rattle.filter_types.proofs.Shapes.{notice_of}
use Rattle.filter_types.proofs.notice.Notice.of_rising.Goals as goal

pub invariant_of-result : goal.invariant_of-result
invariant_of-result c =
    let rise : are_rising c.deref.result.now ≡ true = grind (arith, common_steps) in
    rw c.in_ok-attributes.ensures (notice_of c.args.attributes.items (grind (arith, common_steps)) (grind (arith, common_steps)) (rw c.deref.ensures.value at rise) (rw c.deref-2.ensures.value at c.lemma_attributes.ensures.names) (rw c.deref-2.ensures.value at c.lemma_attributes.ensures.values))
