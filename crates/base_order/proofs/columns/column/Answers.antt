use Rattle.std.proofs.Common.{slice_index, ◌∙◌}
use Rattle.base_bits.proofs.Passing.{passing-step}
use Rattle.base_order.specs.Columns.{may_have}
use Rattle.base_order.proofs.columns.column.Goals as goal

pub loop-j-preserved : goal.loop-j-preserved
loop-j-preserved c =
    let i = c.loop-j.invariant in
    record {
      width = c.put_if.ensures.width ∙ i.width;
      members = c.put_if.ensures.members ∙ passing-step (λ j. may_have (slice_index c.args.signs.now j) c.args.bit) c.loop-j.j c.may_have-may.result c.loop-j.row.members i.members c.may_have-may.ensures;
    }
