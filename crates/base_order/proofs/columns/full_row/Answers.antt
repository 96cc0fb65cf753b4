use Rattle.std.proofs.Common.{nat_lt, true, refl, ap, ◌∙◌}
use Rattle.base.specs.Sets.{put_in}
use Rattle.base_bits.proofs.Passing.{passing-put}
use Rattle.base_order.proofs.columns.full_row.Goals as goal

pub loop-j-preserved : goal.loop-j-preserved
loop-j-preserved c =
    let i = c.loop-j.invariant in
    record {
      width = c.insert.ensures.width ∙ i.width;
      members = c.insert.ensures.members ∙ (ap (put_in nat_lt c.loop-j.j) i.members ∙ passing-put (λ j. true) c.loop-j.j refl);
    }
