use Rattle.std.proofs.Common.{length, ◌+◌, ap, ◌∙◌}
use Rattle.output_flood.proofs.Gathering.{none_more}
use Rattle.output_flood.proofs.rows.no_rows.Goals as goal
use Rattle.base.proofs.Lists.{length-push}

pub loop-count-preserved : goal.loop-count-preserved
loop-count-preserved c =
    let rows = c.in_ok-rows.rows in record {
      count = ap length c.in_ok-push.ensures.items ∙ length-push c.loop-count.all.items rows ∙ ap (λ n. n + 1) c.loop-count.invariant.count;
      none = none_more c.loop-count.all.items c.push.new.self.items rows c.in_ok-rows.ensures.items c.in_ok-push.ensures.items c.loop-count.invariant.none;
    }
