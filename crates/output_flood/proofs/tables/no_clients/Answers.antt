use Rattle.std.proofs.Common.{length, ◌+◌, ap, ◌∙◌}
use Rattle.output_flood.proofs.Places.{none_more}
use Rattle.output_flood.proofs.tables.no_clients.Goals as goal
use Rattle.base.proofs.Lists.{length-push}

pub loop-preserved : goal.loop-preserved
loop-preserved c =
    let client = c.in_ok-none.field-0 in record {
      count = ap length c.in_ok-push.ensures.items ∙ length-push c.loop.list.items client ∙ ap (λ n. n + 1) c.loop.invariant.count;
      none = none_more c.args.count c.loop.list.items c.push.new.self.items client c.in_ok-push.ensures.items
          (record { sized = c.in_ok-none.ensures.sized; done = c.in_ok-none.ensures.done; now = c.in_ok-none.ensures.now; every = c.in_ok-none.ensures.every; ever = c.in_ok-none.ensures.ever })
          c.loop.invariant.none;
    }
