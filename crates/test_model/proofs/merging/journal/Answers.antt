use Rattle.std.proofs.Common.{◌≡◌, ◌+◌, arith}
use Rattle.test_model.proofs.Pushing.{next-entry}
use Rattle.test_model.proofs.merging.journal.Goals as goal

pub loop-more-preserved : goal.loop-more-preserved
loop-more-preserved c =
    let stamp : c.entry.result.stamp ≡ c.args.first + c.loop-more.more = omega (arith, c.entry.ensures.stamp, c.from.ensures, c.from-in-loop-more.ensures) in
    rw c.in_ok-push.ensures.items
    (next-entry c.args.server c.args.first c.loop-more.more c.loop-more.entries.items c.entry.result c.entry.ensures.server stamp c.loop-more.invariant)
