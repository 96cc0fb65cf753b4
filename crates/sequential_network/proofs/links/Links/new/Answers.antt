use Rattle.std.proofs.Common.{rules}
use Rattle.sequential_network.proofs.Queues.{all-silent, one-more}
use Rattle.sequential_network.proofs.links.Links.new.Goals as goal

pub loop-preserved : goal.loop-preserved
loop-preserved c = (rw c.in_ok-push.ensures.items (one-more c.loop.queues.items c.new.result c.new.ensures c.loop.invariant.0), search rules)

pub returns : goal.returns
returns c = all-silent c.loop.queues.items c.loop.invariant.0
