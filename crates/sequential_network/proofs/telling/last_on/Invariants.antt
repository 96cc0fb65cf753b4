use Rattle.sequential_network.specs.Links.{messages_at}
use Rattle.sequential_network.proofs.Last.{AreToldTo}
use Rattle.sequential_network.proofs.telling.last_on.Given as goal

abbrev pub invariant-loop-to : goal.invariant-loop-to
invariant-loop-to l = AreToldTo l.to-index (messages_at l.links) l.server l.outs l.told.items
