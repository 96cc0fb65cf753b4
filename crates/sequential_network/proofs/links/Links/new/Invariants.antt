use Rattle.std.proofs.Common.{◌≡◌, false, [], length}
use Rattle.base.specs.Sets.{Has}
use Rattle.sequential_network.specs.Links.{QueueParts, queue_parts}
use Rattle.sequential_network.proofs.links.Links.new.Given as goal

abbrev pub invariant-loop : goal.invariant-loop
invariant-loop l = ((q : QueueParts) → Has q l.queues.items → q ≡ queue_parts [] false) × (length l.queues.items ≡ l.counter)
