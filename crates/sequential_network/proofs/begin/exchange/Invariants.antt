use Rattle.sequential_network.proofs.Turning.{AreGoing}
use Rattle.sequential_network.proofs.begin.exchange.Given as goal

abbrev pub invariant-loop-i : goal.invariant-loop-i
invariant-loop-i l = AreGoing l.i l.fn.standings.items l.fn.places.items l.standings.items l.places.items
