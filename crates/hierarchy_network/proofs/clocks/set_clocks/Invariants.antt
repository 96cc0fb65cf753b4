use Rattle.std.proofs.Common.{◌≡◌, take}
use Rattle.hierarchy_network.specs.Clocks.{with_clocks}
use Rattle.hierarchy_network.proofs.clocks.set_clocks.Given as goal

abbrev pub invariant-loop-i : goal.invariant-loop-i
invariant-loop-i l = l.places.items ≡ with_clocks (take l.i l.clocks) l.fn.places.items
