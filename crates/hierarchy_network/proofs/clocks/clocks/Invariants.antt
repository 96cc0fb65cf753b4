use Rattle.std.proofs.Common.{◌≡◌, ◌<◌, ◌^◌, ℕ, map, take}
use Rattle.base.specs.Sets.{Has}
use Rattle.hierarchy_network.specs.Clocks.{clock_from}
use Rattle.hierarchy_network.proofs.clocks.clocks.Given as goal

abbrev pub invariant-loop-place : goal.invariant-loop-place
invariant-loop-place l = (l.clocks.items ≡ map (clock_from l.least) (take l.place-index l.places)) × ((c : ℕ) → Has c l.clocks.items → c < 2 ^ 62)
