use Rattle.std.proofs.Common.{ℕ, ◌<◌}
use Rattle.thread_cell.specs.Links.{IsNeighbour}
use Rattle.thread_cell.proofs.link.place_in.Given as goal

abbrev pub invariant-loop-place : goal.invariant-loop-place
invariant-loop-place l = (k : ℕ) → k < l.place → IsNeighbour k l.neighbour l.links → ⊥
