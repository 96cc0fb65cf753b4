use Rattle.std.proofs.Common.{◌<◌}
use Rattle.thread_lane.specs.Lane.{spare}
use Rattle.thread_cell.specs.Links.{IsRoomed}
use Rattle.thread_cell.proofs.Walks.{Partly}
use Rattle.thread_cell.proofs.link.room_all.Given as goal

abbrev pub invariant-loop-link : goal.invariant-loop-link
invariant-loop-link l = Partly (λ x y. IsRoomed x y × (0 < spare y.enter)) l.link-index l.initial.links l.links
