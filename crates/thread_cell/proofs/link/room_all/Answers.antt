use Rattle.std.proofs.Common.{arith}
use Rattle.thread_cell.specs.Links.{IsRoomed}
use Rattle.thread_cell.proofs.Walks.{partly-more, partly-end, partly-stop, both-map, both-each}
use Rattle.thread_cell.proofs.Unmoved.{roomed-refl}
use Rattle.thread_cell.proofs.link.room_all.Goals as goal

pub loop-link-preserved : goal.loop-link-preserved
loop-link-preserved c = partly-more _ _ _ _ c.link-item.result c.room.new.self (omega arith) c.loop-link.invariant (c.room.ensures.roomed, c.in_ok-room.ensures.room)

pub returns-in_err-room-clause-roomed : goal.returns-in_err-room-clause-roomed
returns-in_err-room-clause-roomed c = partly-stop _ IsRoomed (λ x y r. r.0) roomed-refl _ _ _ c.link-item.result c.room.new.self (omega arith) c.loop-link.invariant c.room.ensures.roomed

pub returns-clause-roomed : goal.returns-clause-roomed
returns-clause-roomed c = both-map _ IsRoomed (λ x y r. r.0) _ _ (partly-end _ _ _ _ (omega arith) c.loop-link.invariant)

pub returns-clause-room : goal.returns-clause-room
returns-clause-room c = both-each _ _ (λ x y r. r.1) _ _ (partly-end _ _ _ _ (omega arith) c.loop-link.invariant)
