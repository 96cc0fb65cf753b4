use Rattle.std.proofs.Common.{rules, ◌≡◌, ◌+◌, [], ap, arith}
use Rattle.thread_lane.proofs.Marks.{raise_marked}
use Rattle.thread_lane.proofs.putting.LaneIn.flush.Goals as goal

pub store-requires : goal.store-requires
store-requires g c = let lane = c.args.self.now in let seat = lane.seat in let new = lane.pushed + c.move_out-moved.result in
    let bare : seat.me ≡ (seat.me.0, []) = ap (λ l. (seat.me.0, l)) lane.seated.2 in
    (search rules, search rules, raise_marked _ seat.id new seat.me.0 seat.me bare lane.counts.1 (omega (arith, lane.counts.2)))
