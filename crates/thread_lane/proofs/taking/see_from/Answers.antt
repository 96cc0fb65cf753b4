use Rattle.std.proofs.Common.{rules, ◌≡◌, [], ap}
use Rattle.thread_lane.proofs.Marks.{look_marked}
use Rattle.thread_lane.proofs.taking.see_from.Goals as goal

pub compare_exchange-requires : goal.compare_exchange-requires
compare_exchange-requires g c = let seat = c.loop.seat in let i = c.loop.invariant in
    let bare : seat.me ≡ (seat.me.0, []) = ap (λ l. (seat.me.0, l)) i.bare in
    (search rules, search rules, look_marked _ seat.id c.args.had seat.me.0 seat.me bare i.takes)
