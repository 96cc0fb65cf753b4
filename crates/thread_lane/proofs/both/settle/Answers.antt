use Rattle.std.proofs.Common.{rules, ◌≡◌, ◌+◌, ◌≤◌, ◌++◌, ◌∙◌, [], ap, arith, length, drop, subst, sym}
use Rattle.rtrb.specs.Ring.{received, known_items}
use Rattle.thread_lane.proofs.Marks.{raise_marked}
use Rattle.thread_lane.proofs.Prefixes.{taken_begins, still_comes}
use Rattle.thread_lane.proofs.both.settle.Goals as goal

pub store-requires : goal.store-requires
store-requires g c = let lane = c.args.a.now in let seat = lane.seat in let new = lane.pushed + c.move_all-pushed.result in
    let bare : seat.me ≡ (seat.me.0, []) = ap (λ l. (seat.me.0, l)) lane.seated.2 in
    (search rules, search rules, raise_marked _ seat.id new seat.me.0 seat.me bare lane.counts.1 (omega (arith, lane.counts.2)))

pub returns-then-is_err-clause-prefix : goal.returns-then-is_err-clause-prefix
returns-then-is_err-clause-prefix g c = taken_begins c.args.b.now.taken _ _ _ c.args.a.now.outbox.items c.slots_beside-waiting.ensures.fifo

pub returns-clause-known : goal.returns-clause-known
returns-clause-known g c = let b = c.args.b.now in let m = c.move_all-pushed.ensures in let s = c.slots_beside-waiting.ensures in let w = c.slots_beside-waiting.new.self in
    let small : b.taken ≤ length (received b.consumer) = omega (arith, b.counts.0) in
    let same : received w ≡ received b.consumer = s.looked.1 in
    let wide : b.taken ≤ length (received w) = subst (λ l. b.taken ≤ length l) (sym same) small in
    let cut : drop b.taken (received w) ≡ c.reserve.new.self.items = ap (λ l. drop b.taken l) same ∙ b.suffix ∙ sym c.reserve.ensures.items in
    still_comes b.taken _ _ _ _ _ c.args.a.now.outbox.items _ _ _ small b.suffix s.looked.2 (ap (λ l. l ++ known_items w) (sym same) ∙ s.fifo) (m.received.0 ∙ m.put.0) (m.rest b.taken wide cut).0 m.received.1
