use Rattle.std.proofs.Common.{◌≡◌, [], false}
use Rattle.rtrb.specs.Ring.{ConsumerLooked}
use Rattle.thread_lane.proofs.taking.see_from.Given as goal

abbrev pub invariant-loop : goal.invariant-loop
invariant-loop g l = record {
  can : (goal.iterator-loop g).can_next l.iterator';
  ends : (goal.iterator-loop g).is_finite l.iterator';
  looked : ConsumerLooked l.initial.consumer l.consumer;
  table : l.seat.table_id ≡ l.initial.seat.table_id;
  bare : l.seat.me.1 ≡ [];
  takes : l.seat.me.0.puts ≡ false;
  misses : l.seat.me.0.misses ≡ l.initial.seat.me.0.misses;
}
