use Rattle.std.proofs.Common.{◌≡◌, ◌+◌, ◌≤◌, length}
use Rattle.thread_lane.specs.Lane.{put_list, spare, SameIn}
use Rattle.test_threads.proofs.lanes.put_numbers.Given as goal

abbrev pub invariant-loop-i : goal.invariant-loop-i
invariant-loop-i l = record {
  same : SameIn l.initial.a l.a;
  room : l.n ≤ spare l.a + l.i;
  few : length (put_list l.a) ≡ l.i;
}
