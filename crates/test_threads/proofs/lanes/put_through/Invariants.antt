use Rattle.std.proofs.Common.{◌≡◌, ◌+◌, ◌≤◌, length}
use Rattle.thread_lane.specs.Lane.{put_list, spare}
use Rattle.test_threads.proofs.lanes.put_through.Given as goal

abbrev pub invariant-loop-i : goal.invariant-loop-i
invariant-loop-i g l = record {
  room : l.n ≤ spare l.a + l.i;
  few : length (put_list l.a) ≡ l.i;
}
