use Rattle.std.proofs.Common.{◌≡◌, ◌++◌, length}
use Rattle.thread_lane.specs.Lane.{put_list, taken_list, rest_list}
use Rattle.test_threads.proofs.lanes.take_rest.Given as goal

abbrev pub invariant-loop-b : goal.invariant-loop-b
invariant-loop-b g l = record {
  all : taken_list l.b ++ rest_list l.b ≡ put_list l.a;
}

abbrev pub decreases-loop-b : goal.decreases-loop-b
decreases-loop-b g l = length (rest_list l.b)
