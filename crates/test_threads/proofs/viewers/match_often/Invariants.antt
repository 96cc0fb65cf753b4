use Rattle.std.proofs.Common.{◌≡◌}
use Rattle.thread_versions.specs.Ends.{width_of}
use Rattle.test_threads.proofs.viewers.match_often.Given as goal

abbrev pub invariant-loop : goal.invariant-loop
invariant-loop g l = l.row.width ≡ width_of l.viewer
