use Rattle.std.proofs.Common.{◌≡◌, [], ◌∷◌}
use Rattle.thread_versions.specs.Ends.{forwarding_of}
use Rattle.test_threads.proofs.viewers.publish_in_turn.Given as goal

abbrev pub invariant-loop-i : goal.invariant-loop-i
invariant-loop-i g l = record {
  width : (forwarding_of l.publisher).width ≡ 9;
  interfaces : (forwarding_of l.publisher).interfaces ≡ 2 ∷ 65 ∷ [];
}
