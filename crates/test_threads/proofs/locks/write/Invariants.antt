use Rattle.std.proofs.Common.{◌≡◌, false}
use Rattle.thread_lock.specs.Passes.{IsPassOf, has_in_hand}
use Rattle.test_threads.proofs.locks.write.Given as goal

abbrev pub invariant-loop : goal.invariant-loop
invariant-loop g l = record {
  can : (goal.iterator-loop g).can_next l.iterator';
  ends : (goal.iterator-loop g).is_finite l.iterator';
  own : IsPassOf (λ j. j.name) l.lock l.pass;
  free : has_in_hand l.pass ≡ false;
}
