use Rattle.std.proofs.Common.{◌≡◌, ℕ, ◌<◌, ◌≤◌, ◌==◌, cond, get_or}
use Rattle.base_tree.proofs.row.write_steps.Given as goal

abbrev pub invariant-loop-y : goal.invariant-loop-y
invariant-loop-y l = record {
  done : (k : ℕ) → k < l.y → get_or l.hops k 0 ≡ cond (get_or l.labels k 0 == l.label) l.step (get_or l.initial.hops k 0);
  left : (k : ℕ) → l.y ≤ k → get_or l.hops k 0 ≡ get_or l.initial.hops k 0;
}
