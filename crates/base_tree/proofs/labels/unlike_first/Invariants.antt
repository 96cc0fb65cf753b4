use Rattle.std.proofs.Common.{◌≡◌, ℕ, ◌<◌, ◌≤◌, get_or}
use Rattle.base_tree.proofs.labels.unlike_first.Given as goal

abbrev pub invariant-loop-s : goal.invariant-loop-s
invariant-loop-s l = (x : ℕ) → 1 ≤ x → x < l.s → get_or l.labels x 0 ≡ get_or l.labels 1 0
