use Rattle.std.proofs.Common.{◌≡◌, ◌≤◌, ◌+◌, drop, length}
use Rattle.law_phases.specs.Trees.{trees_by}
use Rattle.server_flow.proofs.trees.trees_come.Given as goal

abbrev pub invariant-loop-i : goal.invariant-loop-i
invariant-loop-i l = (l.i + trees_by (drop l.i l.later) l.phase ≡ trees_by l.later l.phase) × (l.i ≤ length l.later)
