use Rattle.std.proofs.Common.{◌≡◌, drop}
use Rattle.law_phases.specs.Trees.{tree_after}
use Rattle.net_model.proofs.net.in_force.Given as goal

abbrev pub invariant-loop-from : goal.invariant-loop-from
invariant-loop-from l = tree_after l.tree (drop l.from-index l.later) l.phase ≡ tree_after l.initial.tree l.later l.phase
