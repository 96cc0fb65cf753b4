use Rattle.std.proofs.Common.{sym, ◌∙◌, ap}
use Rattle.law_phases.specs.Trees.{tree_after}
use Rattle.net_model.proofs.Walking.{drop-end, tree-on, tree-stays}
use Rattle.net_model.proofs.net.in_force.Goals as goal

pub loop-from-preserved : goal.loop-from-preserved
loop-from-preserved c = tree-on c.args.phase c.loop-from.tree.now c.args.later.now c.loop-from.from-index c.loop-from-item.result c.loop-from-test.true c.loop-from-item.is c.if-from-phase.false ∙ c.loop-from.invariant

pub returns-then-from-phase : goal.returns-then-from-phase
returns-then-from-phase c = sym (tree-stays c.args.phase c.loop-from.tree.now c.args.later.now c.loop-from.from-index c.loop-from-item.result c.loop-from-test.true c.loop-from-item.is c.if-from-phase.true) ∙ c.loop-from.invariant

pub returns : goal.returns
returns c = sym (ap (λ xs. tree_after c.loop-from.tree.now xs c.args.phase) (drop-end c.args.later.now c.loop-from.from-index c.loop-from-test.false)) ∙ c.loop-from.invariant
