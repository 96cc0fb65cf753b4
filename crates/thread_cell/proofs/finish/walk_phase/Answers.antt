use Rattle.std.proofs.Common.{◌∙◌}
use Rattle.thread_cell.proofs.Growing.{grown-on}
use Rattle.thread_cell.proofs.finish.walk_phase.Goals as goal

pub loop-init : goal.loop-init
loop-init g c = record { roots = c.walk_commands.ensures.roots; grown = c.walk_commands.ensures.grown }

pub loop-preserved : goal.loop-preserved
loop-preserved g c = record {
  roots = c.walk_once.ensures.roots ∙ c.loop.invariant.roots;
  grown = grown-on c.args.cells.now c.loop.cells c.walk_once.new.cells c.loop.invariant.grown c.walk_once.ensures.grown;
}

pub returns-in_err-walk_once-clause-grown : goal.returns-in_err-walk_once-clause-grown
returns-in_err-walk_once-clause-grown g c = grown-on c.args.cells.now c.loop.cells c.walk_once.new.cells c.loop.invariant.grown c.walk_once.ensures.grown

pub returns-then-not-branch-clause-grown : goal.returns-then-not-branch-clause-grown
returns-then-not-branch-clause-grown g c = grown-on c.args.cells.now c.loop.cells c.walk_once.new.cells c.loop.invariant.grown c.walk_once.ensures.grown
