use Rattle.std.proofs.Common.{sym, subst}
use Rattle.thread_cell.specs.Entered.{AreCalm, AreEntered, AreSameCells}
use Rattle.program_threaded.specs.Teams.{HaveStarted}
use Rattle.program_threaded.proofs.Entering.{at-once, on-entering, on-both, written}
use Rattle.program_threaded.proofs.phases.enter.Goals as goal

pub returns-then-last-phase : goal.returns-then-last-phase
returns-then-last-phase g c = at-once c.args.tables.now c.args.last c.args.phase c.args.cells.now.items c.if-last-phase.true c.requires.hand c.requires.stand

pub enter_next-requires-clause-calm : goal.enter_next-requires-clause-calm
enter_next-requires-clause-calm g c = subst AreCalm (sym c.deref_mut.ensures.value) (c.lemma_calm.ensures c.args.tables.now c.args.last c.args.phase c.args.cells.now.items c.requires.hand c.requires.stand)

pub returns : goal.returns
returns g c =
    let same = subst (λ l. AreSameCells l c.enter_next.new.cells) c.deref_mut.ensures.value c.enter_next.ensures.same in
    on-both c.enter_next.result _ _
    (λ e. subst (HaveStarted c.args.tables.now c.args.last c.args.phase c.args.cells.now.items)
    (sym (written c.args.cells.now.len c.enter_next.new.cells c.args.cells.now.items same.long c.args.cells.now.ok.0))
    (on-entering c.args.tables.now c.args.last c.args.phase c.args.cells.now.items c.enter_next.new.cells c.requires.stand same
    (subst (λ l. AreEntered c.args.tables.now c.args.last c.args.phase l c.enter_next.new.cells) c.deref_mut.ensures.value e)))
    c.enter_next.ensures.entered
