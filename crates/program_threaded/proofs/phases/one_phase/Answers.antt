use Rattle.std.proofs.Common.{map, sym, ap, subst, ◌∙◌}
use Rattle.thread_cell.specs.declared.held.Root.{Root}
use Rattle.thread_cell.specs.Together.{AreTogether}
use Rattle.thread_workers.specs.ServerWorkers.{AreViewersOf, Pairwise}
use Rattle.program_threaded.proofs.Entering.{viewers-stay, on-both}
use Rattle.program_threaded.proofs.Ending.{phase-ended}
use Rattle.program_threaded.proofs.phases.one_phase.Goals as goal

pub run_phase-requires-clause-viewers : goal.run_phase-requires-clause-viewers
run_phase-requires-clause-viewers g c κs within =
    viewers-stay c.args.cells.now.items c.enter.new.cells.items c.args.viewers.now.items c.in_ok-enter.ensures.viewers c.requires.team.viewers_of

pub returns-clause-keeps : goal.returns-clause-keeps
returns-clause-keeps g c =
    let stay = ap (map (λ (root : Root). root.keeps)) (c.end_phase.ensures.roots ∙ c.run_phase.ensures.roots) ∙ c.in_ok-enter.ensures.keeps in on-both c.end_phase.result _ _ (λ f. stay) c.end_phase.ensures.finished

pub returns-clause-team : goal.returns-clause-team
returns-clause-team g c =
    let have = c.in_ok-enter.ensures in
    on-both c.end_phase.result _ _
    (λ f. phase-ended c.args.tables.now c.args.last c.args.phase c.args.cells.now.items c.enter.new.cells.items c.end_phase.new.cells.items c.run_phase.new.viewers.items
    c.requires.team.between.hand have c.requires.command (c.end_phase.ensures.roots ∙ c.run_phase.ensures.roots) c.end_phase.ensures.kept
    (f c.args.tables.now c.args.phase (subst (AreTogether c.args.tables.now c.args.phase) (sym c.run_phase.ensures.roots) have.together))
    (subst (λ r. Pairwise AreViewersOf r c.run_phase.new.viewers.items) (sym c.end_phase.ensures.roots) c.run_phase.ensures.viewers)
    (c.lemma_phase_done.ensures c.args.tables.now c.args.last c.args.phase c.args.cells.now.items c.enter.new.cells.items c.end_phase.new.cells.items))
    c.end_phase.ensures.finished
