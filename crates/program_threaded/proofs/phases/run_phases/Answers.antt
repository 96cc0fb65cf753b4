use Rattle.std.proofs.Common.{subst}
use Rattle.net_model.specs.Nets.{phases_of}
use Rattle.thread_cell.specs.Entered.{AreThrough}
use Rattle.program_threaded.proofs.Entering.{none-of}
use Rattle.program_threaded.proofs.phases.run_phases.Goals as goal

pub returns-in_default-clause-through : goal.returns-in_default-clause-through
returns-in_default-clause-through g c =
    subst (AreThrough (phases_of c.args.tables.now)) c.deref.ensures.value
    (none-of c.next_phase.result _ c.in_default.not-Some c.next_phase.ensures.none (phases_of c.args.tables.now))
