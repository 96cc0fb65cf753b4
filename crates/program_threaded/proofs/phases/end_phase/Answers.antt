use Rattle.std.proofs.Common.{◌≡◌, ◌∙◌, Err, ap, sym, subst, arith}
use Rattle.std.proofs.lemmas.Grind.{common_steps}
use Rattle.server_core.specs.declared.stepped.StepFault.{StepFault}
use Rattle.thread_outcome.specs.Outcome.{AreKept}
use Rattle.program_threaded.specs.Teams.{AreUnderWay}
use Rattle.program_threaded.proofs.Ending.{phase-begun}
use Rattle.program_threaded.proofs.phases.end_phase.Goals as goal

pub unreachable-requires : goal.unreachable-requires
unreachable-requires g c =
    let w = c.requires in
    let s = c.in-Err-StampsExhausted.field-0-0 in
    let now = c.finish_phase-answer.new.cells in
    let handed = c.deref_mut.result.now in
    let way = subst (AreUnderWay w.0 w.1 w.2 w.3 w.4) (sym c.deref_mut.ensures.value) w.5 in
    let fault : c.in-Err-StampsExhausted.field-0 ≡ StepFault.StampsExhausted s = grind (arith, common_steps, c.in-Err-StampsExhausted.field-0-is) in
    let is = c.in-Err-StampsExhausted.is ∙ ap Err fault in
    let worn = c.finish_phase-answer.ensures.worn s is in
    let hand = c.finish_phase-answer.ensures.hand s is in
    c.lemma_never_worn.ensures w.0 w.1 w.2 w.3 w.4 now (phase-begun w.0 w.1 w.2 w.3 w.4 handed now way c.finish_phase-answer.ensures.roots (hand w.0 w.2)) s worn

pub returns-in-Ok-clause-kept : goal.returns-in-Ok-clause-kept
returns-in-Ok-clause-kept g c = subst AreKept c.deref.ensures.value c.lemma_all_kept.ensures

pub returns-in-Err-NoMemory-clause-kept : goal.returns-in-Err-NoMemory-clause-kept
returns-in-Err-NoMemory-clause-kept g c = subst AreKept c.deref.ensures.value c.lemma_all_kept.ensures
