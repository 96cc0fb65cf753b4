use Rattle.law_machine.proofs.Turn.{step-turn}
use Rattle.law_machine.proofs.Tried.{step-entry, entry-step}
use Rattle.law_hierarchy.specs.Step.{hierarchy_machine}
use Rattle.law_hierarchy.proofs.runs.entry_steps.Goals as goal

pub returns : goal.returns
returns hold c = record {
  makes = λ net w t a e f. (let x = entry-step (hierarchy_machine hold.M.Matching.theory net) w t a e f in (x.server, x.act, x.step));
  made = λ net w e v s. (step-entry (hierarchy_machine hold.M.Matching.theory net) w e v s, step-turn (hierarchy_machine hold.M.Matching.theory net) w e v s);
}
