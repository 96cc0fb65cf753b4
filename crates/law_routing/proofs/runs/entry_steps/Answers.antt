use Rattle.law_machine.proofs.Turn.{step-turn}
use Rattle.law_machine.proofs.Tried.{step-entry, entry-step}
use Rattle.law_routing.specs.Routing.{routing_machine}
use Rattle.law_routing.proofs.runs.entry_steps.Goals as goal

pub returns : goal.returns
returns hold c = record {
  makes = λ net w t a e f. (let x = entry-step (routing_machine hold.M.Matching.theory net) w t a e f in (x.server, x.act, x.step));
  made = λ net w e v s. (step-entry (routing_machine hold.M.Matching.theory net) w e v s, step-turn (routing_machine hold.M.Matching.theory net) w e v s);
}
