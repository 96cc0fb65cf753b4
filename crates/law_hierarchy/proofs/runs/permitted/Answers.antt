use Rattle.law_machine.proofs.Tried.{permitted-happens, happens-permitted}
use Rattle.law_hierarchy.specs.Step.{hierarchy_machine}
use Rattle.law_hierarchy.proofs.runs.permitted.Goals as goal

pub returns : goal.returns
returns hold c = record { happens = λ net. permitted-happens (hierarchy_machine hold.M.Matching.theory net); only = λ net. happens-permitted (hierarchy_machine hold.M.Matching.theory net) }
