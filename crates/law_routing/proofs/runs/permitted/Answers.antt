use Rattle.law_machine.proofs.Tried.{permitted-happens, happens-permitted}
use Rattle.law_routing.specs.Routing.{routing_machine}
use Rattle.law_routing.proofs.runs.permitted.Goals as goal

pub returns : goal.returns
returns hold c = record { happens = λ net. permitted-happens (routing_machine hold.M.Matching.theory net); only = λ net. happens-permitted (routing_machine hold.M.Matching.theory net) }
