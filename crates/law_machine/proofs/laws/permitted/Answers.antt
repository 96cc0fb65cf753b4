use Rattle.law_machine.proofs.Tried.{permitted-happens, happens-permitted}
use Rattle.law_machine.proofs.laws.permitted.Goals as goal

pub returns : goal.returns
returns hold c = record { happens = permitted-happens hold.M.LocalStep.machine; only = happens-permitted hold.M.LocalStep.machine }
