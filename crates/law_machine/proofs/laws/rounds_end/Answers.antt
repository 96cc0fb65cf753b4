use Rattle.law_machine.proofs.Walks.{walk-ends}
use Rattle.law_machine.proofs.laws.rounds_end.Goals as goal

pub returns : goal.returns
returns hold c k laws = walk-ends hold.M.LocalStep.machine k laws
