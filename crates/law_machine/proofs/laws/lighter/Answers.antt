use Rattle.law_machine.proofs.Bound.{lighter}
use Rattle.law_machine.proofs.laws.lighter.Goals as goal

pub returns : goal.returns
returns hold c k laws w within reception = lighter hold.M.LocalStep.machine k laws w reception.server reception.from reception.message reception.outcome within reception.next reception.steps
