use Rattle.std.proofs.Common.{ap}
use Rattle.law_machine.proofs.Growing.{standing-left}
use Rattle.law_machine.proofs.laws.moments_stay.Goals as goal

pub returns : goal.returns
returns hold c w p es fs n l =
    let e = standing-left hold.M.LocalStep.machine (record { network = w; phase = p }) es fs n l in
    (ap (λ z. z.network) e, ap (λ z. z.phase) e)
