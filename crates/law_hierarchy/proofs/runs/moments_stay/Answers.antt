use Rattle.std.proofs.Common.{ap}
use Rattle.law_machine.proofs.Growing.{standing-left}
use Rattle.law_hierarchy.specs.Step.{hierarchy_machine}
use Rattle.law_hierarchy.proofs.runs.moments_stay.Goals as goal

pub returns : goal.returns
returns hold c net w p es fs n l =
    let e = standing-left (hierarchy_machine hold.M.Matching.theory net) (record { network = w; phase = p }) es fs n l in
    (ap (λ z. z.network) e, ap (λ z. z.phase) e)
