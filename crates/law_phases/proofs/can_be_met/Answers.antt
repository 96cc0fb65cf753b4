use Rattle.law_phases.proofs.Star.{star-laws}
use Rattle.law_phases.proofs.can_be_met.Goals as goal

pub returns : goal.returns
returns c = record { net = star-laws }
