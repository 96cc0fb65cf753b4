use Rattle.law_routing.proofs.Witness.{numbers-laws, line-laws, line-measure}
use Rattle.law_routing.proofs.can_be_met.Goals as goal

pub returns : goal.returns
returns c = record { theory = numbers-laws; net = line-laws; measure = line-measure }
