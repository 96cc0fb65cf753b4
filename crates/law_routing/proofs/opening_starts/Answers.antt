use Rattle.law_routing.proofs.Started.{opening-start}
use Rattle.law_routing.proofs.opening_starts.Goals as goal

pub returns : goal.returns
returns hold c net good = opening-start hold.M.Matching.theory net hold.M.Matching.laws good
