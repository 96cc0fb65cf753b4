use Rattle.law_routing.proofs.Paths.{way-by-hops}
use Rattle.law_routing.proofs.one_way.Goals as goal

pub returns : goal.returns
returns hold c net good = way-by-hops hold.M.Matching.theory hold.M.Matching.laws net good
