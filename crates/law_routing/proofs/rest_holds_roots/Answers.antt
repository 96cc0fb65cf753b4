use Rattle.law_routing.proofs.Rooted.{held-roots}
use Rattle.law_routing.proofs.rest_holds_roots.Goals as goal

pub returns : goal.returns
returns hold c net good plain network rest server neighbour near = held-roots hold.M.Matching.theory hold.M.Matching.laws net good plain network rest server neighbour near
