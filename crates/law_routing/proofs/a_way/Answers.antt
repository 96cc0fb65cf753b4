use Rattle.law_routing.proofs.Paths.{path-to}
use Rattle.law_routing.proofs.a_way.Goals as goal

pub returns : goal.returns
returns hold c net good t x a b = let p = path-to hold.M.Matching.theory hold.M.Matching.laws net good t x a b in record { path = p.path; way = p.way; end = p.end }
