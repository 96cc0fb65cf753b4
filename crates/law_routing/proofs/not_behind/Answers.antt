use Rattle.law_routing.proofs.Flooded.{not-before-rest, not-before-rest-plain}
use Rattle.law_routing.proofs.not_behind.Goals as goal

pub returns : goal.returns
returns hold c = record {
  installed = λ run back. not-before-rest hold.M.Matching.theory hold.M.Matching.laws run back.rest back.moment back.before back.server back.path back.rests back.earlier back.way;
  now = λ run back. not-before-rest-plain hold.M.Matching.theory hold.M.Matching.laws run back.rest back.moment back.before back.server back.path back.rests back.earlier back.way;
}
