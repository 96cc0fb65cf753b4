use Rattle.law_phases.specs.Moments.{opening_moment}
use Rattle.law_phases.proofs.Moments.{moment-left, found-left}
use Rattle.law_phases.proofs.moments_stay.Goals as goal

pub returns : goal.returns
returns hold c = record {
  after = λ net. moment-left hold.M.Matching.theory net (opening_moment hold.M.Matching.theory net);
  found = λ net. found-left hold.M.Matching.theory net (opening_moment hold.M.Matching.theory net);
}
