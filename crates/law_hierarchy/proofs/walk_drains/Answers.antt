use Rattle.law_hierarchy.proofs.Walking.{walk-drains, opened}
use Rattle.law_hierarchy.proofs.walk_drains.Goals as goal

pub returns : goal.returns
returns hold c = record {
  run = λ run. walk-drains hold.M.Matching.theory hold.M.Matching.laws run;
  opening = λ net good. walk-drains hold.M.Matching.theory hold.M.Matching.laws (opened hold.M.Matching.theory net good);
}
