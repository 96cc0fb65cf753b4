use Rattle.law_hierarchy.proofs.Local.{machine-laws}
use Rattle.law_hierarchy.proofs.Spread.{content-laws, measure-laws}
use Rattle.law_hierarchy.proofs.lawful.Goals as goal

pub returns : goal.returns
returns hold c = record {
  machine = λ net. machine-laws hold.M.Matching.theory net;
  filters = λ net good. content-laws hold.M.Matching.theory hold.M.Matching.laws net good.lawful;
  measure = λ net good. measure-laws hold.M.Matching.theory hold.M.Matching.laws net good.lawful;
}
