use Rattle.law_routing.proofs.Laws.{machine-laws}
use Rattle.base_tree.specs.Hops.{side_size}
use Rattle.law_routing.proofs.Along.{strict-of, tree}
use Rattle.law_routing.proofs.Spreading.{spreads}
use Rattle.law_routing.proofs.Contents.{subs-laws, advs-laws}
use Rattle.law_routing.proofs.lawful.Goals as goal

pub returns : goal.returns
returns hold c = record {
  machine = λ net. machine-laws hold.M.Matching.theory net;
  filters = λ net good. subs-laws hold.M.Matching.theory hold.M.Matching.laws net good (strict-of hold.M.Matching.theory hold.M.Matching.laws);
  adverts = λ net good. advs-laws hold.M.Matching.theory hold.M.Matching.laws net good (strict-of hold.M.Matching.theory hold.M.Matching.laws);
  measure = λ net good. spreads hold.M.Matching.theory (strict-of hold.M.Matching.theory hold.M.Matching.laws) net (side_size net.hop net.servers) good.single (tree hold.M.Matching.theory hold.M.Matching.laws net good);
}
