use Rattle.base_tree.specs.Hops.{side_size}
use Rattle.law_routing.proofs.Along.{tree}
use Rattle.law_routing.proofs.Flows.{settled-flow, settled-flow_ad}
use Rattle.law_routing.proofs.rest_flows.Goals as goal

pub returns : goal.returns
returns hold c = record {
  adverts = λ net good state rest t u near. settled-flow_ad hold.M.Matching.theory net (side_size net.hop net.servers) (tree hold.M.Matching.theory hold.M.Matching.laws net good) state rest t u near;
  filters = λ net good state rest t u near. settled-flow hold.M.Matching.theory net (side_size net.hop net.servers) (tree hold.M.Matching.theory hold.M.Matching.laws net good) state rest t u near;
}
