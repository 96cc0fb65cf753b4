use Rattle.base_tree.specs.Hops.{side_size}
use Rattle.law_routing.proofs.Along.{tree}
use Rattle.law_routing.proofs.Flows.{relinked-settled}
use Rattle.law_routing.proofs.flow_agrees.Goals as goal

pub returns : goal.returns
returns hold c net good = relinked-settled hold.M.Matching.theory net (side_size net.hop net.servers) (tree hold.M.Matching.theory hold.M.Matching.laws net good)
