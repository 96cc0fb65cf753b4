use Rattle.hierarchy_network.proofs.HierarchyLaws.{hierarchy_laws}
use Rattle.hierarchy_network.proofs.forwarding_server.ForwardingServerNetworked.lemma_laws.Goals as goal

pub returns : goal.returns
returns c = hierarchy_laws
