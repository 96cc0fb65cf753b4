use Rattle.sequential_network.proofs.PeersLaws.{peers_laws}
use Rattle.sequential_network.proofs.forwarding_server.ForwardingServerNetworked.lemma_laws.Goals as goal

pub returns : goal.returns
returns c = peers_laws
