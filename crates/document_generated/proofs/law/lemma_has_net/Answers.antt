use Rattle.document_generated.proofs.Accepted.{has_net, accepted}
use Rattle.document_generated.proofs.law.lemma_has_net.Goals as goal

pub returns-clause-net : goal.returns-clause-net
returns-clause-net c = has_net

pub returns-clause-accepted : goal.returns-clause-accepted
returns-clause-accepted c = accepted
