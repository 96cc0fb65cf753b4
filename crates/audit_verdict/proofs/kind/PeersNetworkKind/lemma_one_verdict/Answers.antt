use Rattle.audit_verdict.proofs.PeersLaws.{peers-verdict}
use Rattle.audit_verdict.proofs.kind.PeersNetworkKind.lemma_one_verdict.Goals as goal

pub returns : goal.returns
returns c = peers-verdict
