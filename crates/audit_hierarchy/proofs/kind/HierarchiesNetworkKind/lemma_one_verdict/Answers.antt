use Rattle.audit_hierarchy.proofs.Laws.{hierarchies-verdict}
use Rattle.audit_hierarchy.proofs.kind.HierarchiesNetworkKind.lemma_one_verdict.Goals as goal

pub returns : goal.returns
returns c = hierarchies-verdict
