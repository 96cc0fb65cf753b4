use Rattle.std.proofs.Common.{Bool, sym, subst}
use Rattle.program_sequential.specs.Audits.{traced}
use Rattle.program_sequential.specs.Auditing.{AuditsInput}
use Rattle.program_sequential.proofs.Confirmed.{audits-below, audits-peers}
use Rattle.program_sequential.proofs.audits.of_audit.Goals as goal

pub returns-then-hierarchy : goal.returns-then-hierarchy
returns-then-hierarchy c =
    subst (λ (b : Bool). AuditsInput b c.args.bytes.now c.of_kind.result) (sym c.if-hierarchy.true)
    (audits-below c.args.bytes.now c.of_kind.result c.requires (c.lemma_hierarchy_promise.ensures.clients traced) c.promise.ensures c.of_kind.ensures)

pub returns-else-hierarchy : goal.returns-else-hierarchy
returns-else-hierarchy c =
    subst (λ (b : Bool). AuditsInput b c.args.bytes.now c.of_kind-else-hierarchy.result) (sym c.if-hierarchy.false)
    (audits-peers c.args.bytes.now c.of_kind-else-hierarchy.result c.requires (c.lemma_promise.ensures.clients traced) (c.lemma_promise.ensures.run traced) c.of_kind-else-hierarchy.ensures)
