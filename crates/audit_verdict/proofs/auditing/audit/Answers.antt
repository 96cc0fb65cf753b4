use Rattle.audit_verdict.specs.declared.auditing.Audited.{Audited}
use Rattle.audit_verdict.proofs.Verdicts.{audited_told, complete_told, document_told, must_told, refused_document_told, refuted_told, written_of_run}
use Rattle.audit_verdict.proofs.auditing.audit.Goals as goal

pub returns-clause-audited : goal.returns-clause-audited
returns-clause-audited g c = audited_told g.K.NetworkKind.kind c.lemma_one_verdict.ensures (λ (a : Audited). a.net) (λ (a : Audited). a.journal.items) (λ (a : Audited). a.owed) (λ (a : Audited). a.deliveries) c.args.bytes.now c.answered.result c.answered.ensures

pub returns-clause-complete : goal.returns-clause-complete
returns-clause-complete g c = λ net journal r. complete_told g.K.NetworkKind.kind c.lemma_one_verdict.ensures (λ (a : Audited). a.net) (λ (a : Audited). a.journal.items) (λ (a : Audited). a.owed) (λ (a : Audited). a.deliveries) c.args.bytes.now c.answered.result c.answered.ensures net journal r

pub returns-clause-written : goal.returns-clause-written
returns-clause-written g c = λ net journal w. complete_told g.K.NetworkKind.kind c.lemma_one_verdict.ensures (λ (a : Audited). a.net) (λ (a : Audited). a.journal.items) (λ (a : Audited). a.owed) (λ (a : Audited). a.deliveries) c.args.bytes.now c.answered.result c.answered.ensures net journal
    (written_of_run g.K.NetworkKind.kind c.args.bytes.now net journal w)

pub returns-clause-document : goal.returns-clause-document
returns-clause-document g c = document_told g.K.NetworkKind.kind c.lemma_one_verdict.ensures (λ (a : Audited). a.net) (λ (a : Audited). a.journal.items) (λ (a : Audited). a.owed) (λ (a : Audited). a.deliveries) c.args.bytes.now c.answered.result c.answered.ensures

pub returns-clause-refuted : goal.returns-clause-refuted
returns-clause-refuted g c = refuted_told g.K.NetworkKind.kind c.lemma_one_verdict.ensures (λ (a : Audited). a.net) (λ (a : Audited). a.journal.items) (λ (a : Audited). a.owed) (λ (a : Audited). a.deliveries) c.args.bytes.now c.answered.result c.answered.ensures

pub returns-clause-refused_document : goal.returns-clause-refused_document
returns-clause-refused_document g c = refused_document_told g.K.NetworkKind.kind c.lemma_one_verdict.ensures (λ (a : Audited). a.net) (λ (a : Audited). a.journal.items) (λ (a : Audited). a.owed) (λ (a : Audited). a.deliveries) c.args.bytes.now c.answered.result c.answered.ensures

pub returns-clause-must : goal.returns-clause-must
returns-clause-must g c = must_told g.K.NetworkKind.kind c.lemma_one_verdict.ensures (λ (a : Audited). a.net) (λ (a : Audited). a.journal.items) (λ (a : Audited). a.owed) (λ (a : Audited). a.deliveries) c.args.bytes.now c.answered.result c.answered.ensures
