use Rattle.std.proofs.Common.{Err, sym, ap, subst}
use Rattle.audit_verdict.specs.declared.auditing.Audited.{Audited}
use Rattle.audit_verdict.specs.Answers.{AnswersAudit}
use Rattle.audit_verdict.proofs.Verdicts.{claim_tells, unclaimed_tells}
use Rattle.audit_verdict.proofs.auditing.answered.Goals as goal

pub returns-in-Err : goal.returns-in-Err
returns-in-Err g c =
    subst (λ z. AnswersAudit g.K.NetworkKind.kind (λ (a : Audited). a.net) (λ (a : Audited). a.journal.items) (λ (a : Audited). a.owed) (λ (a : Audited). a.deliveries) c.args.bytes.now (Err z)) (sym c.unclaimed.ensures)
    (unclaimed_tells g.K.NetworkKind.kind (λ (a : Audited). a.net) (λ (a : Audited). a.journal.items) (λ (a : Audited). a.owed) (λ (a : Audited). a.deliveries) c.args.bytes.now c.in-Err.fault
    (λ line kind e. c.in-Err.ensures.document line kind (ap Err e)) (λ line e. c.in-Err.ensures.form line (ap Err e)))

pub of_claim-requires-clause-sound : goal.of_claim-requires-clause-sound
of_claim-requires-clause-sound g c = c.lemma_net_sound.ensures c.in-Ok.ensures.claim.document c.in-Ok.claim.net c.in-Ok.ensures.claim.input.well_formed

pub returns : goal.returns
returns g c =
    claim_tells g.K.NetworkKind.kind c.lemma_one_verdict.ensures (λ (a : Audited). a.net) (λ (a : Audited). a.journal.items) (λ (a : Audited). a.owed) (λ (a : Audited). a.deliveries) c.args.bytes.now c.in-Ok.claim.net c.in-Ok.claim.from c.in-Ok.claim.line c.in-Ok.claim.end
    c.in-Ok.claim.turns.items c.split_at.result.1.now c.in-Ok.ensures.claim c.split_at.ensures.back c.of_claim.result c.of_claim.ensures
