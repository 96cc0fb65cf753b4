use Rattle.audit_claim.specs.declared.claim.Claim.{Claim}
use Rattle.audit_claim.proofs.Claiming.{claim_read, document_read, form_read, given_read, refused_document, refused_form}
use Rattle.audit_claim.proofs.claim.read_claim.Goals as goal

pub returns-clause-claim : goal.returns-clause-claim
returns-clause-claim c =
    claim_read (λ (x : Claim). x.net) (λ (x : Claim). x.from) (λ (x : Claim). x.line) (λ (x : Claim). x.end) (λ (x : Claim). x.turns.items) c.args.bytes.now c.answered.result c.answered.ensures.answers

pub returns-clause-given : goal.returns-clause-given
returns-clause-given c =
    given_read (λ (x : Claim). x.net) (λ (x : Claim). x.from) (λ (x : Claim). x.line) (λ (x : Claim). x.end) (λ (x : Claim). x.turns.items) c.args.bytes.now c.answered.result c.answered.ensures.answers

pub returns-clause-document : goal.returns-clause-document
returns-clause-document c =
    document_read (λ (x : Claim). x.net) (λ (x : Claim). x.from) (λ (x : Claim). x.line) (λ (x : Claim). x.end) (λ (x : Claim). x.turns.items) c.args.bytes.now c.answered.result c.answered.ensures.answers

pub returns-clause-form : goal.returns-clause-form
returns-clause-form c =
    form_read (λ (x : Claim). x.net) (λ (x : Claim). x.from) (λ (x : Claim). x.line) (λ (x : Claim). x.end) (λ (x : Claim). x.turns.items) c.args.bytes.now c.answered.result c.answered.ensures.answers

pub returns-clause-refused_document : goal.returns-clause-refused_document
returns-clause-refused_document c =
    refused_document (λ (x : Claim). x.net) (λ (x : Claim). x.from) (λ (x : Claim). x.line) (λ (x : Claim). x.end) (λ (x : Claim). x.turns.items) c.args.bytes.now c.answered.result c.answered.ensures.answers

pub returns-clause-refused_form : goal.returns-clause-refused_form
returns-clause-refused_form c =
    refused_form (λ (x : Claim). x.net) (λ (x : Claim). x.from) (λ (x : Claim). x.line) (λ (x : Claim). x.end) (λ (x : Claim). x.turns.items) c.args.bytes.now c.answered.result c.answered.ensures.answers
