use Rattle.audit_claim.proofs.Inputs.{written_input}
use Rattle.audit_claim.proofs.law.written_is_input.Goals as goal

pub returns : goal.returns
returns c = λ document output net w ends. written_input document output net w ends
