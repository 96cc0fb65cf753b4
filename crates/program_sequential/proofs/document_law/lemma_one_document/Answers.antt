use Rattle.std.proofs.Common.{◌∙◌}
use Rattle.audit_verdict.proofs.SameOutputs.{same-output, same-walk}
use Rattle.audit_hierarchy.proofs.SameOutputs.{same-output as same-below}
use Rattle.document_format.proofs.SameText.{one_text}
use Rattle.program_sequential.proofs.Documents.{net-or-bad, same-bad, same-clients, same-semantics}
use Rattle.program_sequential.proofs.SameNets.{same-flooding}
use Rattle.program_sequential.proofs.document_law.lemma_one_document.Goals as goal

pub returns-clause-runs : goal.returns-clause-runs
returns-clause-runs c = λ input one two journal output a b h. same-output input one two journal output a b h

pub returns-clause-hierarchies : goal.returns-clause-hierarchies
returns-clause-hierarchies c = λ input one two journal output a b h. same-below input one two journal output a b h

pub returns-clause-walk : goal.returns-clause-walk
returns-clause-walk c = λ input one two journal a b h. h ∙ same-walk input one two a b

pub returns-clause-flooding : goal.returns-clause-flooding
returns-clause-flooding c = λ input one two rows refused a b h.
    same-flooding one two rows refused (same-semantics input one two a b) (same-clients input one two a b) h

pub returns-clause-text : goal.returns-clause-text
returns-clause-text c = λ input one two a b. one_text input one two a b

pub returns-clause-refusal : goal.returns-clause-refusal
returns-clause-refusal c = λ input line other kind second a b. same-bad input line other kind second a b

pub returns-clause-net_or_refusal : goal.returns-clause-net_or_refusal
returns-clause-net_or_refusal c = λ input net line kind a b. net-or-bad input net line kind a b
