use Rattle.document_reader.proofs.Meaning.{fault_means}
use Rattle.document_reader.proofs.law.first_fault.Goals as goal

pub returns : goal.returns
returns c = fault_means
