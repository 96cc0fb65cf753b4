use Rattle.document_reader.proofs.Meaning.{net_means}
use Rattle.document_reader.proofs.law.all_taken.Goals as goal

pub returns : goal.returns
returns c = net_means
