use Rattle.document_reader.proofs.Pairs.{none_there}
use Rattle.document_reader.proofs.near.no_pairs.Goals as goal

pub returns-clause-none : goal.returns-clause-none
returns-clause-none c = λ k. none_there 4225 k
