use Rattle.output_patterns.proofs.Occurrences.{first-one}
use Rattle.output_patterns.proofs.Laws.{first-exists}
use Rattle.output_patterns.proofs.occurrence_law.first_laws.Goals as goal

pub returns-clause-exists : goal.returns-clause-exists
returns-clause-exists c steps notices s places o = first-exists steps notices s places o

pub returns-clause-one : goal.returns-clause-one
returns-clause-one c steps notices s a b h k = first-one steps notices s a b h k
