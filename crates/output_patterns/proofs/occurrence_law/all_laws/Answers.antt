use Rattle.output_patterns.proofs.Occurrences.{all-one}
use Rattle.output_patterns.proofs.Laws.{all-from, all-found, all-longer}
use Rattle.output_patterns.proofs.occurrence_law.all_laws.Goals as goal

pub returns-clause-from : goal.returns-clause-from
returns-clause-from c steps notices s h k = all-from steps notices s h k

pub returns-clause-found : goal.returns-clause-found
returns-clause-found c steps notices h = all-found steps notices h

pub returns-clause-one : goal.returns-clause-one
returns-clause-one c steps notices a b h k = all-one steps notices 1 a b h k

pub returns-clause-longer : goal.returns-clause-longer
returns-clause-longer c steps notices more a b h k = all-longer steps notices more a b h k
