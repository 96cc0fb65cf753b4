use Rattle.output_patterns.proofs.Feeding.{next-same, next-ended}
use Rattle.output_patterns.proofs.occurrence_law.next_laws.Goals as goal

pub returns-clause-same : goal.returns-clause-same
returns-clause-same c steps notices n a b h k e = next-same steps notices n a b h k e

pub returns-clause-ended : goal.returns-clause-ended
returns-clause-ended c steps notices n a b h k e = next-ended steps notices n a b h k e
