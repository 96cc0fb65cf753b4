use Rattle.filter_constraints.proofs.ConstraintLaws.{covers-self, covers-covers, covers-sound}
use Rattle.filter_constraints.proofs.law.covering.Goals as goal

pub returns-clause-reflexive : goal.returns-clause-reflexive
returns-clause-reflexive q c = covers-self c

pub returns-clause-transitive : goal.returns-clause-transitive
returns-clause-transitive q c d e h j = covers-covers c d e h j

pub returns-clause-sound : goal.returns-clause-sound
returns-clause-sound q c d h x v s = covers-sound c d x v h s
