use Rattle.filter_constraints.proofs.NumberLaws.{reflexive, transitive, sound, complete}
use Rattle.filter_constraints.proofs.law.number_covering.Goals as goal

pub returns-clause-reflexive : goal.returns-clause-reflexive
returns-clause-reflexive q k = reflexive k

pub returns-clause-transitive : goal.returns-clause-transitive
returns-clause-transitive q k m n h j = transitive k m n h j

pub returns-clause-sound : goal.returns-clause-sound
returns-clause-sound q k m x h j = sound k m x h j

pub returns-clause-complete : goal.returns-clause-complete
returns-clause-complete q least greatest k m w i j h = complete least greatest k m w i j h
