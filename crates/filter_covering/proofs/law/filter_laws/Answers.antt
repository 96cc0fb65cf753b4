use Rattle.filter_types.proofs.CoveringLaws.{filter-reflexive, filter-transitive, filter-sound}
use Rattle.filter_covering.proofs.law.filter_laws.Goals as goal

pub returns-clause-reflexive : goal.returns-clause-reflexive
returns-clause-reflexive x f = filter-reflexive f

pub returns-clause-transitive : goal.returns-clause-transitive
returns-clause-transitive x f g h p q = filter-transitive f g h p q

pub returns-clause-sound : goal.returns-clause-sound
returns-clause-sound x f g n v p q = filter-sound f g n v p q
