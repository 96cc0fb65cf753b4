use Rattle.filter_types.proofs.CoveringLaws.{advert-reflexive, advert-transitive, advert-sound}
use Rattle.filter_covering.proofs.law.advert_laws.Goals as goal

pub returns-clause-reflexive : goal.returns-clause-reflexive
returns-clause-reflexive x f = advert-reflexive f

pub returns-clause-transitive : goal.returns-clause-transitive
returns-clause-transitive x f g h p q = advert-transitive f g h p q

pub returns-clause-sound : goal.returns-clause-sound
returns-clause-sound x f g n v p q = advert-sound f g n v p q
