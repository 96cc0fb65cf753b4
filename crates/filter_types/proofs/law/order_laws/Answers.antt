use Rattle.filter_types.proofs.BeforeLaws.{before-irreflexive, before-before, before-total}
use Rattle.filter_types.proofs.law.order_laws.Goals as goal

pub returns-clause-irreflexive : goal.returns-clause-irreflexive
returns-clause-irreflexive x f = before-irreflexive f

pub returns-clause-transitive : goal.returns-clause-transitive
returns-clause-transitive x f g h p q = before-before f g h p q

pub returns-clause-total : goal.returns-clause-total
returns-clause-total x f g p q = before-total f g p q
