use Rattle.std.proofs.Common.{refl}
use Rattle.law_examples.proofs.LawfulNets.{both_publish-lawful}
use Rattle.law_examples.proofs.orders.no_one_order.Goals as goal

pub returns-clause-lawful : goal.returns-clause-lawful
returns-clause-lawful c = both_publish-lawful

pub returns-clause-one : goal.returns-clause-one
returns-clause-one c = refl

pub returns-clause-three : goal.returns-clause-three
returns-clause-three c = refl
