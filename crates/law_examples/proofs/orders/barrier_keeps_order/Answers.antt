use Rattle.std.proofs.Common.{refl}
use Rattle.law_examples.proofs.LawfulNets.{far_then_near-lawful}
use Rattle.law_examples.proofs.orders.barrier_keeps_order.Goals as goal

pub returns-clause-lawful : goal.returns-clause-lawful
returns-clause-lawful c = far_then_near-lawful

pub returns-clause-walked : goal.returns-clause-walked
returns-clause-walked c = refl

pub returns-clause-tried : goal.returns-clause-tried
returns-clause-tried c = refl
