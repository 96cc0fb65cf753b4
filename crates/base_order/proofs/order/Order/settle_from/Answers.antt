use Rattle.base_order.proofs.SettledRoots.{moves-on, settled-from}
use Rattle.base_order.proofs.order.Order.settle_from.Goals as goal

pub returns-clause-settled : goal.returns-clause-settled
returns-clause-settled g c = settled-from c.settle.ensures.own c.settle_lost.ensures.moves c.settle_won.ensures.moves c.settle_lost.ensures.lost c.settle_won.ensures.won

pub returns-clause-moves : goal.returns-clause-moves
returns-clause-moves g c = moves-on c.settle.ensures.moves (moves-on c.settle_lost.ensures.moves c.settle_won.ensures.moves)
