use Rattle.std.proofs.Common.{take}
use Rattle.base_order.specs.Order.{HasSigns}
use Rattle.base_order.proofs.build.signatures.Given as goal

abbrev pub invariant-loop-i : goal.invariant-loop-i
invariant-loop-i g l = HasSigns g.T.Cover.marked (take l.i l.items) l.signs.items
