use Rattle.std.proofs.Common.{◌≡◌, ◌++◌, take}
use Rattle.base_order.specs.Order.{picked}
use Rattle.sequential_network.specs.Last.{texts_of}
use Rattle.sequential_network.proofs.texts.push_items.Given as goal

-- so far the items of the first numbers were put
abbrev pub invariant-loop-number : goal.invariant-loop-number
invariant-loop-number g l = l.out.items ≡ l.fn.out.items ++ texts_of g.T.Changing.constraints l.sign (picked l.items (take l.number-index l.numbers))
