use Rattle.std.proofs.Common.{◌≡◌, replicate}
use Rattle.server_stock.specs.Sides.{empty_side}
use Rattle.server_stock.proofs.sides.fresh_sides.Given as goal

abbrev pub invariant-loop : goal.invariant-loop
invariant-loop l = l.sides.items ≡ replicate l.counter (empty_side l.width)
