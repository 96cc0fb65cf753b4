use Rattle.std.proofs.Common.{take}
use Rattle.server_stock.specs.Stock.{held_from}
use Rattle.server_core.specs.Due.{IsHeldAs}
use Rattle.server_core.proofs.Sieving.{Sieved}
use Rattle.server_core.proofs.effective.sieve.Given as goal

abbrev pub invariant-loop-i : goal.invariant-loop-i
invariant-loop-i g l = Sieved (λ k. IsHeldAs l.held l.stock.items (held_from g.T.Cover.order l.interface l.stock.holdings) k) (take l.i-index l.numbers) l.list.items
