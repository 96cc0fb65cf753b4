use Rattle.std.proofs.Common.{rules, arith}
use Rattle.server_stock.proofs.Counts.{counted-none}
use Rattle.server_stock.proofs.holders.Holders.new.Goals as goal

pub invariant_of-result : goal.invariant_of-result
invariant_of-result c = counted-none c.args.width c.args.places _ _ (omega arith) (search rules) (search rules)
