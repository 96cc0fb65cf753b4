use Rattle.std.proofs.Common.{arith}
use Rattle.match_cells.proofs.Adding.{count-small}
use Rattle.match_cells.proofs.rows.sum_at.Goals as goal

pub loop-r-init : goal.loop-r-init
loop-r-init c = (omega arith, λ q. omega (arith, count-small c.args.first q))
