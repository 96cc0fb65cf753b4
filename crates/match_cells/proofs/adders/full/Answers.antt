use Rattle.match_cells.proofs.Adding.{full-bits}
use Rattle.match_cells.proofs.adders.full.Goals as goal

pub returns : goal.returns
returns c q = full-bits c.args.a c.args.b c.args.c q
