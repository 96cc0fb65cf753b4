use Rattle.match_cells.proofs.Adding.{half-bits}
use Rattle.match_cells.proofs.adders.half.Goals as goal

pub returns : goal.returns
returns c q = half-bits c.args.a c.args.b q
