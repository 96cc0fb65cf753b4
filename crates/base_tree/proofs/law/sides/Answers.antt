use Rattle.base_tree.proofs.Paths.{sides}
use Rattle.base_tree.proofs.law.sides.Goals as goal

pub returns : goal.returns
returns c servers links hop good = sides servers links hop good
