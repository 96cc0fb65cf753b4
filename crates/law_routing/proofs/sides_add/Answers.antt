use Rattle.law_routing.proofs.Sizes.{sides-tree}
use Rattle.law_routing.proofs.sides_add.Goals as goal

pub returns : goal.returns
returns c servers links hop good = sides-tree servers links hop good
