use Rattle.base_tree.proofs.Paths.{one-path}
use Rattle.base_tree.proofs.law.one_path.Goals as goal

pub returns : goal.returns
returns c servers links hop good = one-path servers links hop good
