use Rattle.base.proofs.Sets.{same_list-iff}
use Rattle.base.proofs.rising_sets.equality.Goals as goal

pub returns : goal.returns
returns g c covers before laws xs ys = same_list-iff laws xs ys
