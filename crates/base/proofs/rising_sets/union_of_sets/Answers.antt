use Rattle.base.proofs.Sets.{rising-union, has-union}
use Rattle.base.proofs.rising_sets.union_of_sets.Goals as goal

pub returns-clause-rising : goal.returns-clause-rising
returns-clause-rising g c covers before laws xs ys r = rising-union laws xs ys r

pub returns-clause-members : goal.returns-clause-members
returns-clause-members g c covers before laws x xs ys = has-union laws x xs ys
