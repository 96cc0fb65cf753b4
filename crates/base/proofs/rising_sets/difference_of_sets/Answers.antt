use Rattle.base.proofs.Sets.{rising-minus, minus-iff}
use Rattle.base.proofs.rising_sets.difference_of_sets.Goals as goal

pub returns-clause-rising : goal.returns-clause-rising
returns-clause-rising g c covers before laws xs ys r = rising-minus laws xs ys r

pub returns-clause-members : goal.returns-clause-members
returns-clause-members g c covers before laws x xs ys = minus-iff laws x xs ys
