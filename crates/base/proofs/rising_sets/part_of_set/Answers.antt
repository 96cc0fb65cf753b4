use Rattle.base.proofs.Roots.{filter-iff}
use Rattle.base.proofs.Sets.{rising-filter}
use Rattle.base.proofs.rising_sets.part_of_set.Goals as goal

pub returns-clause-rising : goal.returns-clause-rising
returns-clause-rising g c covers before laws test xs r = rising-filter laws test xs r

pub returns-clause-members : goal.returns-clause-members
returns-clause-members g c test x xs = filter-iff test x xs
