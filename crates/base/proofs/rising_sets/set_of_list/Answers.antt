use Rattle.base.proofs.Sets.{rising-set_of, has-set_of, set_of-same}
use Rattle.base.proofs.rising_sets.set_of_list.Goals as goal

pub returns-clause-rising : goal.returns-clause-rising
returns-clause-rising g c covers before laws xs = rising-set_of laws xs

pub returns-clause-members : goal.returns-clause-members
returns-clause-members g c covers before laws x xs = has-set_of laws x xs

pub returns-clause-same : goal.returns-clause-same
returns-clause-same g c covers before laws xs r = set_of-same laws xs r
