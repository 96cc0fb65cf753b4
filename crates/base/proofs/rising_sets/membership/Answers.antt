use Rattle.base.proofs.Sets.{member-iff}
use Rattle.base.proofs.rising_sets.membership.Goals as goal

pub returns : goal.returns
returns g c covers before laws x xs = member-iff laws x xs
