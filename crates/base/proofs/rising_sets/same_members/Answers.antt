use Rattle.base.proofs.Sets.{ext}
use Rattle.base.proofs.rising_sets.same_members.Goals as goal

pub returns : goal.returns
returns g c covers before laws = ext laws
