use Rattle.base.proofs.Sets.{update}
use Rattle.base.proofs.rising_sets.update.Goals as goal

pub returns : goal.returns
returns g c covers before laws old new r = update laws old new r
