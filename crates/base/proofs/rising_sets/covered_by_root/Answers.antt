use Rattle.base.proofs.Roots.{covered_by_root}
use Rattle.base.proofs.rising_sets.covered_by_root.Goals as goal

pub returns : goal.returns
returns g c covers before laws s f m = covered_by_root laws s f m
