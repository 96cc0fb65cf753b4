use Rattle.base.proofs.Roots.{roots-iff}
use Rattle.base.proofs.Sets.{rising-roots, roots-apart}
use Rattle.base.proofs.rising_sets.roots_of_set.Goals as goal

pub returns-clause-rising : goal.returns-clause-rising
returns-clause-rising g c covers before laws s r = rising-roots laws s r

pub returns-clause-members : goal.returns-clause-members
returns-clause-members g c covers before s f = roots-iff covers before s f

pub returns-clause-apart : goal.returns-clause-apart
returns-clause-apart g c covers before laws s f h a b e = roots-apart laws s f h a b e
