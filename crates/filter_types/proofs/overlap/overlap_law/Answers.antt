use Rattle.filter_types.proofs.OverlapLaws.{overlap}
use Rattle.filter_types.proofs.overlap.overlap_law.Goals as goal

pub returns : goal.returns
returns x f a n v p q = overlap f a n v p q
