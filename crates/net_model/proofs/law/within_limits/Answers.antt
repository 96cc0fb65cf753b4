use Rattle.net_model.proofs.Counted.{stays-low}
use Rattle.net_model.proofs.law.within_limits.Goals as goal

pub returns : goal.returns
returns c = stays-low
