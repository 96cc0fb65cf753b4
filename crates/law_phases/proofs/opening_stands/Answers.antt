use Rattle.law_phases.proofs.Merged.{opens}
use Rattle.law_phases.proofs.opening_stands.Goals as goal

pub returns : goal.returns
returns hold c net = opens hold.M.Matching.theory net
