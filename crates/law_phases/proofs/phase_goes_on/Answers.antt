use Rattle.law_phases.proofs.Merged.{goes-on}
use Rattle.law_phases.proofs.phase_goes_on.Goals as goal

pub returns : goal.returns
returns hold c net done = goes-on hold.M.Matching.theory net done.end done.last done.phase done.sofar done.journals done.between done.cells done.ends done.enters done.fresh done.merged done.some done.in_hand done.ended
