use Rattle.law_phases.proofs.Nets.{net-laws}
use Rattle.law_phases.proofs.each_net.Goals as goal

pub returns : goal.returns
returns hold c net good k = net-laws hold.M.Matching.theory net good k
