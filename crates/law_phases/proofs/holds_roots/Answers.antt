use Rattle.law_phases.proofs.Again.{quiet-roots}
use Rattle.law_phases.proofs.holds_roots.Goals as goal

pub returns : goal.returns
returns hold c run plain n server neighbour link = quiet-roots hold.M.Matching.theory hold.M.Matching.laws run n link.quiet plain server neighbour link.near
