use Rattle.law_phases.proofs.Passing.{routes-publication}
use Rattle.law_phases.proofs.routes_publication.Goals as goal

pub returns : goal.returns
returns hold c run = routes-publication hold.M.Matching.theory hold.M.Matching.laws run
