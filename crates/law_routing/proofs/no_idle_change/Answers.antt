use Rattle.law_routing.proofs.Rooted.{changed-only}
use Rattle.law_routing.proofs.no_idle_change.Goals as goal

pub returns : goal.returns
returns hold c net old new server link out add h = changed-only hold.M.Matching.theory hold.M.Matching.laws net old new server link out add h
