use Rattle.match_index.proofs.Tallies.{Appends-append}
use Rattle.match_index.proofs.law.appends_law.Goals as goal

pub returns : goal.returns
returns c = Appends-append
