use Rattle.law_hierarchy.proofs.CarriesNoMore.{never-more}
use Rattle.law_hierarchy.proofs.economy.Goals as goal

pub returns : goal.returns
returns hold c run clients known = never-more hold.M.Matching.theory hold.M.Matching.laws run clients known
