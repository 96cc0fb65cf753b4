use Rattle.law_phases.proofs.Equalling.{as-flooding}
use Rattle.law_phases.proofs.Saved.{never-more-by}
use Rattle.law_phases.proofs.economy.Goals as goal

pub returns-clause-never_more : goal.returns-clause-never_more
returns-clause-never_more hold c run clients known = λ n from to. never-more-by hold.M.Matching.theory hold.M.Matching.laws run clients known from to n

pub returns-clause-as_many : goal.returns-clause-as_many
returns-clause-as_many hold c run drained clients known = λ from to due. as-flooding hold.M.Matching.theory hold.M.Matching.laws run drained clients known from to due
