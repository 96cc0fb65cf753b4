use Rattle.law_hierarchy.proofs.Told.{pruned, sent-down}
use Rattle.law_hierarchy.proofs.goes_down.Goals as goal

pub returns : goal.returns
returns hold c = record { only = λ run. pruned hold.M.Matching.theory hold.M.Matching.laws run; each = λ run. sent-down hold.M.Matching.theory hold.M.Matching.laws run }
