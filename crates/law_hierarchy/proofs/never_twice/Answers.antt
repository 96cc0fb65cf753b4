use Rattle.law_hierarchy.proofs.Given.{routed-twice, put-twice, delivered-twice}
use Rattle.law_hierarchy.proofs.never_twice.Goals as goal

pub returns : goal.returns
returns hold c = record { routed = λ run. routed-twice hold.M.Matching.theory hold.M.Matching.laws run; put = λ run. put-twice hold.M.Matching.theory hold.M.Matching.laws run; delivered = λ run. delivered-twice hold.M.Matching.theory hold.M.Matching.laws run }
