use Rattle.law_phases.proofs.Entries.{begins-rest}
use Rattle.law_phases.proofs.begins_at_rest.Goals as goal

pub returns : goal.returns
returns hold c = record { before = λ run n begins. (begins-rest hold.M.Matching.theory hold.M.Matching.laws run n begins).0; after = λ run n begins. (begins-rest hold.M.Matching.theory hold.M.Matching.laws run n begins).1 }
