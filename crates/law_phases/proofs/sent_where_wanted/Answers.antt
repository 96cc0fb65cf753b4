use Rattle.law_phases.proofs.Routes.{sent-where-wanted}
use Rattle.law_phases.proofs.sent_where_wanted.Goals as goal

pub returns : goal.returns
returns hold c run plain routed neighbour onward = sent-where-wanted hold.M.Matching.theory hold.M.Matching.laws run plain routed neighbour onward.near onward.other
