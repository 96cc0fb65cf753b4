use Rattle.law_routing.proofs.Started.{sent-run}
use Rattle.law_routing.proofs.sent_where_wanted.Goals as goal

pub returns : goal.returns
returns hold c run plain routed neighbour onward = sent-run hold.M.Matching.theory hold.M.Matching.laws run plain routed neighbour onward.near onward.other
