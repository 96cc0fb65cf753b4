use Rattle.law_routing.proofs.Started.{held-run}
use Rattle.law_routing.proofs.held_was_sent.Goals as goal

pub returns : goal.returns
returns hold c = record {
  filters = λ run u t m near. (held-run hold.M.Matching.theory hold.M.Matching.laws run u t m near).0;
  adverts = λ run u t m near. (held-run hold.M.Matching.theory hold.M.Matching.laws run u t m near).1;
}
