use Rattle.net_model.proofs.Adding.{filters-sorted, adverts-sorted, accepts-same}
use Rattle.net_model.proofs.law.order_of_adding.Goals as goal

pub returns : goal.returns
returns hold c = record {
  filters = filters-sorted hold.M.Matching.theory hold.M.Matching.laws;
  adverts = adverts-sorted hold.M.Matching.theory hold.M.Matching.laws;
  accepted = accepts-same hold.M.Matching.theory hold.M.Matching.laws;
}
