use Rattle.std.proofs.Common.{[]}
use Rattle.net_model.proofs.Adding.{filters-more, adverts-more, refused-one-more}
use Rattle.net_model.proofs.law.one_more_command.Goals as goal

pub returns : goal.returns
returns hold c = record {
  filters = filters-more hold.M.Matching.theory hold.M.Matching.laws [];
  adverts = adverts-more hold.M.Matching.theory hold.M.Matching.laws [];
  refused = λ net. refused-one-more hold.M.Matching.theory net hold.M.Matching.laws;
}
