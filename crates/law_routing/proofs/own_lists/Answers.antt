use Rattle.law_routing.proofs.Owning.{added, kept}
use Rattle.law_routing.proofs.own_lists.Goals as goal

pub returns : goal.returns
returns hold c = record {
  subscribed = λ filters f g. added hold.M.Matching.laws.filters filters f g;
  withdrawn = λ filters f g. kept hold.M.Matching.theory.covers filters f g;
  advertised = λ adverts a b. added hold.M.Matching.laws.adverts adverts a b;
  unadvertised = λ adverts a b. kept hold.M.Matching.theory.covers_advert adverts a b;
}
