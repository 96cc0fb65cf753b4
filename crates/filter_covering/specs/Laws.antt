-- States that filters and advertisements keep what is asked of items that cover one another in one order.
use Rattle.base.specs.Laws.{CoverLaws}
use Rattle.filter_types.specs.Cover.{filter_covers, advert_covers}
use Rattle.filter_types.specs.Before.{list_before}
use Rattle.filter_types.proofs.BeforeLaws.{before-irreflexive, before-before, before-total}
use Rattle.filter_types.proofs.CoveringLaws.{filter-reflexive, filter-transitive, advert-reflexive, advert-transitive}

-- of filters
pub sub_laws : CoverLaws filter_covers list_before
sub_laws = record {
  reflexive = λ f. filter-reflexive f;
  transitive = λ f g h p q. filter-transitive f g h p q;
  irreflexive = λ f. before-irreflexive f;
  chain = λ f g h p q. before-before f g h p q;
  total = λ f g p q. before-total f g p q;
}

-- of advertisements
pub ad_laws : CoverLaws advert_covers list_before
ad_laws = record {
  reflexive = λ a. advert-reflexive a;
  transitive = λ a b c p q. advert-transitive a b c p q;
  irreflexive = λ a. before-irreflexive a;
  chain = λ a b c p q. before-before a b c p q;
  total = λ a b p q. before-total a b p q;
}
