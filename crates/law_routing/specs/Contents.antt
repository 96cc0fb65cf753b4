-- Defines the two contents of links: filters and advertisements.
use Rattle.std.specs.Prelude.{List}
use Rattle.base.specs.Sets.{union, minus}
use Rattle.law_machine.specs.Content.{Content}
use Rattle.law_routing.specs.Theory.{Theory}
use Rattle.law_routing.specs.Net.{Net}
use Rattle.law_routing.specs.Server.{Message, Subs, Advs, Noticed, sent, sent_adverts}
use Rattle.law_routing.specs.Routing.{routing_machine}

module _ (theory : Theory) (net : Net theory) where
  -- what a message makes of the filters held of a link
  abbrev pub apply_filters : List theory.Filter → Message theory → List theory.Filter
  apply_filters held (Subs out add) = union theory.before (minus theory.before held out) add
  apply_filters held (Advs out add) = held
  apply_filters held (Noticed publisher ordinal notice) = held

  -- and of the advertisements
  abbrev pub apply_adverts : List theory.Advert → Message theory → List theory.Advert
  apply_adverts held (Subs out add) = held
  apply_adverts held (Advs out add) = union theory.before_advert (minus theory.before_advert held out) add
  apply_adverts held (Noticed publisher ordinal notice) = held

  -- the filters of links, as a content
  abbrev pub filter_content : Content (routing_machine theory net)
  filter_content = record { Set = List theory.Filter; sent = λ t s v. sent theory net s t v; held = λ t s u. s.subs u; apply = apply_filters }

  -- the advertisements of links, as a content
  abbrev pub advert_content : Content (routing_machine theory net)
  advert_content = record { Set = List theory.Advert; sent = λ t s v. sent_adverts theory net s t v; held = λ t s u. s.advs u; apply = apply_adverts }
