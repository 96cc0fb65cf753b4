-- A client's own filters and advertisements in the order in which they were added.
use Rattle.std.specs.Prelude.{ℕ, cond, not, List, [], ◌∷◌, ◌++◌, filter}
use Rattle.base.specs.Sets.{member}
use Rattle.law_routing.specs.Theory.{Theory}
use Rattle.law_routing.specs.Net.{Net, Command, Subscribe, Unsubscribe, Advertise, Unadvertise, Publish, PhasedCommand}
use Rattle.law_routing.specs.Clients.{ordinal, add_refused}

module _ (theory : Theory) where
  -- its filters after one command: a subscription adds its filter at the end where it is not there, a withdrawal takes away all that its filter covers
  abbrev pub own_filters_step : List theory.Filter → Command theory → List theory.Filter
  own_filters_step filters (Subscribe f) = cond (member theory.before f filters) filters (filters ++ f ∷ [])
  own_filters_step filters (Unsubscribe f) = filter (λ g. not (theory.covers f g)) filters
  own_filters_step filters (Advertise a) = filters
  own_filters_step filters (Unadvertise a) = filters
  own_filters_step filters (Publish n) = filters

  -- its filters after commands
  abbrev pub own_filters : List theory.Filter → List (PhasedCommand theory) → List theory.Filter
  own_filters filters [] = filters
  own_filters filters (command ∷ commands) = own_filters (own_filters_step filters command.command) commands

  -- its advertisements after one command
  abbrev pub own_adverts_step : List theory.Advert → Command theory → List theory.Advert
  own_adverts_step adverts (Subscribe f) = adverts
  own_adverts_step adverts (Unsubscribe f) = adverts
  own_adverts_step adverts (Advertise a) = cond (member theory.before_advert a adverts) adverts (adverts ++ a ∷ [])
  own_adverts_step adverts (Unadvertise a) = filter (λ b. not (theory.covers_advert a b)) adverts
  own_adverts_step adverts (Publish n) = adverts

  -- its advertisements after commands
  abbrev pub own_adverts : List theory.Advert → List (PhasedCommand theory) → List theory.Advert
  own_adverts adverts [] = adverts
  own_adverts adverts (command ∷ commands) = own_adverts (own_adverts_step adverts command.command) commands

  -- after commands, what one more adds to the ordinals of refused publishes: its own, where it is a publish that no one advertisement of the list allows
  abbrev pub refused_next : Net theory → List (PhasedCommand theory) → Command theory → List ℕ
  refused_next net commands command = add_refused theory net (own_adverts [] commands) (ordinal theory commands) command []
