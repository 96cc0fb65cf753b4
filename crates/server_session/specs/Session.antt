-- What contracts see of a session in a net, and what its next command does by the numbers of the net.
use Rattle.std.specs.Prelude.{◌≡◌, ℕ, suc, List, length, slice_get, Some}
use Rattle.std.specs.Int.{IsInRange}
use Rattle.base_bits.specs.Rows.{Numbers}
use Rattle.base_order.specs.Order.{picked}
use Rattle.filter_types.specs.Before.{list_before}
use Rattle.filter_text.specs.declared.command.Command.{Command}
use Rattle.filter_text.specs.Messages.{Lists}
use Rattle.net_model.specs.Parts.{NetParts}
use Rattle.server_spec.specs.declared.planned.Planned.TheVariants as plans
use Rattle.server_spec.specs.Session.{SessionParts, IsSession as KeepsSession, filters_at, adverts_at, publishes_at}
use Rattle.server_spec.specs.Plan.{next_plan}
use Rattle.server_spec.specs.Turn.{filter_set_at, advert_set_at}
use Rattle.net_tables.specs.Known.{PublicationParts, known_filters, known_adverts, known_publications}
use Rattle.net_tables.specs.declared.numbered.NumberedCommand.{NumberedCommand}
use Rattle.net_tables.specs.Numbered.{catalogued, RepresentsCommand, AreNumbered}
use Rattle.server_session.specs.declared.planned.Planned.{Planned}
use Rattle.server_session.specs.declared.planned.Planned.TheVariants.{Filters, Adverts, Publish, Refused}
use Rattle.server_session.specs.Moved.{IsMoved}

-- a session, in the net whose run it is in
pub record NetSession : Type 0 where
  pub net : NetParts
  pub session : SessionParts

abbrev pub net_session : NetParts → SessionParts → NetSession
net_session net session = record { net = net; session = session }

-- WHAT THE NEXT COMMAND DOES, by the numbers of the net: it turns the client's set into the next one, or it publishes, or is refused
abbrev pub PlansNext : NetParts → SessionParts → Planned → Type 0
PlansNext net s (Filters moved) = ((out add : Lists) × (next_plan s ≡ Some (plans.Subs out add)))
    × IsMoved list_before (known_filters net.clients) (filter_set_at s s.taken) (filter_set_at s (suc s.taken)) moved
PlansNext net s (Adverts moved) = ((out add : Lists) × (next_plan s ≡ Some (plans.Advs out add)))
    × IsMoved list_before (known_adverts net.clients) (advert_set_at s s.taken) (advert_set_at s (suc s.taken)) moved
PlansNext net s (Publish id number) = (p : PublicationParts) × (slice_get (known_publications 1 net.clients) number ≡ Some p)
    × (p.id ≡ id) × (next_plan s ≡ Some (plans.Publish id p.notice))
PlansNext net s (Refused ordinal) = next_plan s ≡ Some (plans.Refused ordinal)

-- an ordinal is one of at most 100,000, and a publisher is the client
abbrev pub IsCounted : ℕ → Planned → Type 0
IsCounted client (Filters moved) = Unit {0}
IsCounted client (Adverts moved) = Unit {0}
IsCounted client (Publish id number) = (id.publisher ≡ client) × IsInRange 1 100000 id.ordinal
IsCounted client (Refused ordinal) = Unit {0}

-- what is kept beside what contracts see: the script by numbers, the sets of the commands executed as rows, and how many publishes there were
pub record IsNumbered (net : NetParts) (s : SessionParts) (steps : List (ℕ × NumberedCommand)) (filters adverts : Numbers) (refused : List ℕ) (publishes : ℕ)
    : Type 0 where
  pub semantics : s.semantics ≡ net.semantics
  pub steps_mean : AreNumbered (catalogued net.clients) s.client 0 steps s.script
  pub filters_width : filters.width ≡ length (known_filters net.clients)
  pub filters_are : picked (known_filters net.clients) filters.members ≡ filter_set_at s s.taken
  pub adverts_width : adverts.width ≡ length (known_adverts net.clients)
  pub adverts_are : picked (known_adverts net.clients) adverts.members ≡ advert_set_at s s.taken
  pub kept : KeepsSession s (filters_at s s.taken) (adverts_at s s.taken) refused publishes

-- a numbered command represents the next one of the script
pub record IsNextCommand (net : NetParts) (s : SessionParts) (n : NumberedCommand) : Type 0 where
  pub step : ℕ × Command
  pub at : slice_get s.script s.taken ≡ Some step
  pub represents : RepresentsCommand (catalogued net.clients) s.client (publishes_at s s.taken) step.0 n step.1
