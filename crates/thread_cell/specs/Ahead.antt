-- Defines what a step answers whose publication was matched ahead.
use Rattle.std.specs.Prelude.{◌≡◌, ◌↔◌, ℕ, List, Option, None, Some, length, IsTrue}
use Rattle.base.specs.Sets.{Has}
use Rattle.filter_types.specs.Notice.{Attribute, AreValues}
use Rattle.law_machine.specs.Machine.{Does, Receives}
use Rattle.law_routing.specs.Server.{Message, Noticed}
use Rattle.law_routing.specs.Step.{NextCommand, TableUpdate}
use Rattle.net_model.specs.Real.{real}
use Rattle.filter_text.specs.declared.id.Id.{Id}
use Rattle.net_model.specs.Parts.{NetParts, EntryParts}
use Rattle.base_bits.specs.Rows.{Numbers}
use Rattle.match_filters.specs.Matching.{matched}
use Rattle.net_tables.specs.Known.{known_filters}
use Rattle.net_tables.specs.Found.{IsFound, publication_at}
use Rattle.server_spec.specs.declared.planned.Planned.TheVariants.{Publish}
use Rattle.server_spec.specs.Session.{SessionParts}
use Rattle.server_spec.specs.Plan.{next_plan}
use Rattle.server_message.specs.declared.load.Load.{Load}
use Rattle.match_routes.specs.Routes.{IsRouteBy}
use Rattle.server_core.specs.Core.{CoreParts, installed_from}
use Rattle.server_core.specs.Routed.{IsRoute, RoutesNext, RoutesMessage}
use Rattle.thread_versions.specs.Pairs.{pairs_after}
use Rattle.thread_versions.specs.declared.publisher.Publisher.{Publisher}
use Rattle.thread_versions.specs.declared.ahead.Ahead.{Ahead}
use Rattle.thread_versions.specs.Ends.{matched_in, route_in, seen_in, installed}
use Rattle.thread_cell.specs.declared.choice.Choice.{Choice}
use Rattle.thread_cell.specs.declared.choice.Matched.{Matched}
use Rattle.thread_cell.specs.declared.choice.Choice.TheVariants.{Other, Outdated, Agreed}
use Rattle.net_model.specs.declared.turn.Act.{Act}
use Rattle.thread_cell.specs.declared.turned.Turned.{Turned}
use Rattle.thread_cell.specs.declared.turned.Turned.TheVariants.{Made, Stale, Idle}
use Rattle.thread_cell.specs.declared.held.ServerInHand.{ServerInHand}
use Rattle.thread_cell.specs.Heard.{heard}
use Rattle.thread_cell.specs.Acted.{Represented, StampedInput}
use Rattle.thread_cell.specs.LaneReceiving.{HasMissed}
use Rattle.thread_cell.specs.Turns.{IsStill, IsReception, IsReceptionFrom}
use Rattle.thread_cell.specs.Asked.{Answers, IsMadeStep, IsIdleStep}

-- the next command of a client is a publish that will be accepted, of a publication that matches these numbers
abbrev pub PublishesNext : CoreParts → ℕ → List ℕ → Type 0
PublishesNext core client numbers = (s : SessionParts) × Has s core.clients × (s.client ≡ client)
    × ((id : Id) × (n : List Attribute) × (next_plan s ≡ Some (Publish id n)) × (matched n (known_filters core.net.clients) ≡ numbers))

-- a message is a notice that matches these numbers of a net's filters
abbrev pub CarriesMatched : NetParts → Message real → List ℕ → Type 0
CarriesMatched net m numbers =
    (publisher ordinal : ℕ) × (n : List Attribute) × (m ≡ Noticed publisher ordinal n) × (matched n (known_filters net.clients) ≡ numbers)

-- a step routes a publication that matches these numbers
abbrev pub RoutesMatched : CoreParts → StampedInput → List ℕ → Type 0
RoutesMatched core (Does (NextCommand client)) numbers = PublishesNext core client numbers
RoutesMatched core (Does TableUpdate) numbers = ⊥
RoutesMatched core (Receives from m) numbers = CarriesMatched core.net m.message numbers

-- what was matched ahead has seen all that is installed
abbrev pub IsUpToDate : Publisher → Ahead → Type 0
IsUpToDate publisher ahead = length (seen_in ahead) ≡ length (installed publisher)

-- it has, and its route is that by what the core installed of each notice that matches its numbers, by which a step that routes such a one is made
abbrev pub IsRight : CoreParts → Publisher → Ahead → Type 0
IsRight core publisher ahead = IsUpToDate publisher ahead × ((n : List Attribute) → AreValues n
    → matched n (known_filters core.net.clients) ≡ matched_in ahead → IsRoute n (installed_from core) (route_in ahead))

-- WHAT IS ANSWERED with a match ahead: as without one; a made step is stale exactly where it routes a publication of the matched numbers and the match had
-- not seen all that is installed; and where it had, its route is the one by which the step is made
abbrev pub AnswersAhead : ℕ → Act → Ahead → ServerInHand → ServerInHand → List EntryParts → List EntryParts → Turned → Type 0
AnswersAhead phase what ahead old new before after Made = (made : IsMadeStep phase what old new before after)
    × (RoutesMatched old.core made.input (matched_in ahead) → IsRight old.core old.publisher ahead)
AnswersAhead phase what ahead old new before after Stale = (made : IsMadeStep phase what old new before after)
    × RoutesMatched old.core made.input (matched_in ahead) × (IsUpToDate old.publisher ahead → ⊥)
AnswersAhead phase what ahead old new before after Idle = IsStill old new before after × IsIdleStep phase what old new

-- whether a match had seen all that is installed is told, and its route is then that of what is installed
pub record IsJudged (publisher : Publisher) (matched : Matched) : Type 0 where
  pub exact : IsTrue matched.agreed ↔ IsUpToDate publisher matched.ahead.now
  pub route : IsTrue matched.agreed → IsRouteBy (matched_in matched.ahead.now) (pairs_after (installed publisher)) (route_in matched.ahead.now)

-- what is answered with a match ahead or without one
abbrev pub AnswersBy : ℕ → Act → Option Matched → ServerInHand → ServerInHand → List EntryParts → List EntryParts → Turned → Type 0
AnswersBy phase what None old new before after turned = Answers phase what old new before after turned
AnswersBy phase what (Some matched) old new before after turned = AnswersAhead phase what matched.ahead.now old new before after turned

-- what a step is that is made by it: stale where the match had not seen all that is installed
abbrev pub turned_by : Choice → Turned
turned_by Other = Made
turned_by Outdated = Stale
turned_by (Agreed route) = Made

-- what comes of a match ahead for matched numbers: it is of others, or out of date, or this is its route, which is that of what is installed
abbrev pub IsChoice : Publisher → Ahead → List ℕ → Choice → Type 0
IsChoice publisher ahead numbers Other = matched_in ahead ≡ numbers → ⊥
IsChoice publisher ahead numbers Outdated = (matched_in ahead ≡ numbers) × (IsUpToDate publisher ahead → ⊥)
IsChoice publisher ahead numbers (Agreed route) =
    (matched_in ahead ≡ numbers) × IsUpToDate publisher ahead × IsRouteBy numbers (pairs_after (installed publisher)) route.now × (route.now ≡ route_in ahead)

-- for the publication of a net with a number
abbrev pub IsChoiceIn : NetParts → Publisher → Ahead → ℕ → Choice → Type 0
IsChoiceIn net publisher ahead number choice =
    (found : Numbers) × IsFound net (publication_at net number) found × IsChoice publisher ahead found.members choice

-- for the next command of a client
abbrev pub IsChoiceNext : CoreParts → Publisher → Ahead → ℕ → Choice → Type 0
IsChoiceNext core publisher ahead client Other = PublishesNext core client (matched_in ahead) → ⊥
IsChoiceNext core publisher ahead client Outdated = PublishesNext core client (matched_in ahead) × (IsUpToDate publisher ahead → ⊥)
IsChoiceNext core publisher ahead client (Agreed route) = IsRight core publisher ahead × RoutesNext core client route.now

-- the same of a match ahead that may not be there
abbrev pub IsChoiceNextBy : CoreParts → Publisher → Option Matched → ℕ → Choice → Type 0
IsChoiceNextBy core publisher None client choice = choice ≡ Other
IsChoiceNextBy core publisher (Some matched) client choice = IsChoiceNext core publisher matched.ahead.now client choice

-- for what a message carries
abbrev pub IsChoiceOf : CoreParts → Publisher → Ahead → Load → Choice → Type 0
IsChoiceOf core publisher ahead load Other = CarriesMatched core.net (heard core.net load) (matched_in ahead) → ⊥
IsChoiceOf core publisher ahead load Outdated = CarriesMatched core.net (heard core.net load) (matched_in ahead) × (IsUpToDate publisher ahead → ⊥)
IsChoiceOf core publisher ahead load (Agreed route) = IsRight core publisher ahead × RoutesMessage core (heard core.net load) route.now

-- the same of a match ahead that may not be there
abbrev pub IsChoiceOfBy : CoreParts → Publisher → Option Matched → Load → Choice → Type 0
IsChoiceOfBy core publisher None load choice = choice ≡ Other
IsChoiceOfBy core publisher (Some matched) load choice = IsChoiceOf core publisher matched.ahead.now load choice

-- the same of a reception from the neighbour at a place
abbrev pub IsReceptionAhead : ℕ → ℕ → Ahead → ServerInHand → ServerInHand → List EntryParts → List EntryParts → Turned → Type 0
IsReceptionAhead phase place ahead old new before after Made = (m : Represented) × IsReceptionFrom phase place m old new before after
    × (CarriesMatched old.core.net m.message (matched_in ahead) → IsRight old.core old.publisher ahead)
IsReceptionAhead phase place ahead old new before after Stale = (m : Represented) × IsReceptionFrom phase place m old new before after
    × CarriesMatched old.core.net m.message (matched_in ahead) × (IsUpToDate old.publisher ahead → ⊥)
IsReceptionAhead phase place ahead old new before after Idle = IsStill old new before after × HasMissed place old.links.items new.links.items

-- the same with a match ahead or without one
abbrev pub IsReceptionBy : ℕ → ℕ → Option Matched → ServerInHand → ServerInHand → List EntryParts → List EntryParts → Turned → Type 0
IsReceptionBy phase place None old new before after turned = IsReception phase place old new before after turned
IsReceptionBy phase place (Some matched) old new before after turned = IsReceptionAhead phase place matched.ahead.now old new before after turned
