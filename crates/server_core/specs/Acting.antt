-- What a message, or a client's planned change, does at a server.
use Rattle.std.specs.Prelude.{◌≡◌, ℕ, ◌-◌, ◌==◌, ◌&&◌, not, cond, nat_le, nat_lt, List, [], length, map, filter, Option, Some, None}
use Rattle.std.specs.List.Sorted.{IsStrictlyIncreasing}
use Rattle.filter_types.specs.Notice.{Attribute}
use Rattle.filter_text.specs.Deliveries.{Delivery}
use Rattle.filter_text.specs.NoticeText.{notice_text}
use Rattle.filter_text.specs.declared.semantics.Semantics.{Semantics}
use Rattle.filter_text.specs.declared.semantics.Semantics.TheVariants.{Subscription, Advertisement}
use Rattle.law_routing.specs.Server.{Message, Subs, Advs, Noticed, is_among}
use Rattle.net_model.specs.Real.{real}
use Rattle.net_model.specs.Parts.{NetParts}
use Rattle.server_spec.specs.declared.planned.Planned.{Planned}
use Rattle.server_spec.specs.declared.planned.Planned.TheVariants as plans
use Rattle.server_spec.specs.Session.{SessionParts}
use Rattle.server_message.specs.Parts.{SendingParts, onto}
use Rattle.base_order.specs.Order.{picked}
use Rattle.net_tables.specs.Known.{known_filters, known_adverts}
use Rattle.server_session.specs.declared.planned.Planned as numbers
use Rattle.server_session.specs.declared.planned.Planned.TheVariants as plans_by
use Rattle.server_session.specs.declared.planned.Moved.{Moved}
use Rattle.server_session.specs.Moved.{gone, come}
use Rattle.server_session.specs.Own.{IsWithin}
use Rattle.server_core.specs.Clients.{bare, handed}
use Rattle.server_core.specs.Ledger.{LedgerParts, FiltersSet, AdvertsSet}

-- a notice has a rising route
abbrev pub IsRouted : Message real → List ℕ → Type 0
IsRouted (Noticed publisher ordinal n) route = IsStrictlyIncreasing route
IsRouted (Subs out add) route = Unit {0}
IsRouted (Advs out add) route = Unit {0}

-- what a planned change is as a message from the client's interface: a refused publish is none, nor is a change of advertisements under
-- subscription semantics
abbrev pub planned_message : Semantics → Planned → Option (Message real)
planned_message semantics (plans.Subs out add) = Some (Subs out add)
planned_message Subscription (plans.Advs out add) = None
planned_message Advertisement (plans.Advs out add) = Some (Advs out add)
planned_message semantics (plans.Publish id n) = Some (Noticed id.publisher id.ordinal n)
planned_message semantics (plans.Refused ordinal) = None

-- the links of a route but one
abbrev pub links_on : List ℕ → ℕ → List ℕ → List ℕ
links_on links from route = filter (λ i. nat_le i 64 && (not (i == from) && is_among i links)) route

-- the clients of a route
abbrev pub clients_on : List ℕ → List ℕ
clients_on route = map (λ i. i - 64) (filter (λ i. nat_lt 64 i) route)

-- what is delivered of a publication
abbrev pub delivery_under : ℕ → ℕ → List Attribute → Delivery
delivery_under publisher ordinal notice = record { id = record { publisher = publisher; ordinal = ordinal }; bytes = notice_text notice }

-- a message for each of these links
abbrev pub sent_on : NetParts → Message real → List ℕ → List SendingParts
sent_on net message links = map (λ link. onto net link message) links

-- each of these clients has one more delivery
abbrev pub delivered : List ℕ → Delivery → List SessionParts → List SessionParts
delivered clients delivery sessions = map (λ s. cond (is_among s.client clients) (handed delivery s) s) sessions

-- a notice went on by its route and was delivered
pub record IsSpread (net : NetParts) (from publisher ordinal : ℕ) (notice : List Attribute) (route links : List ℕ) (old new : List SessionParts)
    (sent : List SendingParts) : Type 0 where
  pub inboxes : map bare new ≡ map bare (delivered (clients_on route) (delivery_under publisher ordinal notice) old)
  pub sent_are : sent ≡ sent_on net (Noticed publisher ordinal notice) (links_on links from route)

-- what a message from an interface does to a server's ledger and to its clients
abbrev pub HasActed : ℕ → Message real → List ℕ → LedgerParts → LedgerParts → List SessionParts → List SessionParts → List SendingParts → Type 0
HasActed from (Subs out add) route old new clients clients_new sent = FiltersSet from out add old new sent × (map bare clients_new ≡ map bare clients)
HasActed from (Advs out add) route old new clients clients_new sent = AdvertsSet from out add old new sent × (map bare clients_new ≡ map bare clients)
HasActed from (Noticed publisher ordinal n) route old new clients clients_new sent =
    (new ≡ old) × IsSpread old.net from publisher ordinal n route old.control.links clients clients_new sent

-- the same of a plan, which does nothing where it is no message
abbrev pub HasDone : ℕ → Option (Message real) → List ℕ → LedgerParts → LedgerParts → List SessionParts → List SessionParts → List SendingParts → Type 0
HasDone from None route old new clients clients_new sent = (new ≡ old) × (map bare clients_new ≡ map bare clients) × (sent ≡ [])
HasDone from (Some message) route old new clients clients_new sent = HasActed from message route old new clients clients_new sent

-- a plan by numbers of the net's items that is no publish
abbrev pub IsChangeIn : NetParts → numbers.Planned → Type 0
IsChangeIn net (plans_by.Filters moved) = IsWithin (length (known_filters net.clients)) moved
IsChangeIn net (plans_by.Adverts moved) = IsWithin (length (known_adverts net.clients)) moved
IsChangeIn net (plans_by.Publish id number) = ⊥
IsChangeIn net (plans_by.Refused ordinal) = Unit {0}

-- advertisements change under advertisement semantics alone
abbrev pub HasOffered : Semantics → ℕ → Moved → LedgerParts → LedgerParts → List SendingParts → Type 0
HasOffered Subscription from moved old new sent = (new ≡ old) × (sent ≡ [])
HasOffered Advertisement from moved old new sent =
    AdvertsSet from (picked (known_adverts old.net.clients) (gone moved)) (picked (known_adverts old.net.clients) (come moved)) old new sent

-- what a plan by numbers that is no publish does to a server's ledger
abbrev pub HasChanged : ℕ → numbers.Planned → LedgerParts → LedgerParts → List SendingParts → Type 0
HasChanged from (plans_by.Filters moved) old new sent =
    FiltersSet from (picked (known_filters old.net.clients) (gone moved)) (picked (known_filters old.net.clients) (come moved)) old new sent
HasChanged from (plans_by.Adverts moved) old new sent = HasOffered old.control.semantics from moved old new sent
HasChanged from (plans_by.Publish id number) old new sent = ⊥
HasChanged from (plans_by.Refused ordinal) old new sent = (new ≡ old) × (sent ≡ [])
