-- What a message does at a server of a hierarchy.
use Rattle.std.specs.Prelude.{◌≡◌, ℕ, ◌==◌, ◌&&◌, ◌||◌, not, Bool, List, [], filter, map, Option, Some, None}
use Rattle.filter_constraints.specs.Constraint.{ConstraintParts}
use Rattle.filter_types.specs.Notice.{Attribute}
use Rattle.law_routing.specs.Server.{Message, Subs, Advs, Noticed, is_among}
use Rattle.net_model.specs.Real.{real}
use Rattle.net_model.specs.Parts.{NetParts}
use Rattle.server_message.specs.Parts.{SendingParts}
use Rattle.net_tables.specs.Found.{publication_at}
use Rattle.server_spec.specs.Session.{SessionParts}
use Rattle.server_session.specs.declared.planned.Planned.{Planned}
use Rattle.server_core.specs.declared.acting.Outgoing.{Outgoing}
use Rattle.server_core.specs.Clients.{bare}
use Rattle.server_core.specs.Ledger.{LedgerParts, FiltersSet}
use Rattle.server_core.specs.Acting.{clients_on, delivered, delivery_under, sent_on, HasChanged}

-- of what is sent, that for one neighbour
abbrev pub sent_up : ℕ → List SendingParts → List SendingParts
sent_up master sent = filter (λ s. s.to == master) sent

-- whether a notice from an interface goes on to a link: to the master, and where the route has it, but never back
abbrev pub goes : ℕ → ℕ → List ℕ → ℕ → Bool
goes master from route link = not (link == from) && ((link == master) || is_among link route)

-- the links that it goes on to
abbrev pub links_from : ℕ → ℕ → List ℕ → List ℕ → List ℕ
links_from master from route links = filter (goes master from route) links

-- a notice went on, and was delivered by its route
pub record IsSpreadUp (net : NetParts) (master from publisher ordinal : ℕ) (notice : List Attribute) (route links : List ℕ) (old new : List SessionParts)
    (sent : List SendingParts) : Type 0 where
  pub inboxes : map bare new ≡ map bare (delivered (clients_on route) (delivery_under publisher ordinal notice) old)
  pub sent_are : sent ≡ sent_on net (Noticed publisher ordinal notice) (links_from master from route links)

-- a change of filters from an interface, of whose messages those to the master are sent
pub record IsSetUp (master interface : ℕ) (out add : List (List ConstraintParts)) (old new : LedgerParts) (sent : List SendingParts) : Type 0 where
  pub all : List SendingParts
  pub set : FiltersSet interface out add old new all
  pub sent_are : sent ≡ sent_up master all

-- what a message from an interface does to a server's ledger and to its clients; advertisements do nothing
abbrev pub HasActedUp : ℕ → ℕ → Message real → List ℕ → LedgerParts → LedgerParts → List SessionParts → List SessionParts → List SendingParts → Type 0
HasActedUp master from (Subs out add) route old new clients clients_new sent =
    IsSetUp master from out add old new sent × (map bare clients_new ≡ map bare clients)
HasActedUp master from (Advs out add) route old new clients clients_new sent = (new ≡ old) × (map bare clients_new ≡ map bare clients) × (sent ≡ [])
HasActedUp master from (Noticed publisher ordinal n) route old new clients clients_new sent =
    (new ≡ old) × IsSpreadUp old.net master from publisher ordinal n route old.control.links clients clients_new sent

-- what the next command of a client does there: of the messages of a change those to the master are sent, and a publication goes on and is delivered
abbrev pub HasGoneUp : ℕ → ℕ → Planned → Option Outgoing → LedgerParts → LedgerParts → List SessionParts → List SessionParts → List SendingParts → Type 0
HasGoneUp master from plan None old new clients clients_new sent =
    ((all : List SendingParts) × HasChanged from plan old new all × (sent ≡ sent_up master all)) × (clients_new ≡ clients)
HasGoneUp master from plan (Some out) old new clients clients_new sent =
    (new ≡ old) × IsSpreadUp old.net master from (publication_at old.net out.number).id.publisher (publication_at old.net out.number).id.ordinal
    (publication_at old.net out.number).notice out.route.now old.control.links clients clients_new sent
