-- What the next command of a client does at a server: what its plan does that is no publish, or a publication goes out.
use Rattle.std.specs.Prelude.{◌≡◌, ◌<◌, ℕ, List, length, Option, Some, None}
use Rattle.std.specs.List.Sorted.{IsStrictlyIncreasing}
use Rattle.base.specs.Sets.{Has}
use Rattle.filter_types.specs.Notice.{Attribute}
use Rattle.filter_text.specs.declared.id.Id.{Id}
use Rattle.net_model.specs.Parts.{NetParts}
use Rattle.net_tables.specs.Known.{known_publications}
use Rattle.net_tables.specs.Found.{publication_at}
use Rattle.server_spec.specs.declared.planned.Planned.TheVariants.{Publish}
use Rattle.server_spec.specs.Session.{SessionParts}
use Rattle.server_spec.specs.Plan.{next_plan}
use Rattle.server_message.specs.Parts.{SendingParts}
use Rattle.server_session.specs.declared.planned.Planned.{Planned}
use Rattle.server_core.specs.declared.acting.Outgoing.{Outgoing}
use Rattle.server_core.specs.Core.{CoreParts, installed_from}
use Rattle.server_core.specs.Ledger.{LedgerParts}
use Rattle.server_core.specs.Routed.{IsRoute}
use Rattle.server_core.specs.Acting.{HasChanged, IsChangeIn, IsSpread}

-- the next command of a client is a publish that is accepted, of the publication with this number, whose route this is
pub record IsGoingOut (core : CoreParts) (client number : ℕ) (route : List ℕ) : Type 0 where
  pub publish : (s : SessionParts) → Has s core.clients → s.client ≡ client
      → next_plan s ≡ Some (Publish (publication_at core.net number).id (publication_at core.net number).notice)
  pub known : number < length (known_publications 1 core.net.clients)
  pub routed : IsRoute (publication_at core.net number).notice (installed_from core) route

-- it is no publish that is accepted where nothing goes out
abbrev pub GoesOut : CoreParts → ℕ → Option Outgoing → Type 0
GoesOut core client None = (s : SessionParts) (id : Id) (n : List Attribute) → Has s core.clients → s.client ≡ client → next_plan s ≡ Some (Publish id n) → ⊥
GoesOut core client (Some out) = IsGoingOut core client out.number out.route.now

-- what can be done: a change by numbers of the net's items, or a publication of the net that goes by a rising route
abbrev pub CanGo : NetParts → Planned → Option Outgoing → Type 0
CanGo net plan None = IsChangeIn net plan
CanGo net plan (Some out) = (out.number < length (known_publications 1 net.clients)) × IsStrictlyIncreasing out.route.now

-- what it does to a server's ledger and to its clients
abbrev pub HasGone : ℕ → Planned → Option Outgoing → LedgerParts → LedgerParts → List SessionParts → List SessionParts → List SendingParts → Type 0
HasGone from plan None old new clients clients_new sent = HasChanged from plan old new sent × (clients_new ≡ clients)
HasGone from plan (Some out) old new clients clients_new sent =
    (new ≡ old) × IsSpread old.net from (publication_at old.net out.number).id.publisher (publication_at old.net out.number).id.ordinal
    (publication_at old.net out.number).notice out.route.now old.control.links clients clients_new sent
