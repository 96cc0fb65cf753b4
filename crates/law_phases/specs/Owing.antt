-- What is owed and allowed to a client over trees by phase: by the scripts alone.
use Rattle.std.specs.Prelude.{ℕ}
use Rattle.base.specs.Sets.{Has}
use Rattle.law_routing.specs.Theory.{Theory}
use Rattle.law_routing.specs.Server.{Publication}
use Rattle.law_routing.specs.Owed.{IsPublication, IsOwed, IsDue, IsAllowed}
use Rattle.law_phases.specs.Trees.{PhasedNet, net_at}

module _ (theory : Theory) (net : PhasedNet theory) where
  -- it is an accepted publication of this phase
  abbrev pub IsPublishedIn : ℕ → Publication theory → Type 0
  IsPublishedIn phase publication = IsPublication theory (net_at theory net phase) publication.publisher publication.ordinal phase publication.notice

  -- a publication that is owed to a client
  pub record IsOwedByScripts (publication : Publication theory) (client : ℕ) : Type 0 where
    pub phase : ℕ
    pub published : IsPublishedIn phase publication
    pub owed : IsOwed theory (net_at theory net phase) publication.publisher phase publication.notice client
    pub here : Has publication.publisher (net.clients (net.home publication.publisher))
    pub lives : Has client (net.clients (net.home client))

  -- a publication that is due to a client
  pub record IsDueByScripts (publication : Publication theory) (client : ℕ) : Type 0 where
    pub phase : ℕ
    pub published : IsPublishedIn phase publication
    pub due : IsDue theory (net_at theory net phase) publication.publisher phase published.index publication.notice client
    pub here : Has publication.publisher (net.clients (net.home publication.publisher))
    pub lives : Has client (net.clients (net.home client))

  -- a publication that is allowed to a client
  abbrev pub IsAllowedByScripts : Publication theory → ℕ → Type 0
  IsAllowedByScripts publication client = (phase : ℕ) × IsPublishedIn phase publication
      × IsAllowed theory (net_at theory net phase) phase publication.notice client

  -- all that is allowed to a client is owed to it
  pub record IsStableByScripts (client : ℕ) : Type 0 where
    pub lives : Has client (net.clients (net.home client))
    pub owed : (publication : Publication theory) → IsAllowedByScripts publication client → IsOwedByScripts publication client
