-- Defines entries that route a publication: where to, for whom, and in what order.
use Rattle.std.specs.Prelude.{◌≡◌, ℕ, suc, ◌<◌, true, List, [], ◌∷◌, ◌++◌}
use Rattle.base.specs.Sets.{Has}
use Rattle.law_routing.specs.Theory.{Theory}
use Rattle.law_routing.specs.Net.{Net}
use Rattle.law_routing.specs.Server.{Publication}
use Rattle.law_routing.specs.Rest.{filters_of}
use Rattle.law_routing.specs.AsOf.{calm, IsRoutedAt, IsWantedBeyond, times_delivered}
use Rattle.law_routing.specs.Order.{ordinals_put, ordinals_delivered, IsAuthentic}
use Rattle.law_phases.specs.Trees.{entries_on, net_at, at_phase}
use Rattle.law_phases.specs.Runs.{PhasedRun}
use Rattle.law_phases.specs.AtMoments.{states, phases, phase_seen, net_then, net_seen, states_on, inbox_at, inbox_of}
use Rattle.law_phases.specs.Owing.{IsPublishedIn}

module _ (theory : Theory) (run : PhasedRun theory) where
  -- an entry at moment m routes the publication at a server, where it came in by this interface, on the tree of a net
  abbrev pub IsRoutedOn : Net theory → ℕ → ℕ → ℕ → Publication theory → Type 0
  IsRoutedOn net m server interface publication =
      IsRoutedAt theory net (states_on theory run net) (entries_on theory net run.journal) m server interface
      publication.publisher publication.ordinal publication.notice

  -- an entry of the run that routes a publication: after so many entries, at this server, where it came in by this interface
  pub record Routed : Type 0 where
    pub moment : ℕ
    pub server : ℕ
    pub interface : ℕ
    pub publication : Publication theory
    pub at : IsRoutedOn (net_seen theory run moment) moment server interface publication

  -- it is an accepted publication of the entry's phase
  abbrev pub IsPublished : Routed → Type 0
  IsPublished routed = IsPublishedIn theory run.net (phase_seen theory run routed.moment) routed.publication

  -- the entry sends it to a neighbour
  abbrev pub IsSentTo : Routed → ℕ → Type 0
  IsSentTo routed neighbour = Has neighbour routed.at.entry.outs

  -- on the tree at the entry's moment the neighbour is one that it did not come by
  pub record IsOnward (routed : Routed) (neighbour : ℕ) : Type 0 where
    pub near : Has neighbour ((net_seen theory run routed.moment).links routed.server)
    pub other : neighbour ≡ routed.interface → ⊥

  -- a client beyond a neighbour, on the tree at the entry's moment, had a filter that matches, at the moment that the server knows of by its last table update
  abbrev pub IsWanted : Routed → ℕ → Type 0
  IsWanted routed neighbour =
      IsWantedBeyond theory (net_seen theory run routed.moment) (states_on theory run (net_seen theory run routed.moment))
      routed.publication.notice routed.server neighbour routed.moment

  -- the entry delivers it to a client of its server
  abbrev pub IsDelivered : Routed → ℕ → Type 0
  IsDelivered routed client =
      inbox_at theory run (suc routed.moment) routed.server client ≡ inbox_at theory run routed.moment routed.server client ++ routed.publication ∷ []

  -- a client's filters, on the tree at the entry's moment, at the server's last moment with nothing pending
  abbrev pub filters_then : Routed → ℕ → List theory.Filter
  filters_then routed client =
      let net = net_seen theory run routed.moment in
      filters_of theory net (states_on theory run net (calm theory net (states_on theory run net) routed.server routed.moment)) client

  -- a filter that matches was in the client's list then
  abbrev pub IsInForce : Routed → ℕ → Type 0
  IsInForce routed client = (f : theory.Filter) × Has f (filters_then routed client) × (theory.matches routed.publication.notice f ≡ true)

  -- two entries at one server that route publications of one publisher, one after the other
  pub record PassTwo : Type 0 where
    pub earlier : Routed
    pub later : Routed
    pub follows : earlier.moment < later.moment
    pub one_server : earlier.server ≡ later.server
    pub one_publisher : earlier.publication.publisher ≡ later.publication.publisher

  -- the ordinals of a publisher's notices in the inbox of a client of a server after n entries, in the order of their delivery
  abbrev pub ordinals_given : ℕ → ℕ → ℕ → ℕ → List ℕ
  ordinals_given n publisher server client = ordinals_delivered theory (net_then theory run n) publisher (inbox_at theory run n server client)

  -- the ordinals of a publisher's notices that were put on a link since the tree in force came
  abbrev pub ordinals_sent : ℕ → ℕ → ℕ → ℕ → List ℕ
  ordinals_sent n publisher from to = ordinals_put theory (net_then theory run n) publisher ((states theory run n).put from to)

  -- how often that inbox has an id
  abbrev pub times_given : ℕ → ℕ → ℕ → ℕ → ℕ → ℕ
  times_given n server client publisher ordinal = times_delivered theory (net_then theory run n) publisher ordinal (inbox_at theory run n server client)

  -- what is on a link or in an inbox after n entries is the notice of an accepted publication, under its id
  abbrev pub IsAuthenticAt : ℕ → Type 0
  IsAuthenticAt n = IsAuthentic theory (net_then theory run n) (at_phase theory run.net (phases theory run n) (states theory run n))

  -- at the end a client's inbox has the publication, once
  abbrev pub IsDeliveredOnce : Publication theory → ℕ → Type 0
  IsDeliveredOnce publication client =
      Has publication (inbox_of theory run client)
      × (times_delivered theory (net_at theory run.net run.last) publication.publisher publication.ordinal (inbox_of theory run client) ≡ 1)
