-- Defines which publications are settled wherever they pass.
use Rattle.std.specs.Prelude.{◌≡◌, ℕ, ◌+◌, ◌≤◌, ◌<◌, true, List, [], ◌∷◌, length}
use Rattle.base.specs.Sets.{Has}
use Rattle.law_routing.specs.Theory.{Theory}
use Rattle.law_routing.specs.Net.{Net}
use Rattle.law_routing.specs.Server.{Publication, client_interface}
use Rattle.law_routing.specs.Rest.{IsOnwardWay, end_of}
use Rattle.law_routing.specs.AsOf.{IsSettled, IsReceivedAlong}
use Rattle.law_phases.specs.Trees.{on, net_at, is_one_tree}
use Rattle.law_phases.specs.Runs.{PhasedRun}
use Rattle.law_phases.specs.AtMoments.{states, phases, phase_seen, net_seen, states_on, inbox_at}
use Rattle.law_phases.specs.Routes.{IsRoutedOn, times_given}

module _ (theory : Theory) (run : PhasedRun theory) where
  -- a publication is settled at a server whenever an entry routes it there, on the tree of a net with this phase; the way to the client goes on by this path
  abbrev pub IsSettledHere : Net theory → ℕ → Publication theory → ℕ → List ℕ → ℕ → List ℕ → Type 0
  IsSettledHere net phase publication client behind server path =
      (m interface : ℕ) → is_one_tree theory run.net (phase_seen theory run m) phase ≡ true → IsRoutedOn theory run net m server interface publication
      → IsSettled theory net (states_on theory run net) publication.notice publication.publisher client behind server path m

  -- and so at each server of the way
  abbrev pub IsSettledOnWay : Net theory → ℕ → Publication theory → ℕ → List ℕ → ℕ → List ℕ → Type 0
  IsSettledOnWay net phase publication client behind server [] = IsSettledHere net phase publication client behind server []
  IsSettledOnWay net phase publication client behind server (next ∷ path) =
      IsSettledHere net phase publication client behind server (next ∷ path) × IsSettledOnWay net phase publication client (server ∷ behind) next path

  -- a way from the publisher's home on the tree of a phase
  abbrev pub IsWayFromHome : ℕ → Publication theory → List ℕ → Type 0
  IsWayFromHome phase publication path =
      IsOnwardWay theory (net_at theory run.net phase) (run.net.home publication.publisher) (run.net.home publication.publisher) path

  -- on the tree of a phase it is settled all along a way from there
  abbrev pub IsSettledFromHome : ℕ → Publication theory → ℕ → List ℕ → Type 0
  IsSettledFromHome phase publication client path =
      IsSettledOnWay (net_at theory run.net phase) phase publication client [] (run.net.home publication.publisher) path

  -- at the end each message of it on the way is received, on the tree of a net
  abbrev pub IsReceivedFromHome : Net theory → Publication theory → List ℕ → Type 0
  IsReceivedFromHome net publication path =
      IsReceivedAlong theory net (λ n. on theory net run.end) 0 publication.publisher publication.ordinal publication.notice
      (run.net.home publication.publisher) path

  -- an entry at the publisher's home publishes it, and it is settled wherever it passes on the way to the client on the tree of that moment;
  -- where that tree is in force at the end, each of its messages on that way is received
  pub record IsSettledTo (publication : Publication theory) (client : ℕ) : Type 0 where
    pub here : Has publication.publisher (run.net.clients (run.net.home publication.publisher))
    pub moment : ℕ
    pub published : IsRoutedOn theory run (net_seen theory run moment) moment (run.net.home publication.publisher)
        (client_interface publication.publisher) publication
    pub path : List ℕ
    pub way : IsWayFromHome (phase_seen theory run moment) publication path
    pub lives : Has client (run.net.clients (end_of theory (net_seen theory run moment) (run.net.home publication.publisher) path))
    pub settled : IsSettledFromHome (phase_seen theory run moment) publication client path
    pub taken : is_one_tree theory run.net (phase_seen theory run moment) run.last ≡ true → IsReceivedFromHome (net_seen theory run moment) publication path

  -- the same at any moment: it is settled wherever it passes on the way to the client on the tree of the moment at which it was published
  pub record IsSettledOn (publication : Publication theory) (client : ℕ) : Type 0 where
    pub here : Has publication.publisher (run.net.clients (run.net.home publication.publisher))
    pub moment : ℕ
    pub published : IsRoutedOn theory run (net_seen theory run moment) moment (run.net.home publication.publisher)
        (client_interface publication.publisher) publication
    pub path : List ℕ
    pub way : IsWayFromHome (phase_seen theory run moment) publication path
    pub lives : Has client (run.net.clients (end_of theory (net_seen theory run moment) (run.net.home publication.publisher) path))
    pub settled : IsSettledFromHome (phase_seen theory run moment) publication client path

  -- after n entries it is published, and where the tree of that moment is still in force each message of it on the way is received
  pub record IsAllReceivedBy (n : ℕ) (publication : Publication theory) (client : ℕ) (on_way : IsSettledOn publication client) : Type 0 where
    pub within : n ≤ length run.journal
    pub published : on_way.moment < n
    pub taken : is_one_tree theory run.net (phase_seen theory run on_way.moment) (phases theory run n) ≡ true
        → IsReceivedAlong theory (net_seen theory run on_way.moment) (λ k. on theory (net_seen theory run on_way.moment) (states theory run n)) 0
        publication.publisher publication.ordinal publication.notice (run.net.home publication.publisher) on_way.path

  -- after n entries the client's inbox has it, once
  abbrev pub IsDeliveredOnceBy : ℕ → Publication theory → ℕ → Type 0
  IsDeliveredOnceBy n publication client =
      Has publication (inbox_at theory run n (run.net.home client) client)
      × (times_given theory run n (run.net.home client) client publication.publisher publication.ordinal ≡ 1)
