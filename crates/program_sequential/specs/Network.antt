-- What the network is promised to have done: by its journal.
use Rattle.std.specs.Prelude.{◌≡◌, ◌↔◌, ℕ, false, List}
use Rattle.base.specs.Sets.{Has}
use Rattle.law_routing.specs.Server.{Publication}
use Rattle.law_phases.specs.Trees.{PhasedNetLaws}
use Rattle.law_phases.specs.Runs.{PhasedRun}
use Rattle.law_phases.specs.Routes.{Routed, IsSentTo, IsWanted, IsDelivered, IsInForce}
use Rattle.law_phases.specs.Sequence.{HappensBefore, AreGivenInOrder}
use Rattle.law_phases.specs.Looking.{IsQuietLink, HoldsRoots}
use Rattle.law_phases.specs.Economy.{CarriesNoMore, CarriesAsManyWhereDue}
pub use Rattle.law_phases.specs.Settled.{IsSettledOn}
use Rattle.law_phases.specs.Settled.{IsAllReceivedBy, IsDeliveredOnceBy}
use Rattle.law_phases.specs.Bounds.{KeepsBounds}
use Rattle.net_model.specs.Real.{real}
use Rattle.net_model.specs.Parts.{NetParts, EntryParts}
use Rattle.net_model.specs.Meaning.{journal_of}
use Rattle.net_model.specs.Nets.{phased_net, clients_in}
use Rattle.net_model.specs.Sound.{IsSound}
use Rattle.net_turns.specs.Network.{moment_by, IsLegal, IsDrainedBy, refused_by, received_by}
use Rattle.program_sequential.specs.declared.words.Schedule.{Schedule}
use Rattle.program_sequential.specs.declared.words.Shown.{Shown}
use Rattle.program_sequential.specs.Runs.{GoesBy}
use Rattle.program_sequential.specs.Printed.{trace_of}
use Rattle.program_sequential.specs.Promise.{ClientLists, id_of, times, AreOfNotices}

-- what a journal gives the clients
abbrev pub lists_by : NetParts → List EntryParts → ClientLists
lists_by net journal = record { refused = refused_by net journal; received = received_by net journal }

-- a legal run of a net whose laws hold, as one of the run laws
abbrev pub run_of : (net : NetParts) → PhasedNetLaws real (phased_net net) → (journal : List EntryParts) → IsLegal net journal → PhasedRun real
run_of net laws journal legal = record {
  net = phased_net net;
  laws = laws;
  journal = journal_of journal;
  end = (moment_by net journal).state;
  last = (moment_by net journal).phase;
  legal = legal;
}

-- a link carries a notice only where a client beyond it had a filter that matches, at the moment that the sender knew of by its last table update
abbrev pub CarriesWanted : PhasedRun real → Type 0
CarriesWanted run = (routed : Routed real run) (neighbour : ℕ) → IsSentTo real run routed neighbour → IsWanted real run routed neighbour

-- an entry delivers a publication to a client of its server exactly where a filter matches that was in the client's list when nothing was last pending
abbrev pub DeliversByInstalled : PhasedRun real → Type 0
DeliversByInstalled run = (routed : Routed real run) (client : ℕ) → Has client (run.net.clients routed.server)
    → IsDelivered real run routed client ↔ IsInForce real run routed client

-- a publication that is settled on its way to a client (`IsSettledOn`) was delivered to the client exactly once, whatever other changes still travelled
abbrev pub GivesSettledOnce : PhasedRun real → ClientLists → Type 0
GivesSettledOnce run lists = (publication : Publication real) (client : ℕ) → IsSettledOn real run publication client
    → times (id_of publication) (lists.received client) ≡ 1

-- and after any n entries, by which its messages on that way are received, it stood in the client's inbox exactly once
abbrev pub GivesSettledBy : PhasedRun real → Type 0
GivesSettledBy run = (publication : Publication real) (client : ℕ) (on_way : IsSettledOn real run publication client) (n : ℕ)
    → IsAllReceivedBy real run n publication client on_way → IsDeliveredOnceBy real run n publication client

-- COVERING: under subscription semantics, whenever all links are empty and nothing is pending, a server holds of a neighbour exactly the covering roots of the
-- union of the lists of the clients that live at the neighbour or beyond it
abbrev pub SendsRoots : PhasedRun real → Type 0
SendsRoots run = run.net.adverts ≡ false → (n server neighbour : ℕ) → IsQuietLink real run n server neighbour → HoldsRoots real run n server neighbour

-- CAUSAL ORDER: a publication stood in each inbox, after any n entries, before all that happened behind it
abbrev pub GivesCausally : PhasedRun real → Type 0
GivesCausally run = (one : Publication real) (between : List (Publication real)) (other : Publication real) → HappensBefore real run one between other
    → (n server client : ℕ) → AreGivenInOrder real run n server client one other

-- WHAT THE NETWORK IS PROMISED TO HAVE DONE: its journal is legal and drained and gives these lists and this trace; a link carries only what a filter held
-- beyond it, as last announced, matches; a settled publication was delivered exactly once; what an entry delivers goes by the filters in force; what servers
-- hold of each other at rest are the covering roots; and the entries are bounded by the commands and the servers, the stamps by the entries
pub record RunPromise (shown : Shown) (net : NetParts) (journal : List EntryParts) (lists : ClientLists) (trace : List ℕ) : Type 0 where
  pub laws : PhasedNetLaws real (phased_net net)
  pub legal : IsLegal net journal
  pub drained : IsDrainedBy net journal
  pub gives : lists ≡ lists_by net journal
  pub traced : trace ≡ trace_of shown.trace net journal
  pub carries_wanted : CarriesWanted (run_of net laws journal legal)
  pub settled_once : GivesSettledOnce (run_of net laws journal legal) lists
  pub settled_by : GivesSettledBy (run_of net laws journal legal)
  pub causal : GivesCausally (run_of net laws journal legal)
  pub never_more : CarriesNoMore real (run_of net laws journal legal) (clients_in net)
  pub as_many : CarriesAsManyWhereDue real (run_of net laws journal legal) (clients_in net)
  pub in_force : DeliversByInstalled (run_of net laws journal legal)
  pub sends_roots : SendsRoots (run_of net laws journal legal)
  pub bounded : KeepsBounds real (run_of net laws journal legal)

-- and by a schedule: its journal goes by it besides
pub record NetworkPromise (schedule : Schedule) (shown : Shown) (net : NetParts) (journal : List EntryParts) (lists : ClientLists) (trace : List ℕ)
    : Type 0 where
  pub goes_by : GoesBy schedule net journal
  pub run : RunPromise shown net journal lists trace

-- a journal is a whole run: legal, of a sound net that publishes notices, and all is drained at its end
pub record IsWholeRun (net : NetParts) (journal : List EntryParts) : Type 0 where
  pub sound : IsSound net
  pub notices : AreOfNotices net.clients
  pub legal : IsLegal net journal
  pub drained : IsDrainedBy net journal
