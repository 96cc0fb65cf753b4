-- What a network of a hierarchy is promised to have done, by its journal.
use Rattle.std.specs.Prelude.{◌≡◌, ◌≤◌, ◌↔◌, ℕ, length, List}
use Rattle.base.specs.Sets.{Has}
use Rattle.law_routing.specs.Server.{Publication}
use Rattle.net_model.specs.Real.{real}
use Rattle.law_hierarchy.specs.Masters.{top, master, IsLower, IsBelow, HierarchyLaws}
use Rattle.law_hierarchy.specs.HierarchyRun.{HierarchyRun, Routed, IsSentTo, IsWanted, IsDelivered, IsInForce, IsPublished, IsOwedTo, IsAllowedTo}
use Rattle.law_hierarchy.specs.HierarchyRun.{IsDeliveredOnce, IsInOrder, IsBounded, IsStable, inbox_of, states, times_put}
use Rattle.law_hierarchy.specs.HierarchyRun.{IsFloodOwedTo, IsByPhase, HappensBefore, AreGivenInOrder, IsSettledOn, IsAllReceivedBy, IsDeliveredOnceBy}
use Rattle.law_hierarchy.specs.Economy.{CarriesNoMore}
use Rattle.net_model.specs.Parts.{NetParts, EntryParts}
use Rattle.net_model.specs.Nets.{clients_in}
use Rattle.net_model.specs.Sound.{IsSound}
use Rattle.hierarchy_turns.specs.Network.{net_of, IsLegal, IsDrainedBy, run_of}

-- a server but the top
pub record HasMaster (run : HierarchyRun real) (server : ℕ) : Type 0 where
  pub among : Has server run.net.servers
  pub below_top : server ≡ top → ⊥

-- how often a publication was put on the link from a server to its master
abbrev pub times_up : HierarchyRun real → ℕ → Publication real → ℕ
times_up run server publication =
    times_put real run (length run.journal) server (master real run.net server) publication.publisher publication.ordinal

-- THE WAY UP: each accepted publication was put exactly once on the link to the master from each server that has its publisher's home at or below it
abbrev pub ClimbsOnce : HierarchyRun real → Type 0
ClimbsOnce run = (publication : Publication real) → IsPublished real run publication → (server : ℕ) → HasMaster run server
    → IsBelow real run.net (run.net.home publication.publisher) server → times_up run server publication ≡ 1

-- and on no other such link
abbrev pub ClimbsNowhereElse : HierarchyRun real → Type 0
ClimbsNowhereElse run = (publication : Publication real) → IsPublished real run publication → (server : ℕ) → HasMaster run server
    → (IsBelow real run.net (run.net.home publication.publisher) server → ⊥) → times_up run server publication ≡ 0

-- THE WAY DOWN: a link to a lower neighbour carries a notice only where a client there or below had a filter that matches, at the moment that the sender
-- knew of by its last table update
abbrev pub CarriesWantedDown : HierarchyRun real → Type 0
CarriesWantedDown run = (routed : Routed real run) (neighbour : ℕ) → IsLower real run.net routed.server neighbour
    → IsSentTo real run routed neighbour → IsWanted real run routed neighbour

-- an entry delivers a publication to a client of its server exactly where a filter matches that was in the client's list when nothing was last pending
abbrev pub DeliversByInstalled : HierarchyRun real → Type 0
DeliversByInstalled run = (routed : Routed real run) (client : ℕ) → Has client (run.net.clients routed.server)
    → IsDelivered real run routed client ↔ IsInForce real run routed client

-- each publication that is owed to a client was delivered to it exactly once, and nothing that is not allowed
abbrev pub DeliversOwedOnce : HierarchyRun real → Type 0
DeliversOwedOnce run = (publication : Publication real) (client : ℕ) → IsOwedTo real run publication client → IsDeliveredOnce real run publication client

abbrev pub DeliversAllowed : HierarchyRun real → Type 0
DeliversAllowed run = (publication : Publication real) (client : ℕ) → Has client (run.net.clients (run.net.home client))
    → Has publication (inbox_of real run client) → IsAllowedTo real run publication client

-- where all that is allowed to a client is owed to it, it has exactly what is allowed
abbrev pub DeliversStably : HierarchyRun real → Type 0
DeliversStably run = (client : ℕ) → IsStable real run client → (publication : Publication real)
    → Has publication (inbox_of real run client) ↔ IsAllowedTo real run publication client

-- and so is all that flooding owes, whatever is advertised
abbrev pub DeliversFloodOwedOnce : HierarchyRun real → Type 0
DeliversFloodOwedOnce run =
    (publication : Publication real) (client : ℕ) → IsFloodOwedTo real run publication client → IsDeliveredOnce real run publication client

-- BARRIER ORDER: in each client's inbox, after any n entries, the phases of the publications never fall
abbrev pub DeliversByPhase : HierarchyRun real → Type 0
DeliversByPhase run = (n server client : ℕ) → Has client (run.net.clients server) → IsByPhase real run n server client

-- CAUSAL ORDER: each inbox that has two publications of which one happened before the other, after any n entries, has them in this order
abbrev pub DeliversCausally : HierarchyRun real → Type 0
DeliversCausally run = (one : Publication real) (between : List (Publication real)) (other : Publication real) → HappensBefore real run one between other
    → (n server client : ℕ) → Has client (run.net.clients server)
    → Has one (((states real run n).state server).inbox client) → Has other (((states real run n).state server).inbox client)
    → AreGivenInOrder real run n server client one other

-- and after any n entries, by which its messages on its way are received, a publication that is settled on that way stood in the client's inbox once
abbrev pub DeliversSettledBy : HierarchyRun real → Type 0
DeliversSettledBy run = (publication : Publication real) (client : ℕ) (on_way : IsSettledOn real run publication client) (n : ℕ)
    → IsAllReceivedBy real run n publication client on_way → IsDeliveredOnceBy real run n publication client

-- no publication was put twice on a link, by any moment
abbrev pub CarriesOnce : HierarchyRun real → Type 0
CarriesOnce run = (n from to publisher ordinal : ℕ) → times_put real run n from to publisher ordinal ≤ 1

-- WHAT IS PROMISED of a legal, drained journal
pub record HierarchyPromise (net : NetParts) (journal : List EntryParts) : Type 0 where
  pub laws : HierarchyLaws real (net_of net)
  pub legal : IsLegal net journal
  pub drained : IsDrainedBy net journal
  pub climbs_once : ClimbsOnce (run_of net laws journal legal)
  pub climbs_nowhere_else : ClimbsNowhereElse (run_of net laws journal legal)
  pub carries_wanted_down : CarriesWantedDown (run_of net laws journal legal)
  pub in_force : DeliversByInstalled (run_of net laws journal legal)
  pub owed_once : DeliversOwedOnce (run_of net laws journal legal)
  pub flood_owed_once : DeliversFloodOwedOnce (run_of net laws journal legal)
  pub allowed : DeliversAllowed (run_of net laws journal legal)
  pub stable : DeliversStably (run_of net laws journal legal)
  pub in_order : (publisher : ℕ) → IsInOrder real (run_of net laws journal legal) publisher (length journal)
  pub by_phase : DeliversByPhase (run_of net laws journal legal)
  pub causal : DeliversCausally (run_of net laws journal legal)
  pub settled_by : DeliversSettledBy (run_of net laws journal legal)
  pub carries_once : CarriesOnce (run_of net laws journal legal)
  pub never_more : CarriesNoMore real (run_of net laws journal legal) (clients_in net)
  pub bounded : IsBounded real (run_of net laws journal legal)

-- a journal is a whole run of a hierarchy: legal, of a sound net, and all is drained at its end
pub record IsWholeRun (net : NetParts) (journal : List EntryParts) : Type 0 where
  pub sound : IsSound net
  pub legal : IsLegal net journal
  pub drained : IsDrainedBy net journal
