-- A legal run of a hierarchy from its opening, and what may be said of it.
use Rattle.std.specs.Prelude.{◌≡◌, ℕ, suc, ◌+◌, ◌*◌, ◌≤◌, ◌<◌, ◌==◌, ◌⊎◌, true, cond, List, [], ◌∷◌, length, map, take, slice_get, Some}
use Rattle.base.specs.Sets.{Has}
use Rattle.base_tree.specs.Hops.{side_size}
use Rattle.law_machine.specs.Machine.{Stamped}
use Rattle.law_machine.specs.Runs.{IsRun, IsQuiet, IsThrough}
use Rattle.law_machine.specs.Load.{Measure, receptions as receptions_in, updates as updates_in, commands as commands_in}
use Rattle.law_machine.specs.History.{state_at, phase_at}
use Rattle.law_routing.specs.Theory.{Theory}
use Rattle.law_routing.specs.Net.{Net, PhasedCommand}
use Rattle.law_routing.specs.Clients.{some_pass, filters_after}
use Rattle.law_routing.specs.Server.{Message, Publication, client_interface}
use Rattle.law_routing.specs.Routing.{Network, NetEntry, all_commands}
use Rattle.law_routing.specs.Rest.{filters_of, IsDrained, IsOnwardWay, end_of}
use Rattle.law_routing.specs.AsOf.{calm, back, as_of, IsRoutedAt, IsReceivedAlong, IsDeliveredAt, IsWantedBeyond, times_delivered}
use Rattle.law_routing.specs.Order.{IsStrictlyRising, ordinals_put, ordinals_delivered, ordinals_routed}
use Rattle.law_routing.specs.Owed.{IsMomentOfPhase, IsPublication, IsOwed, IsAllowed}
use Rattle.law_hierarchy.specs.Masters.{up, is_master, HierarchyLaws}
use Rattle.law_hierarchy.specs.Step.{hierarchy_machine, Hierarchy, HierarchyEntry, opening, measure, as_peers, entry_as_peers}
use Rattle.law_hierarchy.specs.Walk.{walk_of}

-- how often a number stands in a list
abbrev pub times : ℕ → List ℕ → ℕ
times number [] = 0
times number (x ∷ xs) = cond (number == x) (suc (times number xs)) (times number xs)

-- a net with its laws and a top, and a legal run of it from the opening
pub record HierarchyRun (theory : Theory) : Type 0 where
  pub net : Net theory
  pub laws : HierarchyLaws theory net
  pub journal : List (HierarchyEntry theory net)
  -- the state at the end, and the phase of the last command
  pub end : Hierarchy theory net
  pub last : ℕ
  pub legal : IsRun (hierarchy_machine theory net) (opening theory net) 0 journal end last

module _ (theory : Theory) (run : HierarchyRun theory) where
  -- the state after n entries, as one of peers
  abbrev pub states : ℕ → Network theory run.net
  states n = as_peers theory run.net (state_at (hierarchy_machine theory run.net) (opening theory run.net) 0 run.journal n)

  -- the phase of the last command after n entries
  abbrev pub phases : ℕ → ℕ
  phases = phase_at (hierarchy_machine theory run.net) (opening theory run.net) 0 run.journal

  -- the journal, as one of peers
  abbrev pub entries : List (NetEntry theory run.net)
  entries = map (entry_as_peers theory run.net) run.journal

  -- the state at the end, as one of peers
  abbrev pub last_state : Network theory run.net
  last_state = as_peers theory run.net run.end

  -- at the end all commands are executed, all links are empty and nothing is pending
  abbrev pub IsDrainedRun : Type 0
  IsDrainedRun = IsDrained theory run.net last_state

  -- an entry of the run that routes a publication: after so many entries, at this server, where it came in by this interface
  pub record Routed : Type 0 where
    pub moment : ℕ
    pub server : ℕ
    pub interface : ℕ
    pub publication : Publication theory
    pub at : IsRoutedAt theory run.net states entries moment server interface publication.publisher publication.ordinal publication.notice

  -- the entry sends it to a neighbour
  abbrev pub IsSentTo : Routed → ℕ → Type 0
  IsSentTo routed neighbour = Has neighbour routed.at.entry.outs

  -- a client at a neighbour or beyond had a filter that matches, at the moment that the server knows of by its last table update
  abbrev pub IsWanted : Routed → ℕ → Type 0
  IsWanted routed neighbour = IsWantedBeyond theory run.net states routed.publication.notice routed.server neighbour routed.moment

  -- the entry delivers it to a client of its server
  abbrev pub IsDelivered : Routed → ℕ → Type 0
  IsDelivered routed client = IsDeliveredAt theory run.net states routed.moment routed.server client routed.publication

  -- a filter that matches was in the client's list at the server's last calm moment
  abbrev pub IsInForce : Routed → ℕ → Type 0
  IsInForce routed client = (f : theory.Filter)
      × Has f (filters_of theory run.net (states (calm theory run.net states routed.server routed.moment)) client)
      × (theory.matches routed.publication.notice f ≡ true)

  -- the inbox of a client at the end
  abbrev pub inbox_of : ℕ → List (Publication theory)
  inbox_of client = (run.end.state (run.net.home client)).inbox client

  -- at the end a client's inbox has the publication, once
  abbrev pub IsDeliveredOnce : Publication theory → ℕ → Type 0
  IsDeliveredOnce publication client = Has publication (inbox_of client)
      × (times_delivered theory run.net publication.publisher publication.ordinal (inbox_of client) ≡ 1)

  -- an accepted publication of a publisher that lives in the net
  pub record IsPublished (publication : Publication theory) : Type 0 where
    pub phase : ℕ
    pub published : IsPublication theory run.net publication.publisher publication.ordinal phase publication.notice
    pub here : Has publication.publisher (run.net.clients (run.net.home publication.publisher))

  -- it is owed to a client
  pub record IsOwedTo (publication : Publication theory) (client : ℕ) : Type 0 where
    pub accepted : IsPublished publication
    pub owed : IsOwed theory run.net publication.publisher accepted.phase publication.notice client
    pub lives : Has client (run.net.clients (run.net.home client))

  -- flooding owes it to a client: at every moment of its phase some filter of the client's list matches, whatever is advertised
  pub record IsFloodOwedTo (publication : Publication theory) (client : ℕ) : Type 0 where
    pub accepted : IsPublished publication
    pub wanted : (count : ℕ) → IsMomentOfPhase theory run.net accepted.phase client count
        → some_pass (theory.matches publication.notice) (filters_after theory [] (take count (run.net.script client))) ≡ true
    pub lives : Has client (run.net.clients (run.net.home client))

  -- a publication that is allowed to a client
  abbrev pub IsAllowedTo : Publication theory → ℕ → Type 0
  IsAllowedTo publication client = (phase : ℕ)
      × IsPublication theory run.net publication.publisher publication.ordinal phase publication.notice
      × IsAllowed theory run.net phase publication.notice client

  -- how often a publication was put by one server for another, after n entries
  abbrev pub times_put : ℕ → ℕ → ℕ → ℕ → ℕ → ℕ
  times_put n from to publisher number = times number (ordinals_put theory run.net publisher ((states n).put from to))

  -- how often a server routed it in the first n entries
  abbrev pub times_routed : ℕ → ℕ → ℕ → ℕ → ℕ
  times_routed n server publisher number = times number (ordinals_routed theory run.net states entries publisher n server)

  -- after n entries the ordinals of a publisher's notices rise at each server, on each link and in each inbox
  pub record IsInOrder (publisher n : ℕ) : Type 0 where
    pub routed : (server : ℕ) → IsStrictlyRising (ordinals_routed theory run.net states entries publisher n server)
    pub put : (from to : ℕ) → IsStrictlyRising (ordinals_put theory run.net publisher ((states n).put from to))
    pub delivered : (server client : ℕ) → IsStrictlyRising (ordinals_delivered theory run.net publisher (((states n).state server).inbox client))

  -- BARRIER ORDER: the phases of a client's deliveries never fall, after n entries
  abbrev pub IsByPhase : ℕ → ℕ → ℕ → Type 0
  IsByPhase n server client = (one other : Publication theory) (place later phase next : ℕ) → place < later
      → slice_get (((states n).state server).inbox client) place ≡ Some one → slice_get (((states n).state server).inbox client) later ≡ Some other
      → IsPublication theory run.net one.publisher one.ordinal phase one.notice → IsPublication theory run.net other.publisher other.ordinal next other.notice
      → phase ≤ next

  -- the entry after n others publishes it, at the home of its publisher
  abbrev pub IsMadeAt : ℕ → Publication theory → Type 0
  IsMadeAt n publication = IsRoutedAt theory run.net states entries n (run.net.home publication.publisher) (client_interface publication.publisher)
      publication.publisher publication.ordinal publication.notice

  -- one publication passed the home of another's publisher before that was published there
  pub record IsMadeBehind (one other : Publication theory) : Type 0 where
    pub moment : ℕ
    pub interface : ℕ
    pub routed : IsRoutedAt theory run.net states entries moment (run.net.home other.publisher) interface one.publisher one.ordinal one.notice
    pub made : ℕ
    pub makes : IsMadeAt made other
    pub follows : moment < made

  -- the publisher of another had been given it when it published
  pub record IsMadeKnowing (one other : Publication theory) : Type 0 where
    pub made : ℕ
    pub makes : IsMadeAt made other
    pub here : Has other.publisher (run.net.clients (run.net.home other.publisher))
    pub known : Has one (((states made).state (run.net.home other.publisher)).inbox other.publisher)

  -- HAPPENED BEFORE: a chain of publications, each of which was published where the one before it had passed, or by a client that had been given it
  abbrev pub HappensBefore : Publication theory → List (Publication theory) → Publication theory → Type 0
  HappensBefore one [] other = IsMadeBehind one other ⊎ IsMadeKnowing one other
  HappensBefore one (next ∷ between) other = (IsMadeBehind one next ⊎ IsMadeKnowing one next) × HappensBefore next between other

  -- CAUSAL ORDER: an inbox that has both, after n entries, has them in this order
  pub record AreGivenInOrder (n server client : ℕ) (one other : Publication theory) : Type 0 where
    pub place : ℕ
    pub later : ℕ
    pub before : place < later
    pub first : slice_get (((states n).state server).inbox client) place ≡ Some one
    pub second : slice_get (((states n).state server).inbox client) later ≡ Some other

  -- a server knows at m, by its last table update, of a filter of the client that matches; the way to the client goes on by this path
  pub record IsKnownAt (notice : theory.Notice) (client server : ℕ) (path : List ℕ) (m : ℕ) : Type 0 where
    pub filter : theory.Filter
    pub wanted : Has filter (filters_of theory run.net (states (as_of theory run.net states server path (calm theory run.net states server m))) client)
    pub matches : theory.matches notice filter ≡ true

  -- and so whenever an entry routes the publication there
  abbrev pub IsKnownHere : Publication theory → ℕ → ℕ → List ℕ → Type 0
  IsKnownHere publication client server path = (m interface : ℕ)
      → IsRoutedAt theory run.net states entries m server interface publication.publisher publication.ordinal publication.notice
      → IsKnownAt publication.notice client server path m

  -- SETTLED: each server of the way sends it up, whatever is held there, or knows of a filter of the client that matches; the last one knows of it
  abbrev pub IsSettledAlong : Publication theory → ℕ → ℕ → List ℕ → Type 0
  IsSettledAlong publication client server [] = IsKnownHere publication client server []
  IsSettledAlong publication client server (next ∷ path) =
      ((is_master theory run.net server next ≡ true) ⊎ IsKnownHere publication client server (next ∷ path))
      × IsSettledAlong publication client next path

  -- an entry publishes it, and it is settled all along the way from its publisher's home to the client
  pub record IsSettledOn (publication : Publication theory) (client : ℕ) : Type 0 where
    pub here : Has publication.publisher (run.net.clients (run.net.home publication.publisher))
    pub moment : ℕ
    pub published : IsMadeAt moment publication
    pub path : List ℕ
    pub way : IsOnwardWay theory run.net (run.net.home publication.publisher) (run.net.home publication.publisher) path
    pub lives : Has client (run.net.clients (end_of theory run.net (run.net.home publication.publisher) path))
    pub settled : IsSettledAlong publication client (run.net.home publication.publisher) path

  -- after n entries it is published, and each message of it on that way is received
  pub record IsAllReceivedBy (n : ℕ) (publication : Publication theory) (client : ℕ) (on_way : IsSettledOn publication client) : Type 0 where
    pub within : n ≤ length run.journal
    pub published : on_way.moment < n
    pub received : IsReceivedAlong theory run.net states n publication.publisher publication.ordinal publication.notice
        (run.net.home publication.publisher) on_way.path

  -- after n entries the client's inbox has it, once
  abbrev pub IsDeliveredOnceBy : ℕ → Publication theory → ℕ → Type 0
  IsDeliveredOnceBy n publication client = Has publication (((states n).state (run.net.home client)).inbox client)
      × (times_delivered theory run.net publication.publisher publication.ordinal (((states n).state (run.net.home client)).inbox client) ≡ 1)

  -- what the load of the run is measured by
  abbrev pub run_measure : Measure (hierarchy_machine theory run.net)
  run_measure = measure theory run.net (side_size run.net.hop run.net.servers)

  -- how many entries of the run are receptions
  abbrev pub receptions_made : ℕ
  receptions_made = receptions_in (hierarchy_machine theory run.net) run_measure run.journal

  -- how many are table updates
  abbrev pub updates_made : ℕ
  updates_made = updates_in (hierarchy_machine theory run.net) run_measure run.journal

  -- how many are commands
  abbrev pub commands_made : ℕ
  commands_made = commands_in (hierarchy_machine theory run.net) run_measure run.journal

  -- how many servers there are
  abbrev pub server_count : ℕ
  server_count = length run.net.servers

  -- receptions, table updates and entries are bounded by the commands executed and the number of servers, the commands executed by those of the scripts,
  -- and the stamps by the entries
  pub record IsBounded : Type 0 where
    pub receptions : receptions_made ≤ commands_made * (server_count * server_count)
    pub updates : updates_made ≤ receptions_made + commands_made
    pub entries : length run.journal ≤ 2 * (commands_made * (server_count * server_count + 1))
    pub commands : commands_made ≤ all_commands theory run.net
    pub within : length run.journal ≤ 2 * (all_commands theory run.net * (server_count * server_count + 1))
    pub stamps : (entry : HierarchyEntry theory run.net) → Has entry run.journal → entry.stamp ≤ length run.journal
    -- no clock at the end and no message on a link has a higher stamp
    pub clocks : (server : ℕ) → run.end.clock server ≤ length run.journal
    pub puts : (from to : ℕ) (message : Stamped (Message theory)) → Has message (run.end.put from to) → message.stamp ≤ length run.journal

  -- the run ends with all links empty and nothing pending
  abbrev pub EndsQuiet : Type 0
  EndsQuiet = IsQuiet (hierarchy_machine theory run.net) run.end

  -- it ends with all commands of the phases below this one executed
  abbrev pub EndsThrough : ℕ → Type 0
  EndsThrough phase = IsThrough (hierarchy_machine theory run.net) run.end phase

  -- the moment that a server looks back to on a link from a neighbour
  abbrev pub back_at : ℕ → ℕ → ℕ → ℕ
  back_at server neighbour m = back theory run.net states server neighbour m

  -- the last moment up to m at which nothing was pending at a server
  abbrev pub calm_at : ℕ → ℕ → ℕ
  calm_at server m = calm theory run.net states server m

  -- the filters that go up from a server after n entries
  abbrev pub up_at : ℕ → ℕ → List theory.Filter
  up_at n server = up theory run.net ((states n).state server) server

  -- all that is allowed to a client is owed to it, and it has a home
  pub record IsStable (client : ℕ) : Type 0 where
    pub lives : Has client (run.net.clients (run.net.home client))
    pub owed : (publication : Publication theory) → IsAllowedTo publication client → IsOwedTo publication client

module _ (theory : Theory) (net : Net theory) where
  -- all commands of the scripts are of phases below this one
  abbrev pub AllBelow : ℕ → Type 0
  AllBelow phase = (client : ℕ) (command : PhasedCommand theory) → Has command (net.script client) → command.phase < phase

  -- the walk of so many phases goes on from a state, after the phase of its last command, as a legal run, and ends drained
  abbrev pub WalkDrains : ℕ → Hierarchy theory net → ℕ → Type 0
  WalkDrains phases start first = (end : Hierarchy theory net) × (last : ℕ)
      × IsRun (hierarchy_machine theory net) start first (walk_of theory net phases (record { network = start; phase = first })) end last
      × IsDrained theory net (as_peers theory net end)
