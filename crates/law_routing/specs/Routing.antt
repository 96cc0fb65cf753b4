-- Defines the servers of a net as a machine, and its opening.
use Rattle.std.specs.Prelude.{ℕ, ◌-◌, nat_le, Bool, true, false, ◌&&◌, List, [], ◌∷◌, length, slice_get, Option, Some, None}
use Rattle.base.specs.Numbers.{sum_over}
use Rattle.law_machine.specs.Machine.{Machine, Entry}
use Rattle.law_machine.specs.Network.{NetworkState}
use Rattle.law_machine.specs.Runs.{Run}
use Rattle.law_machine.specs.Journals.{network_of, opening_cells}
use Rattle.law_machine.specs.Load.{Measure}
use Rattle.law_routing.specs.Theory.{Theory}
use Rattle.law_routing.specs.Net.{PhasedCommand, Net}
use Rattle.law_routing.specs.Server.{Message, Subs, Advs, Noticed, ServerState}
use Rattle.law_routing.specs.Step.{Task, NextCommand, TableUpdate, local_step}

module _ (theory : Theory) (net : Net theory) where
  -- the phase of a next command; without one it does not matter, since the step is not possible
  abbrev pub phase_of : Option (PhasedCommand theory) → Option ℕ
  phase_of None = Some 0
  phase_of (Some next) = Some next.phase

  -- the phase of a client's next command; a table update has none
  abbrev pub task_phase : ℕ → ServerState theory → Task → Option ℕ
  task_phase server state (NextCommand client) = phase_of (slice_get (net.script client) (state.done client))
  task_phase server state TableUpdate = None

  -- whether the next command, if there is one, is of this phase or later
  abbrev pub not_below : ℕ → Option (PhasedCommand theory) → Bool
  not_below phase None = true
  not_below phase (Some next) = nat_le phase next.phase

  -- whether none of these clients has a command of a lower phase left
  abbrev pub all_through : ServerState theory → ℕ → List ℕ → Bool
  all_through state phase [] = true
  all_through state phase (client ∷ clients) = not_below phase (slice_get (net.script client) (state.done client)) && all_through state phase clients

  -- the servers of the net
  abbrev pub routing_machine : Machine
  routing_machine = record {
    State = ServerState theory;
    Task = Task;
    Message = Message theory;
    servers = net.servers;
    links = net.links;
    step = local_step theory net;
    phase = task_phase;
    through = λ server state phase. all_through state phase (net.clients server);
    pending = λ server state. state.pending;
  }

  -- the state of the network of the net
  abbrev pub Network : Type 0
  Network = NetworkState routing_machine

  -- an entry of its journals
  abbrev pub NetEntry : Type 0
  NetEntry = Entry routing_machine

  -- a legal run of the net, from any state
  abbrev pub NetRun : Type 0
  NetRun = Run routing_machine

  -- a server at the opening
  abbrev pub empty_server : ServerState theory
  empty_server = record { subs = λ i. []; advs = λ i. []; installed = λ i. []; pending = false; done = λ c. 0; inbox = λ c. [] }

  -- the opening: all is empty, 0 or false
  abbrev pub opening : Network
  opening = network_of routing_machine (opening_cells routing_machine (λ server. empty_server))

  -- whether a message is a change of advertisements
  abbrev pub is_advert_message : Message theory → Bool
  is_advert_message (Subs out add) = false
  is_advert_message (Advs out add) = true
  is_advert_message (Noticed publisher ordinal notice) = false

  -- whether a task is a table update
  abbrev pub is_update : Task → Bool
  is_update (NextCommand client) = false
  is_update TableUpdate = true

  -- how many commands of a server's clients are left
  abbrev pub commands_left : ℕ → ServerState theory → ℕ
  commands_left server state = sum_over (λ client. length (net.script client) - state.done client) (net.clients server)

  -- all commands of the scripts
  abbrev pub all_commands : ℕ
  all_commands = sum_over (λ server. commands_left server empty_server) net.servers

  -- what the load of a net is measured by, with the sizes of its sides
  abbrev pub measure : (ℕ → ℕ → ℕ) → Measure routing_machine
  measure size = record { size = size; wide = is_advert_message; table_update = is_update; left = commands_left }

  -- the same under subscription semantics, where no message makes one back
  abbrev pub narrow_measure : (ℕ → ℕ → ℕ) → Measure routing_machine
  narrow_measure size = record { size = size; wide = λ message. false; table_update = is_update; left = commands_left }
