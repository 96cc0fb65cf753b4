-- Defines the step of one server of a hierarchy: filters go up to the master alone; notices always go up, and go down by filters.
use Rattle.std.specs.Prelude.{ℕ, ◌==◌, cond, not, ◌&&◌, ◌||◌, [], ◌∷◌, slice_get, Option, Some, None}
use Rattle.law_machine.specs.Machine.{Machine, Input, Does, Receives, Outcome, Entry}
use Rattle.law_machine.specs.Network.{NetworkState}
use Rattle.law_machine.specs.Journals.{network_of, opening_cells}
use Rattle.law_machine.specs.Load.{Measure}
use Rattle.law_routing.specs.Theory.{Theory}
use Rattle.law_routing.specs.Net.{PhasedCommand, Net}
use Rattle.law_routing.specs.Clients.{some_pass}
use Rattle.law_routing.specs.Server.{Message, Noticed, ServerState, is_among, filter_change}
use Rattle.law_routing.specs.Step.{Task, NextCommand, TableUpdate, Work, SetsFilters, SetsAdverts, Routes, InstallsTable, Nothing}
use Rattle.law_routing.specs.Step.{with_filters, with_deliveries, with_update, with_command_executed, command_work, message_work}
use Rattle.law_routing.specs.Routing.{Network, NetEntry, task_phase, all_through, empty_server, is_update, is_advert_message, commands_left}
use Rattle.law_hierarchy.specs.Masters.{is_master, up}

module _ (theory : Theory) (net : Net theory) where
  -- what a work makes of a server's state, with its messages. What an input comes to as a work is the same as in a network of peers
  abbrev pub full_effect : ℕ → ServerState theory → Work theory → Outcome (ServerState theory) (Message theory)
  -- a changed set of filters goes to the master, where it changes what goes up
  full_effect server state (SetsFilters interface filters) = record {
    state = with_filters theory net state interface filters;
    outs = λ l. cond (is_master theory net server l)
        (filter_change theory net (up theory net state server) (up theory net (with_filters theory net state interface filters) server))
        [];
  }
  -- no advertisement is held
  full_effect server state (SetsAdverts interface adverts) = record { state = state; outs = λ l. [] }
  -- a notice goes to the master, and to each lower neighbour with an installed filter that matches, but never back
  full_effect server state (Routes interface publisher ordinal notice) = record {
    state = with_deliveries theory net state server (record { publisher = publisher; ordinal = ordinal; notice = notice });
    outs = λ l. cond (not (l == interface) && (is_master theory net server l || some_pass (theory.matches notice) (state.installed l)))
        (Noticed publisher ordinal notice ∷ [])
        [];
  }
  full_effect server state InstallsTable = record { state = with_update theory net state; outs = λ l. [] }
  full_effect server state Nothing = record { state = state; outs = λ l. [] }

  -- the same; messages are put on links alone
  abbrev pub effect : ℕ → ServerState theory → Work theory → Outcome (ServerState theory) (Message theory)
  effect server state work = record {
    state = (full_effect server state work).state;
    outs = λ l. cond (is_among l (net.links server)) ((full_effect server state work).outs l) [];
  }

  -- the outcome of a next command, where there is one: the count rises and its work is done
  abbrev pub command_outcome : ℕ → ServerState theory → ℕ → Option (PhasedCommand theory) → Option (Outcome (ServerState theory) (Message theory))
  command_outcome server state client None = None
  command_outcome server state client (Some next) =
      Some (effect server (with_command_executed theory net state client) (command_work theory net client (state.done client) next.command))

  -- THE STEP OF ONE SERVER: a command of a client that lives there and has one left, a table update where something is pending, or a message from a neighbour
  abbrev pub local_step : ℕ → ServerState theory → Input Task (Message theory) → Option (Outcome (ServerState theory) (Message theory))
  local_step server state (Does (NextCommand client)) =
      cond (is_among server net.servers && is_among client (net.clients server))
      (command_outcome server state client (slice_get (net.script client) (state.done client)))
      None
  local_step server state (Does TableUpdate) = cond (is_among server net.servers && state.pending) (Some (effect server state InstallsTable)) None
  local_step server state (Receives from message) =
      cond (is_among server net.servers && is_among from (net.links server))
      (Some (effect server state (message_work theory net state from message)))
      None

  -- the servers of the hierarchy
  abbrev pub hierarchy_machine : Machine
  hierarchy_machine = record {
    State = ServerState theory;
    Task = Task;
    Message = Message theory;
    servers = net.servers;
    links = net.links;
    step = local_step;
    phase = task_phase theory net;
    through = λ server state phase. all_through theory net state phase (net.clients server);
    pending = λ server state. state.pending;
  }

  -- the state of its network
  abbrev pub Hierarchy : Type 0
  Hierarchy = NetworkState hierarchy_machine

  -- an entry of its journals
  abbrev pub HierarchyEntry : Type 0
  HierarchyEntry = Entry hierarchy_machine

  -- the opening: all is empty, 0 or false
  abbrev pub opening : Hierarchy
  opening = network_of hierarchy_machine (opening_cells hierarchy_machine (λ server. empty_server theory net))

  -- what the load is measured by, with the sizes of the sides
  abbrev pub measure : (ℕ → ℕ → ℕ) → Measure hierarchy_machine
  measure size = record { size = size; wide = is_advert_message theory net; table_update = is_update theory net; left = commands_left theory net }

  -- the state as that of a network of peers: it has the same parts, so what is defined there is said of it
  abbrev pub as_peers : Hierarchy → Network theory net
  as_peers network = record { state = network.state; clock = network.clock; put = network.put; taken = network.taken }

  -- the same of an entry
  abbrev pub entry_as_peers : HierarchyEntry → NetEntry theory net
  entry_as_peers entry = record { stamp = entry.stamp; server = entry.server; act = entry.act; outs = entry.outs }
