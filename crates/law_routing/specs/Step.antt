-- Defines the step of one server: clients' commands, receptions and table updates.
use Rattle.std.specs.Prelude.{ℕ, suc, ◌+◌, ◌==◌, false, cond, not, ◌&&◌, ◌||◌, List, [], ◌∷◌, ◌++◌, take, slice_get, Option, Some, None}
use Rattle.law_machine.specs.Machine.{Input, Does, Receives, Outcome, at}
use Rattle.base.specs.Sets.{union, minus, same_list}
use Rattle.law_routing.specs.Theory.{Theory}
use Rattle.law_routing.specs.Net.{Command, Subscribe, Unsubscribe, Advertise, Unadvertise, Publish, PhasedCommand, Net}
use Rattle.law_routing.specs.Clients.{some_pass, filters_after, adverts_after, accepts, ordinal}
use Rattle.law_routing.specs.Server.{Message, Subs, Advs, Noticed, Publication, ServerState, is_among, messages_to, client_interface}

-- a task of a server: the next command of a client, or a table update
pub data Task : Type 0 where
  NextCommand : (client : ℕ) → Task
  TableUpdate : Task

-- what an input comes to at a server: a new set of an interface, a notice to be routed, a table update, or nothing
pub data Work (theory : Theory) : Type 0 where
  SetsFilters : (interface : ℕ) (filters : List theory.Filter) → Work theory
  SetsAdverts : (interface : ℕ) (adverts : List theory.Advert) → Work theory
  Routes : (interface publisher ordinal : ℕ) (notice : theory.Notice) → Work theory
  InstallsTable : Work theory
  Nothing : Work theory

module _ (theory : Theory) (net : Net theory) where
  -- a new set of filters is pending where it differs from the old
  abbrev pub with_filters : ServerState theory → ℕ → List theory.Filter → ServerState theory
  with_filters state interface filters = record state {
    subs = at state.subs interface filters;
    pending = state.pending || not (same_list theory.before (state.subs interface) filters);
  }

  -- advertisements leave nothing pending
  abbrev pub with_adverts : ServerState theory → ℕ → List theory.Advert → ServerState theory
  with_adverts state interface adverts = record state { advs = at state.advs interface adverts }

  -- each client of the server with an installed filter that matches has the publication delivered
  abbrev pub with_deliveries : ServerState theory → ℕ → Publication theory → ServerState theory
  with_deliveries state server publication = record state {
    inbox = λ c. cond (is_among c (net.clients server) && some_pass (theory.matches publication.notice) (state.installed (client_interface c)))
        (state.inbox c ++ publication ∷ [])
        (state.inbox c);
  }

  -- a table update installs the filters that are held
  abbrev pub with_update : ServerState theory → ServerState theory
  with_update state = record state { installed = state.subs; pending = false }

  -- one more command of a client is executed
  abbrev pub with_command_executed : ServerState theory → ℕ → ServerState theory
  with_command_executed state client = record state { done = at state.done client (suc (state.done client)) }

  -- what a work makes of a server's state, with its messages: a notice goes to each interface but the one it came by that has an installed filter that matches
  abbrev pub full_effect : ℕ → ServerState theory → Work theory → Outcome (ServerState theory) (Message theory)
  full_effect server state (SetsFilters interface filters) = record {
    state = with_filters state interface filters;
    outs = messages_to theory net state (with_filters state interface filters) server;
  }
  full_effect server state (SetsAdverts interface adverts) = record {
    state = with_adverts state interface adverts;
    outs = messages_to theory net state (with_adverts state interface adverts) server;
  }
  full_effect server state (Routes interface publisher ordinal notice) = record {
    state = with_deliveries state server (record { publisher = publisher; ordinal = ordinal; notice = notice });
    outs = λ l. cond (not (l == interface) && some_pass (theory.matches notice) (state.installed l)) (Noticed publisher ordinal notice ∷ []) [];
  }
  full_effect server state InstallsTable = record { state = with_update state; outs = λ l. [] }
  full_effect server state Nothing = record { state = state; outs = λ l. [] }

  -- the same; messages are put on links alone
  abbrev pub effect : ℕ → ServerState theory → Work theory → Outcome (ServerState theory) (Message theory)
  effect server state work = record {
    state = (full_effect server state work).state;
    outs = λ l. cond (is_among l (net.links server)) ((full_effect server state work).outs l) [];
  }

  -- what a client's next command comes to, after its first count commands
  abbrev pub command_work : ℕ → ℕ → Command theory → Work theory
  command_work client count (Subscribe f) = SetsFilters (client_interface client) (filters_after theory [] (take (suc count) (net.script client)))
  command_work client count (Unsubscribe f) = SetsFilters (client_interface client) (filters_after theory [] (take (suc count) (net.script client)))
  command_work client count (Advertise a) =
      cond net.adverts (SetsAdverts (client_interface client) (adverts_after theory [] (take (suc count) (net.script client)))) Nothing
  command_work client count (Unadvertise a) =
      cond net.adverts (SetsAdverts (client_interface client) (adverts_after theory [] (take (suc count) (net.script client)))) Nothing
  -- an accepted publish is routed, a refused one does nothing
  command_work client count (Publish n) =
      cond (accepts theory net (adverts_after theory [] (take count (net.script client))) n)
      (Routes (client_interface client) client (ordinal theory (take (suc count) (net.script client))) n)
      Nothing

  -- what a message comes to: out are removed from what is held, and add added; a notice is routed
  abbrev pub message_work : ServerState theory → ℕ → Message theory → Work theory
  message_work state from (Subs out add) = SetsFilters from (union theory.before (minus theory.before (state.subs from) out) add)
  message_work state from (Advs out add) = SetsAdverts from (union theory.before_advert (minus theory.before_advert (state.advs from) out) add)
  message_work state from (Noticed publisher ordinal notice) = Routes from publisher ordinal notice

  -- of a next command, where there is one
  abbrev pub next_work : ℕ → ℕ → Option (PhasedCommand theory) → Option (Work theory)
  next_work client count None = None
  next_work client count (Some next) = Some (command_work client count next.command)

  -- what an input comes to at a server, where it is possible
  abbrev pub work_of : ℕ → ServerState theory → Input Task (Message theory) → Option (Work theory)
  work_of server state (Does (NextCommand client)) =
      cond (is_among server net.servers && is_among client (net.clients server))
      (next_work client (state.done client) (slice_get (net.script client) (state.done client)))
      None
  work_of server state (Does TableUpdate) = cond (is_among server net.servers && state.pending) (Some InstallsTable) None
  work_of server state (Receives from message) =
      cond (is_among server net.servers && is_among from (net.links server)) (Some (message_work state from message)) None

  -- the outcome of a next command, where there is one: the count rises and its work is done
  abbrev pub command_outcome : ℕ → ServerState theory → ℕ → Option (PhasedCommand theory) → Option (Outcome (ServerState theory) (Message theory))
  command_outcome server state client None = None
  command_outcome server state client (Some next) =
      Some (effect server (with_command_executed state client) (command_work client (state.done client) next.command))

  -- THE STEP OF ONE SERVER: a command of a client that lives there and has one left, a table update where something is pending, or a message from a neighbour
  abbrev pub local_step : ℕ → ServerState theory → Input Task (Message theory) → Option (Outcome (ServerState theory) (Message theory))
  local_step server state (Does (NextCommand client)) =
      cond (is_among server net.servers && is_among client (net.clients server))
      (command_outcome server state client (slice_get (net.script client) (state.done client)))
      None
  local_step server state (Does TableUpdate) = cond (is_among server net.servers && state.pending) (Some (effect server state InstallsTable)) None
  local_step server state (Receives from message) =
      cond (is_among server net.servers && is_among from (net.links server)) (Some (effect server state (message_work state from message))) None
