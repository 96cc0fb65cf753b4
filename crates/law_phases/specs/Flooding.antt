-- Plain flooding, as a machine: servers hold no filters and pass each accepted notice on over every other link of the tree of its phase, and at its home each
-- client's own list decides. It is what owed and allowed mean.
use Rattle.std.specs.Prelude.{◌≡◌, ℕ, suc, ◌==◌, Bool, true, false, cond, not, ◌&&◌, List, [], ◌∷◌, ◌++◌, length, take, slice_get, Option, Some, None}
use Rattle.base.specs.Sets.{Has}
use Rattle.law_machine.specs.Machine.{Machine, Input, Does, Receives, Outcome, Entry, at}
use Rattle.law_machine.specs.Network.{NetworkState}
use Rattle.law_machine.specs.Runs.{IsRun, IsQuiet}
use Rattle.law_machine.specs.Journals.{network_of, opening_cells}
use Rattle.law_machine.specs.History.{state_at}
use Rattle.law_routing.specs.Theory.{Theory}
use Rattle.law_routing.specs.Net.{Command, Subscribe, Unsubscribe, Advertise, Unadvertise, Publish, PhasedCommand}
use Rattle.law_routing.specs.Clients.{some_pass, ordinal, filters_after, adverts_after, accepts}
use Rattle.law_routing.specs.Server.{Publication, is_among}
use Rattle.law_routing.specs.Routing.{phase_of, not_below}
use Rattle.law_routing.specs.Owed.{IsMomentOfPhase}
use Rattle.law_routing.specs.AsOf.{times_delivered}
use Rattle.law_phases.specs.Trees.{PhasedNet, PhasedNetLaws, tree_at, net_at}
use Rattle.law_phases.specs.Owing.{IsPublishedIn}

-- what one server keeps: of each client, how many commands were executed, and its inbox
pub record FloodServer (theory : Theory) : Type 0 where
  pub done : ℕ → ℕ
  pub inbox : ℕ → List (Publication theory)

-- what goes over a link: a publication, with its phase
pub record FloodMessage (theory : Theory) : Type 0 where
  pub phase : ℕ
  pub publication : Publication theory

-- what an input comes to at a server: a publication is passed on, or there is none
pub data FloodWork (theory : Theory) : Type 0 where
  Floods : (from phase : ℕ) (publication : Publication theory) → FloodWork theory
  Rests : FloodWork theory

module _ (theory : Theory) (net : PhasedNet theory) where
  -- what a client's command comes to, after its first count commands: an accepted publish is passed on, from no neighbour
  abbrev pub flood_command : ℕ → ℕ → ℕ → ℕ → Command theory → FloodWork theory
  flood_command server client count phase (Subscribe f) = Rests
  flood_command server client count phase (Unsubscribe f) = Rests
  flood_command server client count phase (Advertise a) = Rests
  flood_command server client count phase (Unadvertise a) = Rests
  flood_command server client count phase (Publish n) =
      cond (accepts theory (net_at theory net phase) (adverts_after theory [] (take count (net.script client))) n)
      (Floods server phase (record { publisher = client; ordinal = ordinal theory (take (suc count) (net.script client)); notice = n }))
      Rests

  -- of a next command, where there is one
  abbrev pub flood_next : ℕ → ℕ → ℕ → Option (PhasedCommand theory) → Option (FloodWork theory)
  flood_next server client count None = None
  flood_next server client count (Some next) = Some (flood_command server client count next.phase next.command)

  -- what an input comes to, where it is possible: a command of a client that lives there and has one left, or a message from a neighbour
  -- on the tree of its phase
  abbrev pub flood_work : ℕ → FloodServer theory → Input ℕ (FloodMessage theory) → Option (FloodWork theory)
  flood_work server state (Does client) =
      cond (is_among server net.servers && is_among client (net.clients server))
      (flood_next server client (state.done client) (slice_get (net.script client) (state.done client)))
      None
  flood_work server state (Receives from message) =
      cond (is_among server net.servers && is_among from ((tree_at theory net message.phase).links server))
      (Some (Floods from message.phase message.publication))
      None

  -- a command counts
  abbrev pub flood_counted : FloodServer theory → Input ℕ (FloodMessage theory) → FloodServer theory
  flood_counted state (Does client) = record state { done = at state.done client (suc (state.done client)) }
  flood_counted state (Receives from message) = state

  -- whether a filter that matches is in a client's list, after so many of its commands
  abbrev pub is_wanted_by : Publication theory → ℕ → ℕ → Bool
  is_wanted_by publication client count = some_pass (theory.matches publication.notice) (filters_after theory [] (take count (net.script client)))

  -- what a work makes of a server's state, with its messages
  abbrev pub flood_effect : ℕ → FloodServer theory → FloodWork theory → Outcome (FloodServer theory) (FloodMessage theory)
  flood_effect server state (Floods from phase publication) = record {
    state = record state {
      inbox = λ c. cond (is_among c (net.clients server) && is_wanted_by publication c (state.done c)) (state.inbox c ++ publication ∷ []) (state.inbox c);
    };
    outs = λ l. cond (is_among l ((tree_at theory net phase).links server) && not (l == from)) (record { phase = phase; publication = publication } ∷ []) [];
  }
  flood_effect server state Rests = record { state = state; outs = λ l. [] }

  -- the outcome of a work, where there is one
  abbrev pub flood_outcome : ℕ → FloodServer theory → Option (FloodWork theory) → Option (Outcome (FloodServer theory) (FloodMessage theory))
  flood_outcome server state None = None
  flood_outcome server state (Some work) = Some (flood_effect server state work)

  -- THE STEP OF ONE SERVER that floods
  abbrev pub flood_step : ℕ → FloodServer theory → Input ℕ (FloodMessage theory) → Option (Outcome (FloodServer theory) (FloodMessage theory))
  flood_step server state input = flood_outcome server (flood_counted state input) (flood_work server state input)

  -- whether none of these clients has a command of a lower phase left
  abbrev pub flood_through : FloodServer theory → ℕ → List ℕ → Bool
  flood_through state phase [] = true
  flood_through state phase (client ∷ clients) =
      not_below theory (net_at theory net phase) phase (slice_get (net.script client) (state.done client)) && flood_through state phase clients

  -- the servers, as a machine: its tasks are clients, each of whose next command is to be executed
  abbrev pub flood_machine : Machine
  flood_machine = record {
    State = FloodServer theory;
    Task = ℕ;
    Message = FloodMessage theory;
    servers = net.servers;
    links = λ server. net.servers;
    step = flood_step;
    phase = λ server state client. phase_of theory (net_at theory net 0) (slice_get (net.script client) (state.done client));
    through = λ server state phase. flood_through state phase (net.clients server);
    pending = λ server state. false;
  }

  -- the opening: all is empty or 0
  abbrev pub flood_opening : NetworkState flood_machine
  flood_opening = network_of flood_machine (opening_cells flood_machine (λ server. record { done = λ c. 0; inbox = λ c. [] }))

  -- a publication that flooding owes to a client: accepted, and at every moment of its phase some filter of the client's list matches
  pub record IsFloodOwed (publication : Publication theory) (client : ℕ) : Type 0 where
    pub phase : ℕ
    pub published : IsPublishedIn theory net phase publication
    pub wanted : (count : ℕ) → IsMomentOfPhase theory (net_at theory net phase) phase client count → is_wanted_by publication client count ≡ true
    pub here : Has publication.publisher (net.clients (net.home publication.publisher))
    pub lives : Has client (net.clients (net.home client))

-- a legal run of it, under the rule of phases
pub record FloodRun (theory : Theory) : Type 0 where
  pub net : PhasedNet theory
  pub laws : PhasedNetLaws theory net
  pub journal : List (Entry (flood_machine theory net))
  pub end : NetworkState (flood_machine theory net)
  pub last : ℕ
  pub legal : IsRun (flood_machine theory net) (flood_opening theory net) 0 journal end last

module _ (theory : Theory) (run : FloodRun theory) where
  -- the state after n entries
  abbrev pub flood_states : ℕ → NetworkState (flood_machine theory run.net)
  flood_states = state_at (flood_machine theory run.net) (flood_opening theory run.net) 0 run.journal

  -- the inbox of a client of a server then
  abbrev pub flood_inbox : ℕ → ℕ → ℕ → List (Publication theory)
  flood_inbox n server client = ((flood_states n).state server).inbox client

  -- all is done at the end
  pub record EndsFlooded : Type 0 where
    pub quiet : IsQuiet (flood_machine theory run.net) run.end
    pub taken : (server client : ℕ) → Has client (run.net.clients server) → (run.end.state server).done client ≡ length (run.net.script client)

  -- at the end a client's inbox has it, once
  abbrev pub IsFloodedOnce : Publication theory → ℕ → Type 0
  IsFloodedOnce publication client =
      Has publication ((run.end.state (run.net.home client)).inbox client)
      × (times_delivered theory (net_at theory run.net 0) publication.publisher publication.ordinal ((run.end.state (run.net.home client)).inbox client) ≡ 1)
