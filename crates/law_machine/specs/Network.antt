-- Defines the state of a network, and the step of one of its servers as a step of the network.
use Rattle.std.specs.Prelude.{◌≡◌, ℕ, suc, ◌==◌, cond, ◌&&◌, List, [], ◌++◌, slice_get, Option, Some, None}
use Rattle.law_machine.specs.Machine.{at, Act, Did, Received, Machine, Input, Does, Receives, Outcome, Made, Stamped, Entry, unstamped, next_stamp, stamped, entry_of}

module _ (machine : Machine) where
  -- of each server its state and clock; of each directed link the messages put, and how many of them were received
  pub record NetworkState : Type 0 where
    pub state : ℕ → machine.State
    pub clock : ℕ → ℕ
    -- put a b: by a for b
    pub put : ℕ → ℕ → List (Stamped machine.Message)
    -- taken a b: by b from a
    pub taken : ℕ → ℕ → ℕ

  -- a message can be received where it is the next of its link
  abbrev pub IsAvailable : NetworkState → ℕ → Input machine.Task (Stamped machine.Message) → Type 0
  IsAvailable network server (Does task) = Unit {0}
  IsAvailable network server (Receives from message) = slice_get (network.put from server) (network.taken from server) ≡ Some message

  -- how many are received of each link, after an input of a server
  abbrev pub taken_after : (ℕ → ℕ → ℕ) → ℕ → Input machine.Task (Stamped machine.Message) → ℕ → ℕ → ℕ
  taken_after taken server (Does task) a b = taken a b
  taken_after taken server (Receives from message) a b = cond ((a == from) && (b == server)) (suc (taken a b)) (taken a b)

  -- the network after an input of a server with this outcome
  abbrev pub network_after : NetworkState → ℕ → Input machine.Task (Stamped machine.Message) → Outcome machine.State machine.Message → NetworkState
  network_after network server input outcome = record {
    state = at network.state server outcome.state;
    clock = at network.clock server (next_stamp machine (network.clock server) input);
    put = λ a b. cond (a == server)
        (network.put a b ++ stamped machine (next_stamp machine (network.clock server) input) (outcome.outs b))
        (network.put a b);
    taken = taken_after network.taken server input;
  }

  -- an entry leads from one state of the network to the next: its server makes the step that it records
  abbrev pub IsStep : NetworkState → Entry machine → NetworkState → Type 0
  IsStep network entry next =
      (input : Input machine.Task (Stamped machine.Message)) × (outcome : Outcome machine.State machine.Message)
      × (machine.step entry.server (network.state entry.server) (unstamped machine input) ≡ Some outcome)
      × (entry ≡ entry_of machine entry.server (network.clock entry.server) input outcome)
      × IsAvailable network entry.server input × (network_after network entry.server input outcome ≡ next)

  -- the reception of a message from a neighbour, where there is one
  abbrev pub reception_of : ℕ → Option (Stamped machine.Message) → Option (Input machine.Task (Stamped machine.Message))
  reception_of from None = None
  reception_of from (Some message) = Some (Receives from message)

  -- the input that an act represents: a reception receives the next message of its link, where there is one
  abbrev pub input_of : NetworkState → ℕ → Act machine.Task → Option (Input machine.Task (Stamped machine.Message))
  input_of network server (Did task) = Some (Does task)
  input_of network server (Received from) = reception_of from (slice_get (network.put from server) (network.taken from server))

  -- an act of a server that is possible: the input that it represents, and the outcome of that
  pub record PossibleAct (network : NetworkState) (server : ℕ) (act : Act machine.Task) : Type 0 where
    pub input : Input machine.Task (Stamped machine.Message)
    pub outcome : Made machine
    pub stands : input_of network server act ≡ Some input
    pub steps : machine.step server (network.state server) (unstamped machine input) ≡ Some outcome

  -- a reception that is possible: a server receives the next message of a link, with this outcome
  pub record PossibleReception (network : NetworkState) : Type 0 where
    pub server : ℕ
    pub from : ℕ
    pub message : Stamped machine.Message
    pub outcome : Made machine
    pub next : IsAvailable network server (Receives from message)
    pub steps : machine.step server (network.state server) (Receives from message.message) ≡ Some outcome

  -- the network after it
  abbrev pub after_reception : (network : NetworkState) → PossibleReception network → NetworkState
  after_reception network reception = network_after network reception.server (Receives reception.from reception.message) reception.outcome

  -- the outcome of an input of a server, where there is one
  abbrev pub outcome_of : NetworkState → ℕ → Option (Input machine.Task (Stamped machine.Message)) → Option (Outcome machine.State machine.Message)
  outcome_of network server None = None
  outcome_of network server (Some input) = machine.step server (network.state server) (unstamped machine input)

  -- the outcome of an act of a server, where it is possible
  abbrev pub outcome_at : NetworkState → ℕ → Act machine.Task → Option (Outcome machine.State machine.Message)
  outcome_at network server act = outcome_of network server (input_of network server act)

  -- the messages of an outcome, where there is one
  abbrev pub outs_of : Option (Outcome machine.State machine.Message) → ℕ → List machine.Message
  outs_of None link = []
  outs_of (Some outcome) link = outcome.outs link

  -- the messages that an entry puts for a neighbour, by the state that its step is made on
  abbrev pub messages_of : NetworkState → Entry machine → ℕ → List machine.Message
  messages_of network entry link = outs_of (outcome_at network entry.server entry.act) link

  -- the network after an outcome; without one it stays
  abbrev pub after_outcome : NetworkState → ℕ → Input machine.Task (Stamped machine.Message) → Option (Outcome machine.State machine.Message) → NetworkState
  after_outcome network server input None = network
  after_outcome network server input (Some outcome) = network_after network server input outcome

  -- the network after an input; without one it stays
  abbrev pub after_input : NetworkState → ℕ → Option (Input machine.Task (Stamped machine.Message)) → NetworkState
  after_input network server None = network
  after_input network server (Some input) = after_outcome network server input (machine.step server (network.state server) (unstamped machine input))

  -- the step of the network as a function: an act that is not possible changes nothing
  abbrev pub turn : NetworkState → ℕ → Act machine.Task → NetworkState
  turn network server act = after_input network server (input_of network server act)

  -- the entry of an outcome, where there is one
  abbrev pub entry_given : NetworkState → ℕ → Input machine.Task (Stamped machine.Message) → Option (Made machine) → Option (Entry machine)
  entry_given network server input None = None
  entry_given network server input (Some outcome) = Some (entry_of machine server (network.clock server) input outcome)

  -- the entry of an input, where there is one and it is possible
  abbrev pub entry_from : NetworkState → ℕ → Option (Input machine.Task (Stamped machine.Message)) → Option (Entry machine)
  entry_from network server None = None
  entry_from network server (Some input) = entry_given network server input (machine.step server (network.state server) (unstamped machine input))

  -- the entry of a server's act, where it is possible
  abbrev pub entry_at : NetworkState → ℕ → Act machine.Task → Option (Entry machine)
  entry_at network server act = entry_from network server (input_of network server act)
