-- A machine: the step of one server, over any states, tasks and messages, and what a journal records of a step.
use Rattle.std.specs.Prelude.{ℕ, suc, nat_lt, ◌==◌, max, Bool, cond, List, [], ◌∷◌, length, map, Option, None}
pub use Rattle.base.specs.Sets.{Has}

-- what a server is to do: a task of its own, or to receive a message from a neighbour
pub data Input (Task Message : Type 0) : Type 0 where
  Does : (task : Task) → Input Task Message
  Receives : (from : ℕ) (message : Message) → Input Task Message

-- an input as a journal records it, without the message
pub data Act (Task : Type 0) : Type 0 where
  Did : (task : Task) → Act Task
  Received : (from : ℕ) → Act Task

-- what a server makes of an input: its new state, and the messages for each neighbour
pub record Outcome (State Message : Type 0) : Type 0 where
  pub state : State
  pub outs : ℕ → List Message

-- servers with neighbours, and the step of one of them
pub record Machine : Type 1 where
  pub State : Type 0
  pub Task : Type 0
  pub Message : Type 0
  pub servers : List ℕ
  -- the neighbours of a server, rising
  pub links : ℕ → List ℕ
  -- the step of a server in a state: none where the input is not possible there
  pub step : ℕ → State → Input Task Message → Option (Outcome State Message)
  -- the phase of a task that is a command; none for a table update
  pub phase : ℕ → State → Task → Option ℕ
  -- whether a server has no command left of a phase below this one
  pub through : ℕ → State → ℕ → Bool
  -- whether a server has a change that no table update has installed
  pub pending : ℕ → State → Bool

-- a message with the stamp of the step that put it
pub record Stamped (Message : Type 0) : Type 0 where
  pub stamp : ℕ
  pub message : Message

-- a function with one value anew
abbrev pub at : {X : Type 0} → (ℕ → X) → ℕ → X → ℕ → X
at f k x j = cond (j == k) x (f j)

module _ (machine : Machine) where
  -- what a server of the machine makes of an input
  abbrev pub Made : Type 0
  Made = Outcome machine.State machine.Message

  -- what a journal records of a step: its stamp, the server, the act, and the neighbours that got a message
  pub record Entry : Type 0 where
    pub stamp : ℕ
    pub server : ℕ
    pub act : Act machine.Task
    pub outs : List ℕ

  -- an input without the stamp of its message
  abbrev pub unstamped : Input machine.Task (Stamped machine.Message) → Input machine.Task machine.Message
  unstamped (Does task) = Does task
  unstamped (Receives from stamped) = Receives from stamped.message

  -- how a journal records an input
  abbrev pub act_of : Input machine.Task (Stamped machine.Message) → Act machine.Task
  act_of (Does task) = Did task
  act_of (Receives from stamped) = Received from

  -- the stamp of a step: one more than the clock before it, and than the stamp of a message that it takes
  abbrev pub next_stamp : ℕ → Input machine.Task (Stamped machine.Message) → ℕ
  next_stamp clock (Does task) = suc clock
  next_stamp clock (Receives from stamped) = suc (max clock stamped.stamp)

  -- messages with the stamp of their step
  abbrev pub stamped : ℕ → List machine.Message → List (Stamped machine.Message)
  stamped stamp messages = map (λ message. record { stamp = stamp; message = message }) messages

  -- the neighbours that get a message
  abbrev pub receivers : (ℕ → List machine.Message) → List ℕ → List ℕ
  receivers outs [] = []
  receivers outs (link ∷ links) = cond (nat_lt 0 (length (outs link))) (link ∷ receivers outs links) (receivers outs links)

  -- the entry of a server's step, by its clock before, the input and the outcome
  abbrev pub entry_of : ℕ → ℕ → Input machine.Task (Stamped machine.Message) → Outcome machine.State machine.Message → Entry
  entry_of server clock input outcome =
      record { stamp = next_stamp clock input; server = server; act = act_of input; outs = receivers outcome.outs (machine.links server) }

  -- the phase of an act that is a command
  abbrev pub act_phase : ℕ → machine.State → Act machine.Task → Option ℕ
  act_phase server state (Did task) = machine.phase server state task
  act_phase server state (Received from) = None
