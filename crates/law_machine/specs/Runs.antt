-- Defines the rule of phases, and which runs are legal.
use Rattle.std.specs.Prelude.{◌≡◌, ℕ, ◌≤◌, ◌<◌, max, true, false, List, [], ◌∷◌, ◌⊎◌, length, Option, Some, None}
use Rattle.law_machine.specs.Machine.{Has, Machine, Act, Input, Does, Outcome, Stamped, Entry, act_phase}
use Rattle.law_machine.specs.Network.{NetworkState, IsStep, entry_at, turn}

module _ (machine : Machine) where
  -- the greatest value of a function over a list
  abbrev pub greatest : (ℕ → ℕ) → List ℕ → ℕ
  greatest f [] = 0
  greatest f (x ∷ xs) = max (f x) (greatest f xs)

  -- every clock is raised to the greatest
  abbrev pub raised : NetworkState machine → NetworkState machine
  raised network = record network { clock = λ server. greatest network.clock machine.servers }

  -- all links are empty and nothing is pending
  pub record IsQuiet (network : NetworkState machine) : Type 0 where
    pub empty : (a b : ℕ) → network.taken a b ≡ length (network.put a b)
    pub calm : (server : ℕ) → Has server machine.servers → machine.pending server (network.state server) ≡ false

  -- all commands of the phases below this one are executed
  abbrev pub IsThrough : NetworkState machine → ℕ → Type 0
  IsThrough network phase = (server : ℕ) → Has server machine.servers → machine.through server (network.state server) phase ≡ true

  -- the rule of phases for an act: from the state, where the last command was of the phase last, to the state on which the step is made
  abbrev pub IsReady : NetworkState machine → ℕ → Option ℕ → NetworkState machine → ℕ → Type 0
  -- what is no command is always ready
  IsReady network last None found next = (network ≡ found) × (last ≡ next)
  -- a command of the same phase is ready; one of a later phase where all are executed and the network is quiet, and then the clocks are raised
  IsReady network last (Some phase) found next = (phase ≡ next)
      × (((last ≡ phase) × (network ≡ found)) ⊎ ((last < phase) × IsThrough network phase × IsQuiet network × (raised network ≡ found)))

  -- a turn is permitted: the rule of phases lets its act, and the act is possible; it makes this entry and leads to this state and phase
  pub record IsPermitted (network : NetworkState machine) (last server : ℕ) (act : Act machine.Task) (entry : Entry machine)
      (next : NetworkState machine) (now : ℕ) : Type 0 where
    pub found : NetworkState machine
    pub ready : IsReady network last (act_phase machine server (network.state server) act) found now
    pub possible : entry_at machine found server act ≡ Some entry
    pub leads : turn machine found server act ≡ next

  -- a legal run: each entry is ready and makes its step, from a state and the phase of the last command before it
  abbrev pub IsRun : NetworkState machine → ℕ → List (Entry machine) → NetworkState machine → ℕ → Type 0
  IsRun network last [] end phase = (network ≡ end) × (last ≡ phase)
  IsRun network last (entry ∷ entries) end phase =
      (found next : NetworkState machine) × (now : ℕ)
      × IsReady network last (act_phase machine entry.server (network.state entry.server) entry.act) found now
      × IsStep machine found entry next × IsRun next now entries end phase

  -- a legal run with its ends: the state at its start and the phase of the last command before it, its entries, and the state and phase at its end
  pub record Run : Type 0 where
    pub start : NetworkState machine
    pub first : ℕ
    pub entries : List (Entry machine)
    pub end : NetworkState machine
    pub last : ℕ
    pub legal : IsRun start first entries end last

  -- some entries are a run from the start to a state between, and the rest is a run from there to the end
  pub record IsRunInTwo (start : NetworkState machine) (first : ℕ) (entries rest : List (Entry machine)) (end : NetworkState machine) (last : ℕ) : Type 0 where
    pub middle : NetworkState machine
    pub now : ℕ
    pub begins : IsRun start first entries middle now
    pub goes_on : IsRun middle now rest end last

  -- what is asked of a machine
  pub record MachineLaws : Type 0 where
    -- only its servers make steps
    pub among : (server : ℕ) (state : machine.State) (input : Input machine.Task machine.Message) (outcome : Outcome machine.State machine.Message)
        → machine.step server state input ≡ Some outcome → Has server machine.servers
    -- a task that is no command needs something pending
    pub table_update : (server : ℕ) (state : machine.State) (task : machine.Task) (outcome : Outcome machine.State machine.Message)
        → machine.step server state (Does task) ≡ Some outcome → machine.phase server state task ≡ None → machine.pending server state ≡ true

  -- no clock and no message has a stamp above n
  pub record HasStampsUpTo (n : ℕ) (network : NetworkState machine) : Type 0 where
    pub clocks : (server : ℕ) → network.clock server ≤ n
    pub puts : (a b : ℕ) (message : Stamped machine.Message) → Has message (network.put a b) → message.stamp ≤ n

  -- no more is received than was put
  abbrev pub IsWithinPuts : NetworkState machine → Type 0
  IsWithinPuts network = (a b : ℕ) → network.taken a b ≤ length (network.put a b)
