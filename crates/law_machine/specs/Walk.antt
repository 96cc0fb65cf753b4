-- Defines the walk: turns tried in a fixed order, where those that are not possible are skipped.
use Rattle.std.specs.Prelude.{◌≡◌, ℕ, zero, suc, ◌+◌, ◌*◌, ◌<◌, ◌==◌, Bool, true, cond, List, [], ◌∷◌, ◌++◌, ◌⊎◌, Option, Some, None}
use Rattle.law_machine.specs.Machine.{Machine, Act, Did, Received, Entry, act_phase}
use Rattle.law_machine.specs.Network.{NetworkState, outcome_at, turn, entry_at}
use Rattle.law_machine.specs.Runs.{IsRun, IsQuiet, IsThrough}
use Rattle.law_machine.specs.History.{Moment, as_found, network_step}
use Rattle.law_machine.specs.Load.{Measure, load, pending_count}

-- what to do with a value, and what without one
abbrev pub with_default : {X Y : Type 0} → Option X → (X → Y) → Y → Y
with_default None some none = none
with_default (Some x) some none = some x

module _ (machine : Machine) where
  -- a server and its act
  abbrev pub Turn : Type 0
  Turn = ℕ × Act machine.Task

  -- the turns of entries
  abbrev pub turns_of : List (Entry machine) → List Turn
  turns_of [] = []
  turns_of (entry ∷ entries) = (entry.server, entry.act) ∷ turns_of entries

  -- no command, or a command of this phase
  abbrev pub is_of_phase : ℕ → Option ℕ → Bool
  is_of_phase phase None = true
  is_of_phase phase (Some own) = own == phase

  -- the entry of an act whose own phase is given: a command of another phase has none
  abbrev pub entry_of_phase : ℕ → Moment machine → ℕ → Act machine.Task → Option ℕ → Option (Entry machine)
  entry_of_phase phase moment server act own = cond (is_of_phase phase own) (entry_at machine (as_found machine moment own).network server act) None

  -- the entry of a turn within a phase, where it is possible there
  abbrev pub entry_in : ℕ → Moment machine → Turn → Option (Entry machine)
  entry_in phase moment turn = entry_of_phase phase moment turn.0 turn.1 (act_phase machine turn.0 (moment.network.state turn.0) turn.1)

  -- the entries of turns within a phase, one after the other, where those that are not possible are skipped
  abbrev pub entries_by : ℕ → Moment machine → List Turn → List (Entry machine)
  entries_by phase moment [] = []
  entries_by phase moment (turn ∷ turns) = with_default (entry_in phase moment turn)
      (λ entry. entry ∷ entries_by phase (network_step machine moment entry) turns)
      (entries_by phase moment turns)

  -- a list of turns, so many times
  abbrev pub repeated : ℕ → List Turn → List Turn
  repeated zero turns = []
  repeated (suc n) turns = turns ++ repeated n turns

  -- a phase may be walked at a moment: its first command was executed, or all lower phases are through and all is quiet
  abbrev pub IsWalkable : ℕ → Moment machine → Type 0
  IsWalkable phase moment = (moment.phase ≡ phase) ⊎ ((moment.phase < phase) × IsThrough machine moment.network phase × IsQuiet machine moment.network)

  -- the moment after the turns
  abbrev pub moment_by : ℕ → Moment machine → List Turn → Moment machine
  moment_by phase moment [] = moment
  moment_by phase moment (turn ∷ turns) = with_default (entry_in phase moment turn)
      (λ entry. moment_by phase (network_step machine moment entry) turns)
      (moment_by phase moment turns)

  -- the entries of the turns within a phase are a run from a moment to the moment after the turns, and the phase may be walked there
  abbrev pub IsRunByTurns : ℕ → List Turn → Moment machine → Type 0
  IsRunByTurns phase turns moment =
      IsRun machine moment.network moment.phase (entries_by phase moment turns) (moment_by phase moment turns).network (moment_by phase moment turns).phase
      × IsWalkable phase (moment_by phase moment turns)

  -- the entries of so many phases from this one on, each by these turns
  abbrev pub walk_phases : List Turn → ℕ → ℕ → Moment machine → List (Entry machine)
  walk_phases turns zero phase moment = []
  walk_phases turns (suc n) phase moment = entries_by phase moment turns ++ walk_phases turns n (suc phase) (moment_by phase moment turns)

  -- each act of a plan once, where it is possible
  abbrev pub round_of : NetworkState machine → List Turn → NetworkState machine
  round_of network [] = network
  round_of network (next ∷ plan) = round_of (turn machine network next.0 next.1) plan

  -- and so again and again
  abbrev pub rounds : ℕ → List Turn → NetworkState machine → NetworkState machine
  rounds zero plan network = network
  rounds (suc n) plan network = rounds n plan (round_of network plan)

  -- no act of a plan is possible
  abbrev pub IsIdle : NetworkState machine → List Turn → Type 0
  IsIdle network [] = Unit {0}
  IsIdle network (next ∷ plan) = (outcome_at machine network next.0 next.1 ≡ None) × IsIdle network plan

  module _ (measure : Measure machine) where
    -- a reception, or a table update
    abbrev pub IsQuietAct : Act machine.Task → Type 0
    IsQuietAct (Did task) = measure.table_update task ≡ true
    IsQuietAct (Received from) = Unit {0}

    -- a plan of receptions and table updates alone
    abbrev pub IsPlan : List Turn → Type 0
    IsPlan [] = Unit {0}
    IsPlan (next ∷ plan) = IsQuietAct next.1 × IsPlan plan

    -- what falls with each reception and each table update
    abbrev pub work_left : NetworkState machine → ℕ
    work_left network = 2 * load machine measure network + pending_count machine measure network
