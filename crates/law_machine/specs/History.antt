-- Defines the state and the phase at each moment of a journal: a moment is a number of entries.
use Rattle.std.specs.Prelude.{◌≡◌, ℕ, zero, suc, ◌++◌, ◌==◌, cond, List, [], ◌∷◌, ◌⊎◌, Option, Some, None, slice_get}
use Rattle.law_machine.specs.Machine.{Machine, at, Input, Outcome, Stamped, Entry, unstamped, act_of, act_phase, receivers, stamped}
use Rattle.law_machine.specs.Network.{NetworkState, IsAvailable, taken_after, IsStep, messages_of, turn}
use Rattle.law_machine.specs.Runs.{raised, IsReady, Run}

module _ (machine : Machine) where
  -- the network, with the phase of the last command
  pub record Moment : Type 0 where
    pub network : NetworkState machine
    pub phase : ℕ

  -- a moment as an act finds it: before the first command of a later phase the clocks are raised
  abbrev pub as_found : Moment → Option ℕ → Moment
  as_found moment None = moment
  as_found moment (Some phase) = cond (moment.phase == phase) moment (record { network = raised machine moment.network; phase = phase })

  -- a moment after the act of an entry
  abbrev pub acted : Moment → Entry machine → Moment
  acted moment entry = record { network = turn machine moment.network entry.server entry.act; phase = moment.phase }

  -- the step of the network by the server and the act of an entry, under the rule of phases
  abbrev pub network_step : Moment → Entry machine → Moment
  network_step moment entry = acted (as_found moment (act_phase machine entry.server (moment.network.state entry.server) entry.act)) entry

  -- the moment after n entries
  abbrev pub moment_after : Moment → List (Entry machine) → ℕ → Moment
  moment_after moment entries zero = moment
  moment_after moment [] (suc n) = moment
  moment_after moment (entry ∷ entries) (suc n) = moment_after (network_step moment entry) entries n

  -- the state after n entries, from a state and the phase of the last command before it
  abbrev pub state_at : NetworkState machine → ℕ → List (Entry machine) → ℕ → NetworkState machine
  state_at network last entries n = (moment_after (record { network = network; phase = last }) entries n).network

  -- the phase of the last command after n entries
  abbrev pub phase_at : NetworkState machine → ℕ → List (Entry machine) → ℕ → ℕ
  phase_at network last entries n = (moment_after (record { network = network; phase = last }) entries n).phase

  -- an entry leads from one moment to the next: the rule of phases lets it, and its step is made
  pub record Happens (network : NetworkState machine) (last : ℕ) (entry : Entry machine) (next : NetworkState machine) (now : ℕ) : Type 0 where
    pub found : NetworkState machine
    pub ready : IsReady machine network last (act_phase machine entry.server (network.state entry.server) entry.act) found now
    pub step : IsStep machine found entry next

  -- the same without clocks
  pub record Moves (w : NetworkState machine) (e : Entry machine) (v : NetworkState machine) : Type 0 where
    pub deed : Input machine.Task (Stamped machine.Message)
    pub made : Outcome machine.State machine.Message
    pub stamp : ℕ
    pub step : machine.step e.server (w.state e.server) (unstamped machine deed) ≡ Some made
    pub act : e.act ≡ act_of machine deed
    pub outs : e.outs ≡ receivers machine made.outs (machine.links e.server)
    pub given : IsAvailable machine w e.server deed
    pub state : v.state ≡ at w.state e.server made.state
    pub put : v.put ≡ (λ a b. cond (a == e.server) (w.put a b ++ stamped machine stamp (made.outs b)) (w.put a b))
    pub taken : v.taken ≡ taken_after machine w.taken e.server deed

  -- an entry puts its messages, with its stamp, behind what was put on the links of its server, and records which neighbours got one
  pub record PutsMessages (network : NetworkState machine) (entry : Entry machine) (next : NetworkState machine) : Type 0 where
    pub puts : (link : ℕ) → next.put entry.server link ≡ network.put entry.server link ++ stamped machine entry.stamp (messages_of machine network entry link)
    pub others : (from link : ℕ) → (from ≡ entry.server → ⊥) → next.put from link ≡ network.put from link
    pub outs : entry.outs ≡ receivers machine (messages_of machine network entry) (machine.links entry.server)

  -- the state of a run after n entries
  abbrev pub run_state : Run machine → ℕ → NetworkState machine
  run_state run n = state_at run.start run.first run.entries n

  -- the phase of its last command by then
  abbrev pub run_phase : Run machine → ℕ → ℕ
  run_phase run n = phase_at run.start run.first run.entries n

  -- an entry of a run happens between the moment before it and the moment after it
  abbrev pub HappensAt : Run machine → ℕ → Entry machine → Type 0
  HappensAt run n entry = Happens (run_state run n) (run_phase run n) entry (run_state run (suc n)) (run_phase run (suc n))

  -- it puts its messages between those moments
  abbrev pub PutsMessagesAt : Run machine → ℕ → Entry machine → Type 0
  PutsMessagesAt run n entry = PutsMessages (run_state run n) entry (run_state run (suc n))

  -- nothing happens
  pub record StandsStill (before : NetworkState machine) (last : ℕ) (after : NetworkState machine) (now : ℕ) : Type 0 where
    pub network : after ≡ before
    pub phase : now ≡ last

  -- from a moment to the next the next entry happens, or the journal is at its end
  abbrev pub IsNext : List (Entry machine) → (ℕ → NetworkState machine) → (ℕ → ℕ) → ℕ → Type 0
  IsNext entries states phases n =
      ((slice_get entries n ≡ None) × StandsStill (states n) (phases n) (states (suc n)) (phases (suc n)))
      ⊎ ((entry : Entry machine) × (slice_get entries n ≡ Some entry) × Happens (states n) (phases n) entry (states (suc n)) (phases (suc n)))

  -- the states and phases are those of the moments of a journal
  abbrev pub IsHistory : List (Entry machine) → (ℕ → NetworkState machine) → (ℕ → ℕ) → Type 0
  IsHistory entries states phases = (n : ℕ) → IsNext entries states phases n
