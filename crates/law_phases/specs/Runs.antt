-- The rule of phases, and legal runs over trees by phase.
use Rattle.std.specs.Prelude.{◌≡◌, ℕ, ◌<◌, List, [], ◌∷◌, ◌⊎◌, Option, Some, None}
use Rattle.law_machine.specs.Machine.{Act, act_phase}
use Rattle.law_machine.specs.Network.{IsStep}
use Rattle.law_routing.specs.Theory.{Theory}
use Rattle.law_routing.specs.Step.{Task}
use Rattle.law_phases.specs.Trees.{JournalEntry, State, entry_on, PhasedNet, PhasedNetLaws, net_at, machine_at, at_phase, IsQuietOn, IsThroughOn}
use Rattle.law_phases.specs.Moments.{Moment, begun, opening_moment, command_phase}

-- a server and its act
abbrev pub Turn : Type 0
Turn = ℕ × Act Task

-- the turns of entries
abbrev pub turns_of : List JournalEntry → List Turn
turns_of [] = []
turns_of (entry ∷ entries) = (entry.server, entry.act) ∷ turns_of entries

module _ (theory : Theory) (net : PhasedNet theory) where
  -- the rule of phases: after a command of the phase last, an act of its own phase, or of none, finds this state, and its phase is next
  abbrev pub ActFinds : State theory → ℕ → Option ℕ → State theory → ℕ → Type 0
  -- what is no command finds the state as it is
  ActFinds state last None found next = (state ≡ found) × (last ≡ next)
  -- so does a command of the same phase; one of a later phase may come where all are executed and the network is quiet, and then that phase begins
  ActFinds state last (Some phase) found next =
      (phase ≡ next)
      × (((last ≡ phase) × (state ≡ found))
      ⊎ ((last < phase) × IsThroughOn theory net last state phase × IsQuietOn theory net last state × (begun theory net last phase state ≡ found)))

  -- an entry makes its step on the tree of a phase
  abbrev pub IsStepOn : ℕ → State theory → JournalEntry → State theory → Type 0
  IsStepOn phase state entry next =
      IsStep (machine_at theory net phase) (at_phase theory net phase state) (entry_on theory (net_at theory net phase) entry) (at_phase theory net phase next)

  -- a legal run from a state and the phase of the last command before it: each entry finds what the rule lets it, and makes its step on the tree of its phase
  abbrev pub IsPhasedRun : State theory → ℕ → List JournalEntry → State theory → ℕ → Type 0
  IsPhasedRun state last [] end phase = (state ≡ end) × (last ≡ phase)
  IsPhasedRun state last (entry ∷ entries) end phase =
      (found next : State theory) × (now : ℕ)
      × ActFinds state last (act_phase (machine_at theory net last) entry.server (state.state entry.server) entry.act) found now
      × IsStepOn now found entry next
      × IsPhasedRun next now entries end phase

module _ (theory : Theory) (net : PhasedNet theory) where
  -- the rule of phases, between moments
  abbrev pub Finds : Moment theory net → Option ℕ → Moment theory net → Type 0
  Finds before own found = ActFinds theory net before.state before.phase own found.state found.phase

  -- entries are a legal run from one moment to another
  abbrev pub IsRunTo : Moment theory net → List JournalEntry → Moment theory net → Type 0
  IsRunTo before entries after = IsPhasedRun theory net before.state before.phase entries after.state after.phase

  -- an entry leads from one moment to the next: the rule of phases lets it find what it finds, and its step is made on that
  pub record IsPhasedStep (before found after : Moment theory net) (entry : JournalEntry) : Type 0 where
    pub ready : ActFinds theory net before.state before.phase (command_phase theory net before entry) found.state found.phase
    pub step : IsStepOn theory net found.phase found.state entry after.state
    pub phase : after.phase ≡ found.phase

  -- a run goes by a moment: it leads there by its first entries, and the rest goes on from there
  pub record GoesThrough (before : Moment theory net) (entries rest : List JournalEntry) (after : Moment theory net) : Type 0 where
    pub middle : Moment theory net
    pub first : IsRunTo before entries middle
    pub goes_on : IsRunTo middle rest after

  -- two runs from one moment whose servers and acts are the same
  pub record SameTurns : Type 0 where
    pub before : Moment theory net
    pub entries : List JournalEntry
    pub after : Moment theory net
    pub run : IsRunTo before entries after
    pub others : List JournalEntry
    pub otherwise : Moment theory net
    pub other : IsRunTo before others otherwise
    pub turns : turns_of entries ≡ turns_of others

-- a net with its laws, and a legal run of it from the opening: the one premise of the laws
pub record PhasedRun (theory : Theory) : Type 0 where
  pub net : PhasedNet theory
  pub laws : PhasedNetLaws theory net
  pub journal : List JournalEntry
  -- the state at the end, and the phase of the last command
  pub end : State theory
  pub last : ℕ
  pub legal : IsPhasedRun theory net (opening_moment theory net).state 0 journal end last
