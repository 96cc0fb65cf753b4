-- Defines the walk over trees by phase: what is left of each phase, by the turns of its tree, of which those that are not possible are skipped.
use Rattle.std.specs.Prelude.{ℕ, zero, suc, ◌-◌, cond, List, [], ◌∷◌, ◌++◌, Option, None}
use Rattle.law_machine.specs.Machine.{act_phase}
use Rattle.law_machine.specs.Walk.{is_of_phase, with_default}
use Rattle.law_routing.specs.Theory.{Theory}
use Rattle.law_routing.specs.Walk.{walk_turns}
use Rattle.law_phases.specs.Trees.{JournalEntry, PhasedNet, net_at, machine_at}
use Rattle.law_phases.specs.Moments.{Moment, as_found, found_by, acted}
use Rattle.law_phases.specs.Runs.{Turn}
use Rattle.law_phases.specs.Turns.{entry_made}

module _ (theory : Theory) (net : PhasedNet theory) where
  -- the entry of a turn whose own phase is given: a command of another phase than this one has none
  abbrev pub entry_of_phase : ℕ → Moment theory net → Turn → Option ℕ → Option JournalEntry
  entry_of_phase phase moment turn own =
      cond (is_of_phase (machine_at theory net phase) phase own) (entry_made theory net (as_found theory net moment own) turn) None

  -- the entry of a turn within a phase, where it is possible there
  abbrev pub entry_in : ℕ → Moment theory net → Turn → Option JournalEntry
  entry_in phase moment turn = entry_of_phase phase moment turn (act_phase (machine_at theory net moment.phase) turn.0 (moment.state.state turn.0) turn.1)

  -- the moment after an entry
  abbrev pub moment_next : Moment theory net → JournalEntry → Moment theory net
  moment_next moment entry = acted theory net (found_by theory net moment entry) entry

  -- the entries of turns within a phase, one after the other, where those that are not possible are skipped
  abbrev pub entries_by : ℕ → Moment theory net → List Turn → List JournalEntry
  entries_by phase moment [] = []
  entries_by phase moment (turn ∷ turns) =
      with_default (entry_in phase moment turn) (λ entry. entry ∷ entries_by phase (moment_next moment entry) turns) (entries_by phase moment turns)

  -- the moment after the turns
  abbrev pub moment_by : ℕ → Moment theory net → List Turn → Moment theory net
  moment_by phase moment [] = moment
  moment_by phase moment (turn ∷ turns) =
      with_default (entry_in phase moment turn) (λ entry. moment_by phase (moment_next moment entry) turns) (moment_by phase moment turns)

  -- the entries of so many phases from this one on, each by the turns of its tree
  abbrev pub walk_phases : ℕ → ℕ → Moment theory net → List JournalEntry
  walk_phases zero phase moment = []
  walk_phases (suc n) phase moment =
      let turns = walk_turns theory (net_at theory net phase) in
      entries_by phase moment turns ++ walk_phases n (suc phase) (moment_by phase moment turns)

  -- the entries of the walk from a moment on, phase by phase, in a net of so many phases
  abbrev pub walk_of : ℕ → Moment theory net → List JournalEntry
  walk_of phases moment = walk_phases (phases - moment.phase) moment.phase moment
