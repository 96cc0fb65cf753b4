-- Defines nets whose phases all have one tree: the runs of the net on that tree.
use Rattle.std.specs.Prelude.{◌≡◌, ℕ, true, List, map}
use Rattle.law_machine.specs.Runs.{IsRun}
use Rattle.law_machine.specs.History.{state_at}
use Rattle.law_routing.specs.Theory.{Theory}
use Rattle.law_routing.specs.Routing.{Network}
use Rattle.law_routing.specs.Walk.{walk_of as walk_on_tree}
use Rattle.law_phases.specs.Trees.{JournalEntry, entry_off, entries_on, PhasedNet, net_at, machine_at, at_phase, is_one_tree}
use Rattle.law_phases.specs.Moments.{Moment}

module _ (theory : Theory) (net : PhasedNet theory) (phase : ℕ) where
  -- all phases have the tree of this one
  abbrev pub HasOneTree : Type 0
  HasOneTree = (other : ℕ) → is_one_tree theory net phase other ≡ true

  -- the entries are a run of the net on its tree
  abbrev pub IsRunOnTree : Moment theory net → List JournalEntry → Moment theory net → Type 0
  IsRunOnTree before entries after =
      IsRun (machine_at theory net phase) (at_phase theory net phase before.state) before.phase (entries_on theory (net_at theory net phase) entries)
      (at_phase theory net phase after.state) after.phase

  -- the state of that net after n entries
  abbrev pub state_on_tree : Moment theory net → List JournalEntry → ℕ → Network theory (net_at theory net phase)
  state_on_tree before entries n =
      state_at (machine_at theory net phase) (at_phase theory net phase before.state) before.phase (entries_on theory (net_at theory net phase) entries) n

  -- its walk from a moment on, in a net of so many phases
  abbrev pub walk_off_tree : ℕ → Moment theory net → List JournalEntry
  walk_off_tree phases moment =
      map (entry_off theory (net_at theory net phase))
      (walk_on_tree theory (net_at theory net phase) phases (record { network = at_phase theory net phase moment.state; phase = moment.phase }))
