-- Defines the state and the phase at each moment of a journal over trees by phase.
use Rattle.std.specs.Prelude.{ℕ, zero, suc, ◌==◌, cond, List, [], ◌∷◌, Option, Some, None}
use Rattle.law_machine.specs.Machine.{act_phase}
use Rattle.law_machine.specs.Network.{turn}
use Rattle.law_machine.specs.Runs.{raised}
use Rattle.law_routing.specs.Theory.{Theory}
use Rattle.law_routing.specs.Routing.{opening}
use Rattle.law_routing.specs.Change.{on_tree}
use Rattle.law_phases.specs.Trees.{JournalEntry, State, off, PhasedNet, tree_at, net_at, machine_at, at_phase, is_one_tree}

module _ (theory : Theory) (net : PhasedNet theory) where
  -- the state with every clock raised to the greatest
  abbrev pub with_clocks_raised : ℕ → State theory → State theory
  with_clocks_raised last state = off theory (net_at theory net last) (raised (machine_at theory net last) (at_phase theory net last state))

  -- the state set on the tree of a later phase: clients' sets are kept, neighbours hold what flows, all is installed, links are empty, clocks are raised
  abbrev pub with_tree_changed : ℕ → ℕ → State theory → State theory
  with_tree_changed last phase state =
      let tree = tree_at theory net phase in
      off theory (net_at theory net phase) (on_tree theory (net_at theory net last) tree.links tree.hop (at_phase theory net last state))

  -- the state as the first command of a later phase finds it: on the tree of its phase where that is another than the one in force, else with raised clocks
  abbrev pub begun : ℕ → ℕ → State theory → State theory
  begun last phase state = cond (is_one_tree theory net last phase) (with_clocks_raised last state) (with_tree_changed last phase state)

  -- the state, with the phase of the last command
  pub record Moment : Type 0 where
    pub state : State theory
    pub phase : ℕ

  -- the opening: all is empty, 0 or false
  abbrev pub opening_moment : Moment
  opening_moment = record { state = off theory (net_at theory net 0) (opening theory (net_at theory net 0)); phase = 0 }

  -- the phase of an entry that is a command, at a moment
  abbrev pub command_phase : Moment → JournalEntry → Option ℕ
  command_phase moment entry = act_phase (machine_at theory net moment.phase) entry.server (moment.state.state entry.server) entry.act

  -- a moment as an act finds it: a command of a later phase begins that phase
  abbrev pub as_found : Moment → Option ℕ → Moment
  as_found moment None = moment
  as_found moment (Some phase) = cond (moment.phase == phase) moment (record { state = begun moment.phase phase moment.state; phase = phase })

  -- a moment as an entry finds it
  abbrev pub found_by : Moment → JournalEntry → Moment
  found_by moment entry = as_found moment (command_phase moment entry)

  -- a moment after the act of an entry, on the tree of its phase
  abbrev pub acted : Moment → JournalEntry → Moment
  acted moment entry = record {
    state =
        off theory (net_at theory net moment.phase)
        (turn (machine_at theory net moment.phase) (at_phase theory net moment.phase moment.state) entry.server entry.act);
    phase = moment.phase;
  }

  -- the moment after n entries
  abbrev pub moment_after : Moment → List JournalEntry → ℕ → Moment
  moment_after moment entries zero = moment
  moment_after moment [] (suc n) = moment
  moment_after moment (entry ∷ entries) (suc n) = moment_after (acted (found_by moment entry) entry) entries n

  -- the same as the next entry finds it, where there is one
  abbrev pub found_after : Moment → List JournalEntry → ℕ → Moment
  found_after moment [] n = moment
  found_after moment (entry ∷ entries) zero = found_by moment entry
  found_after moment (entry ∷ entries) (suc n) = found_after (acted (found_by moment entry) entry) entries n

  -- the moment after n entries from the opening
  abbrev pub moment_of : List JournalEntry → ℕ → Moment
  moment_of entries n = moment_after opening_moment entries n

  -- the same as the next entry finds it
  abbrev pub found_of : List JournalEntry → ℕ → Moment
  found_of entries n = found_after opening_moment entries n
