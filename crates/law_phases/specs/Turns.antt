-- Defines turns: what a server's act makes at a moment, where the rule of phases lets it and it is possible.
use Rattle.std.specs.Prelude.{◌≡◌, ℕ, Option, Some, None}
use Rattle.law_machine.specs.Machine.{act_phase}
use Rattle.law_machine.specs.Network.{entry_at}
use Rattle.law_routing.specs.Theory.{Theory}
use Rattle.law_routing.specs.Net.{Net}
use Rattle.law_routing.specs.Routing.{NetEntry}
use Rattle.law_phases.specs.Trees.{JournalEntry, entry_off, PhasedNet, net_at, machine_at, at_phase}
use Rattle.law_phases.specs.Moments.{Moment, acted}
use Rattle.law_phases.specs.Runs.{Turn, ActFinds}

-- an entry without its tree, where there is one
abbrev pub off_maybe : (theory : Theory) (net : Net theory) → Option (NetEntry theory net) → Option JournalEntry
off_maybe theory net None = None
off_maybe theory net (Some entry) = Some (entry_off theory net entry)

module _ (theory : Theory) (net : PhasedNet theory) where
  -- the entry of a turn at a moment as it finds it, where the turn is possible
  abbrev pub entry_made : Moment theory net → Turn → Option JournalEntry
  entry_made moment turn =
      off_maybe theory (net_at theory net moment.phase)
      (entry_at (machine_at theory net moment.phase) (at_phase theory net moment.phase moment.state) turn.0 turn.1)

  -- the phase of a turn that is a command
  abbrev pub turn_phase : Moment theory net → Turn → Option ℕ
  turn_phase moment turn = act_phase (machine_at theory net moment.phase) turn.0 (moment.state.state turn.0) turn.1

  -- a turn is permitted: the rule of phases lets its act, and the act is possible; it makes this entry and leads to this moment
  pub record IsPermittedTurn (moment : Moment theory net) (turn : Turn) (entry : JournalEntry) (next : Moment theory net) : Type 0 where
    pub found : Moment theory net
    pub ready : ActFinds theory net moment.state moment.phase (turn_phase moment turn) found.state found.phase
    pub possible : entry_made found turn ≡ Some entry
    pub leads : acted theory net found entry ≡ next
