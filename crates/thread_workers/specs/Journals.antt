-- What the journal of a cell shows of the commands that were executed, and of the clock.
use Rattle.std.specs.Prelude.{◌≡◌, ◌⊎◌, ℕ, suc, ◌+◌, ◌≤◌, ◌==◌, Bool, false, List, [], ◌∷◌, map, drop}
use mathlib.Core.List.{IsPrefix}
use Rattle.base.specs.Sets.{Has}
use Rattle.base.specs.Numbers.{sum_over, count}
use Rattle.law_routing.specs.Clients.{commands_below}
use Rattle.net_model.specs.Real.{real}
use Rattle.net_model.specs.declared.turn.Act.{Act}
use Rattle.net_model.specs.declared.turn.Act.TheVariants.{Command, Receive, TableUpdate}
use Rattle.net_model.specs.Parts.{EntryParts}
use Rattle.net_model.specs.Meaning.{phased_command}
use Rattle.net_model.specs.Nets.{clients_of}
use Rattle.server_spec.specs.Session.{SessionParts}
use Rattle.server_core.specs.Step.{last_stamp}
use Rattle.thread_cell.specs.declared.held.Root.{Root}
use Rattle.thread_cell.specs.Cell.{CellParts, count_before}

-- whether an act is a command of this client
abbrev pub is_command_of : ℕ → Act → Bool
is_command_of client (Command other) = client == other
is_command_of client (Receive from) = false
is_command_of client TableUpdate = false

-- how many entries are commands of a client
abbrev pub commands_of : ℕ → List EntryParts → ℕ
commands_of client entries = sum_over (λ entry. count (is_command_of client entry.act)) entries

-- the entries since the cell entered its phase
abbrev pub entries_since : Root → List EntryParts → List EntryParts
entries_since root journal = drop (count_before root) journal

-- A JOURNAL HAS EVERY COMMAND of the clients of the cell's server in the phases up to this one, with those that were executed before the cell entered
-- its phase
abbrev pub HasCommands : ℕ → Root → List EntryParts → Type 0
HasCommands phase root journal = (s : SessionParts) → Has s root.core.value.clients → Has s.client (clients_of root.net.value root.server)
    → commands_below real (suc phase) (map phased_command s.script) ≤ s.taken + commands_of s.client (entries_since root journal)

-- the last stamp of entries; where there are none, a clock
abbrev pub last_or : ℕ → List EntryParts → ℕ
last_or clock [] = clock
last_or clock (entry ∷ entries) = last_or entry.stamp entries

-- the clock by the journal: the last stamp since the cell entered its phase, or the clock with which it did
abbrev pub clock_by : Root → List EntryParts → ℕ
clock_by root journal = last_or root.core.value.clock (entries_since root journal)

-- no stamp is left: this one, which is the clock by the journal, is the last
abbrev pub IsWornBy : ℕ → Root → List EntryParts → Type 0
IsWornBy stamp root journal = (stamp ≡ last_stamp) × (clock_by root journal ≡ stamp)

-- HOW FAR A CELL IS once its workers are back: its journal has every command of its phase and those before, or a pass saw by it that no stamp is left
abbrev pub HasExecuted : CellParts → Type 0
HasExecuted cell = HasCommands cell.root.phase cell.root cell.journal
    ⊎ ((seen : List EntryParts) × IsPrefix seen cell.journal × IsWornBy last_stamp cell.root seen)
