-- How many entries a run over trees can have.
use Rattle.std.specs.Prelude.{◌≡◌, ℕ, ◌+◌, ◌*◌, ◌-◌, ◌≤◌, Bool, true, false, List, length}
use Rattle.base.specs.Sets.{Has}
use Rattle.base.specs.Numbers.{sum_over, count}
use Rattle.law_machine.specs.Machine.{Act, Did, Received, Stamped}
use Rattle.law_routing.specs.Theory.{Theory}
use Rattle.law_routing.specs.Server.{Message}
use Rattle.law_routing.specs.Step.{Task, NextCommand, TableUpdate}
use Rattle.law_routing.specs.Routing.{all_commands}
use Rattle.law_phases.specs.Trees.{JournalEntry, net_at}
use Rattle.law_phases.specs.Runs.{PhasedRun}

-- whether an act is a reception
abbrev pub is_reception : Act Task → Bool
is_reception (Did task) = false
is_reception (Received from) = true

-- whether it is a table update
abbrev pub is_update : Act Task → Bool
is_update (Did (NextCommand client)) = false
is_update (Did TableUpdate) = true
is_update (Received from) = false

-- whether it is a command
abbrev pub is_command : Act Task → Bool
is_command (Did (NextCommand client)) = true
is_command (Did TableUpdate) = false
is_command (Received from) = false

-- how many entries of a journal are receptions
abbrev pub receptions_in : List JournalEntry → ℕ
receptions_in entries = sum_over (λ entry. count (is_reception entry.act)) entries

-- how many are table updates
abbrev pub updates_in : List JournalEntry → ℕ
updates_in entries = sum_over (λ entry. count (is_update entry.act)) entries

-- how many are commands
abbrev pub commands_in : List JournalEntry → ℕ
commands_in entries = sum_over (λ entry. count (is_command entry.act)) entries

module _ (theory : Theory) (run : PhasedRun theory) where
  -- how many commands the scripts have
  abbrev pub commands_of : ℕ
  commands_of = all_commands theory (net_at theory run.net 0)

  -- receptions, table updates and entries are bounded by the commands executed and the servers, the commands executed by those of the scripts,
  -- and the stamps by the entries
  pub record KeepsBounds : Type 0 where
    pub receptions : receptions_in run.journal ≤ commands_in run.journal * (length run.net.servers * length run.net.servers)
    -- under subscription semantics a command leads to at most one reception at each other server
    pub fewer : run.net.adverts ≡ false → receptions_in run.journal ≤ commands_in run.journal * (length run.net.servers - 1)
    pub updates : updates_in run.journal ≤ receptions_in run.journal + commands_in run.journal
    pub entries : length run.journal ≤ 2 * (commands_in run.journal * (length run.net.servers * length run.net.servers + 1))
    pub commands : commands_in run.journal ≤ commands_of
    pub within : length run.journal ≤ 2 * (commands_of * (length run.net.servers * length run.net.servers + 1))
    pub stamps : (entry : JournalEntry) → Has entry run.journal → entry.stamp ≤ length run.journal
    -- no clock at the end and no message on a link has a higher stamp
    pub clocks : (server : ℕ) → run.end.clock server ≤ length run.journal
    pub puts : (from to : ℕ) (message : Stamped (Message theory)) → Has message (run.end.put from to) → message.stamp ≤ length run.journal
