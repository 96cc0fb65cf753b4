-- What the limits of a net make of its runs.
use Rattle.std.specs.Prelude.{ℕ, ◌<◌, length}
use Rattle.base.specs.Sets.{Has}
use Rattle.law_machine.specs.Machine.{Stamped}
use Rattle.law_routing.specs.Server.{Message}
use Rattle.law_phases.specs.Trees.{JournalEntry}
use Rattle.law_phases.specs.Runs.{PhasedRun}
use Rattle.net_model.specs.Real.{real}

-- a run has fewer than a thousand million entries, and no stamp of an entry, no clock at the end and no stamp on a link is as great
pub record StaysLow (run : PhasedRun real) : Type 0 where
  pub entries : length run.journal < 1000000000
  pub stamps : (entry : JournalEntry) → Has entry run.journal → entry.stamp < 1000000000
  pub clocks : (server : ℕ) → run.end.clock server < 1000000000
  pub puts : (from to : ℕ) (message : Stamped (Message real)) → Has message (run.end.put from to) → message.stamp < 1000000000
