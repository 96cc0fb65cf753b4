-- What the limits of a net make of the runs of its hierarchy.
use Rattle.std.specs.Prelude.{ℕ, ◌<◌, List, length}
use Rattle.base.specs.Sets.{Has}
use Rattle.law_machine.specs.Machine.{Stamped}
use Rattle.law_routing.specs.Server.{Message}
use Rattle.net_model.specs.Real.{real}
use Rattle.net_model.specs.Parts.{NetParts, EntryParts}
use Rattle.hierarchy_turns.specs.Network.{moment_by}

-- a run has fewer than a thousand million entries, and no clock at its end and no stamp on a link is as great
pub record StaysLow (net : NetParts) (journal : List EntryParts) : Type 0 where
  pub entries : length journal < 1000000000
  pub clocks : (server : ℕ) → (moment_by net journal).network.clock server < 1000000000
  pub puts : (from to : ℕ) (message : Stamped (Message real)) → Has message ((moment_by net journal).network.put from to)
      → message.stamp < 1000000000
