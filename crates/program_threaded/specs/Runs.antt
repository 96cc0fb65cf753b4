-- Defines what a run with threads leaves.
use Rattle.std.specs.Prelude.{◌≡◌}
use Rattle.net_model.specs.Parts.{NetParts}
use Rattle.net_turns.specs.Network.{IsLegal, IsDrainedBy, refused_by, received_by}
use Rattle.net_journal.specs.declared.ran.Ran.{Ran}
use Rattle.program_sequential.specs.Runs.{IsByStamp}
use Rattle.net_model.specs.Nets.{of_clients}

-- THE RUN WITH THREADS: its journal, in the order of stamps and servers, is a legal run of the net with a drained end, and each client has what it has by then
pub record IsThreaded (net : NetParts) (ran : Ran) : Type 0 where
  pub legal : IsLegal net ran.journal.entries
  pub drained : IsDrainedBy net ran.journal.entries
  pub order : IsByStamp ran.journal.entries
  pub refused : ran.refused.items ≡ of_clients net (refused_by net ran.journal.entries)
  pub received : ran.received.items ≡ of_clients net (received_by net ran.journal.entries)
