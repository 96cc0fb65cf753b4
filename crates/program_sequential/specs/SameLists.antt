-- Defines when two lists of clients are printed alike.
use Rattle.std.specs.Prelude.{◌≡◌, ℕ, Bool}
use Rattle.net_model.specs.Parts.{NetParts}
use Rattle.output_report.specs.Deliveries.{ordered}
use Rattle.program_sequential.specs.Promise.{ClientLists}
use Rattle.program_sequential.specs.Runs.{IsClient}

-- each client of the net has the same refused publishes by both, and the same deliveries in the order in which they are printed
abbrev pub GiveSame : Bool → NetParts → ClientLists → ClientLists → Type 0
GiveSame sorted net lists others = (client : ℕ) → IsClient net client
    → (lists.refused client ≡ others.refused client) × (ordered sorted (lists.received client) ≡ ordered sorted (others.received client))
