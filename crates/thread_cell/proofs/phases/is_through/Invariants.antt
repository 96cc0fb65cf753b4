use Rattle.std.proofs.Common.{◌≡◌, ◌<◌, ℕ, suc, Some, slice_get}
use Rattle.net_model.specs.Parts.{ClientParts}
use Rattle.thread_cell.specs.Cell.{IsPast}
use Rattle.thread_cell.proofs.phases.is_through.Given as goal

abbrev pub invariant-loop-place : goal.invariant-loop-place
invariant-loop-place l = (place : ℕ) (client : ClientParts) → place < l.place → slice_get l.net.clients place ≡ Some client → client.home ≡ l.server → IsPast l.phase (suc place) l.core.clients
