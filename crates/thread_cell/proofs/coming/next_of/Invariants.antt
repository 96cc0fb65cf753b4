use Rattle.std.proofs.Common.{◌≡◌, ◌<◌, ℕ, suc, Some, slice_get}
use Rattle.net_model.specs.Parts.{ClientParts}
use Rattle.thread_cell.specs.Coming.{IsFrom, IsOfSome}
use Rattle.thread_cell.proofs.coming.next_of.Given as goal

abbrev pub invariant-loop-place : goal.invariant-loop-place
invariant-loop-place l =
    ((place : ℕ) (client : ClientParts) → place < l.place → slice_get l.net.clients place ≡ Some client → client.home ≡ l.server → IsFrom l.least (suc place) l.core.clients)
    × IsOfSome l.least l.core
