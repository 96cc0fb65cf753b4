use Rattle.std.proofs.Common.{◌≡◌, ℕ, suc, List, length, slice_get, Some}
use Rattle.net_model.specs.Nets.{clients_of}
use Rattle.sequential_network.proofs.network.all_clients.Given as goal

abbrev pub invariant-loop-place : goal.invariant-loop-place
invariant-loop-place l = (length l.clients.items ≡ l.place) × ((place : ℕ) (list : List ℕ) → slice_get l.clients.items place ≡ Some list → list ≡ clients_of l.net (suc place))
