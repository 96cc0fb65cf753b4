use Rattle.std.proofs.Common.{◌≡◌, ◌==◌, filter}
use Rattle.std.specs.List.{range_with_len}
use Rattle.net_model.specs.Nets.{home_of}
use Rattle.sequential_network.proofs.network.clients_at.Given as goal

abbrev pub invariant-loop-place : goal.invariant-loop-place
invariant-loop-place l = l.clients.items ≡ filter (λ c. home_of l.net c == l.server) (range_with_len 1 l.place)
