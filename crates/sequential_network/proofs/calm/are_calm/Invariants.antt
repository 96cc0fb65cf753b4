use Rattle.std.proofs.Common.{◌≡◌, ◌<◌, ℕ, true}
use Rattle.sequential_network.specs.Seen.{calm_at}
use Rattle.sequential_network.proofs.calm.are_calm.Given as goal

abbrev pub invariant-loop-i : goal.invariant-loop-i
invariant-loop-i g l = (k : ℕ) → k < l.i → calm_at g.P.Server.stepping l.places k ≡ true
