use Rattle.std.proofs.Common.{◌≡◌, ℕ, suc, length, Some, slice_get}
use Rattle.sequential_network.proofs.network.places.Given as goal

abbrev pub invariant-loop-place : goal.invariant-loop-place
invariant-loop-place g l = (length l.places.items ≡ l.place) × ((place : ℕ) (core : _) → slice_get l.places.items place ≡ Some core → g.P.Ruled.ruling.IsFirst l.tables (suc place) core)
