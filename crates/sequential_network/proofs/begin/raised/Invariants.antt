use Rattle.std.proofs.Common.{◌≡◌, ℕ, length, slice_get, Some, None}
use Rattle.sequential_network.specs.declared.relinking.Standing.{Standing}
use Rattle.sequential_network.proofs.begin.raised.Given as goal

abbrev pub invariant-loop : goal.invariant-loop
invariant-loop l = record {
  long : length l.standings.items ≡ l.index;
  raised : (place : ℕ) (standing : Standing) → slice_get l.standings.items place ≡ Some standing → (standing.clock ≡ l.clock) × (standing.links ≡ None);
}
