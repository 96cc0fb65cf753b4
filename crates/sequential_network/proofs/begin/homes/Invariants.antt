use Rattle.std.proofs.Common.{◌≡◌, ℕ, length, slice_get, Some}
use Rattle.server_flow.specs.Homes.{NetHome}
use Rattle.server_core.specs.Core.{CoreParts}
use Rattle.sequential_network.specs.Begin.{RepresentsHome}
use Rattle.sequential_network.proofs.begin.homes.Given as goal

abbrev pub invariant-loop-place : goal.invariant-loop-place
invariant-loop-place l = record {
  long : length l.homes.items ≡ l.place-index;
  homes : (place : ℕ) (core : CoreParts) (home : NetHome) → slice_get l.places place ≡ Some core → slice_get l.homes.items place ≡ Some home → RepresentsHome core home;
}
