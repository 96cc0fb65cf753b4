use Rattle.std.proofs.Common.{◌≡◌, ℕ, length, slice_get, Some}
use Rattle.server_control.specs.Held.{held_in}
use Rattle.server_core.specs.Core.{CoreParts}
use Rattle.sequential_network.specs.declared.relinking.Standing.{Standing}
use Rattle.sequential_network.specs.Begin.{IsOnOtherLinks}
use Rattle.sequential_network.proofs.begin.all_moved.Given as goal

abbrev pub invariant-loop-i : goal.invariant-loop-i
invariant-loop-i l = record {
  long : length l.standings.items ≡ l.i;
  clock : (place : ℕ) (standing : Standing) → slice_get l.standings.items place ≡ Some standing → standing.clock ≡ l.clock;
  links : (place : ℕ) (links : _) (core : CoreParts) (standing : Standing) → slice_get l.held place ≡ Some links
      → slice_get l.places place ≡ Some core → slice_get l.standings.items place ≡ Some standing → IsOnOtherLinks (held_in links.items) core standing;
}
