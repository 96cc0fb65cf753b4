-- Defines changes that were handed to a publisher before others, and what mends them.
use Rattle.std.specs.Prelude.{◌≡◌, ◌↔◌, ◌<◌, ℕ, List, length, slice_get, Some}
use Rattle.base.specs.Sets.{Has}
use Rattle.filter_constraints.specs.Constraint.{ConstraintParts}
use Rattle.match_routes.specs.declared.table_change.TableChange.{TableChange}
use Rattle.match_routes.specs.declared.table_change.TableChange.TheVariants.{Put, Take}
use Rattle.match_routes.specs.Installed.{Pair, pair_in, all_changed}
use Rattle.net_tables.specs.Known.{known_filters}
use Rattle.server_spec.specs.Control.{subs}
use Rattle.server_core.specs.Core.{CoreParts}

-- one of the changes touches the pair of this one
abbrev pub IsTouched : List TableChange → TableChange → Type 0
IsTouched changes change = (other : TableChange) × Has other changes × (pair_in change ≡ pair_in other)

-- and of each of these
abbrev pub AreTouched : List TableChange → List TableChange → Type 0
AreTouched changes these = (change : TableChange) → Has change these → IsTouched changes change

-- the numbers of the changes are those of the core's filters
abbrev pub AreNumbered : CoreParts → List TableChange → Type 0
AreNumbered core changes = (change : TableChange) → Has change changes → (pair_in change).1 < length (known_filters core.net.clients)

-- a change puts what the core holds, or takes away what it doesn't hold
abbrev pub IsOfHeld : CoreParts → TableChange → Type 0
IsOfHeld core (Put number interface) = (f : List ConstraintParts) → slice_get (known_filters core.net.clients) number ≡ Some f → Has f (subs core.control interface)
IsOfHeld core (Take number interface) = (f : List ConstraintParts) → slice_get (known_filters core.net.clients) number ≡ Some f → Has f (subs core.control interface) → ⊥

-- whatever was there before: where one of the changes touches a pair, it is there after them exactly if the core holds its filter
abbrev pub AreMended : CoreParts → List TableChange → Type 0
AreMended core changes = (pairs : List Pair) (interface number : ℕ) (f : List ConstraintParts) (change : TableChange) → slice_get (known_filters core.net.clients) number ≡ Some f
    → Has change changes → (interface, number) ≡ pair_in change → Has (interface, number) (all_changed changes pairs) ↔ Has f (subs core.control interface)
