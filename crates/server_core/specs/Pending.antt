-- What was pending since the last table update: the changes of numbers that were made, in their order.
use Rattle.std.specs.Prelude.{◌≡◌, ◌↔◌, ◌<◌, ℕ, Bool, true, false, List, [], ◌∷◌, length, slice_get, Some}
use Rattle.filter_constraints.specs.Constraint.{ConstraintParts}
use Rattle.base.specs.Sets.{Has}
use Rattle.filter_text.specs.Messages.{Lists}
use Rattle.match_routes.specs.Installed.{Pair, pair_in, all_changed}
use Rattle.match_routes.specs.declared.table_change.TableChange.{TableChange}

-- whether there is a member
abbrev pub is_some_there : {T : Type 0} → List T → Bool
is_some_there [] = false
is_some_there (x ∷ xs) = true

-- pairs of an interface and a number are those of the items that interfaces have
abbrev pub RepresentPairs : Lists → (ℕ → Lists) → List Pair → Type 0
RepresentPairs items held pairs = (i k : ℕ) (x : List ConstraintParts) → slice_get items k ≡ Some x → Has (i, k) pairs ↔ Has x (held i)

-- THE CHANGES turn what was installed into what is held, and are of numbers of items
pub record IsPending (items : Lists) (interfaces : List ℕ) (installed held : ℕ → Lists) (pending : List TableChange) : Type 0 where
  pub turned : (pairs : List Pair) → RepresentPairs items installed pairs → RepresentPairs items held (all_changed pending pairs)
  pub numbers : (change : TableChange) → Has change pending → (pair_in change).1 < length items
  pub interfaces_known : (change : TableChange) → Has change pending → Has (pair_in change).0 interfaces
