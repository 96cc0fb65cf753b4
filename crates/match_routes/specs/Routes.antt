-- Defines routes by numbers, and the pairs of interfaces and filters that the numbers represent.
use Rattle.std.specs.Prelude.{◌<◌, ◌↔◌, ℕ, List, [], length, map, slice_index_or}
use Rattle.std.specs.List.{Contains}
use Rattle.std.specs.List.Sorted.{IsStrictlyIncreasing}
use Rattle.base.specs.Sets.{Has}
use Rattle.filter_constraints.specs.Constraint.{ConstraintParts}
use Rattle.match_filters.specs.Table.{HeldFilter}
use Rattle.match_routes.specs.Installed.{Pair}

-- some of the numbers is installed from the interface
abbrev pub IsReached : List ℕ → List Pair → ℕ → Type 0
IsReached numbers pairs interface = (i : ℕ) × Has i numbers × Has (interface, i) pairs

-- the rising list of exactly the interfaces that have a pair with one of these numbers
pub record IsRouteBy (numbers : List ℕ) (pairs : List Pair) (interfaces : List ℕ) : Type 0 where
  pub rising : IsStrictlyIncreasing interfaces
  pub exact : (interface : ℕ) → Contains interfaces interface ↔ IsReached numbers pairs interface

-- each interface with the filter whose number is installed from it, where filters are numbered by their places
abbrev pub held_by : List (List ConstraintParts) → List Pair → List HeldFilter
held_by filters pairs = map (λ x. (x.0, slice_index_or filters x.1 [])) pairs

-- each number is that of a filter
abbrev pub AreNumbers : List (List ConstraintParts) → List Pair → Type 0
AreNumbers filters pairs = (x : Pair) → Has x pairs → x.1 < length filters
