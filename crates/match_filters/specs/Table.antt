-- Defines tables: which interface holds which filter, and where a notice goes.
use Rattle.std.specs.Prelude.{◌≡◌, ◌↔◌, ℕ, true, List}
use Rattle.std.specs.List.{Contains}
use Rattle.std.specs.List.Sorted.{IsStrictlyIncreasing}
use Rattle.filter_constraints.specs.Constraint.{ConstraintParts}
use Rattle.filter_types.specs.Notice.{Attribute}
use Rattle.filter_types.specs.Cover.{matches}

-- an interface with a filter that it holds
abbrev pub HeldFilter : Type 0
HeldFilter = ℕ × List ConstraintParts

-- some filter that the interface holds is matched
abbrev pub IsMatched : List Attribute → List HeldFilter → ℕ → Type 0
IsMatched n held iface = (filter : List ConstraintParts) × Contains held (iface, filter) × (matches n filter ≡ true)

-- the rising list of exactly the interfaces with a matching filter
pub record IsRouteOf (n : List Attribute) (held : List HeldFilter) (ifaces : List ℕ) : Type 0 where
  pub rising : IsStrictlyIncreasing ifaces
  pub exact : (iface : ℕ) → Contains ifaces iface ↔ IsMatched n held iface
