-- Defines what a server forwards by: pairs of an interface and a filter's number.
use Rattle.std.specs.Prelude.{◌≡◌, ℕ, ◌<◌, ◌==◌, ◌&&◌, ◌||◌, nat_lt, Bool, List, [], ◌∷◌}
use Rattle.base.specs.Sets.{Has, IsRising, put_in, minus}
use Rattle.match_routes.specs.declared.table_change.TableChange.{TableChange}
use Rattle.match_routes.specs.declared.table_change.TableChange.TheVariants.{Put, Take}

-- an interface with a number that is installed from it
abbrev pub Pair : Type 0
Pair = ℕ × ℕ

-- the order of pairs: by the interface, then by the number
abbrev pub pair_before : Pair → Pair → Bool
pair_before x y = nat_lt x.0 y.0 || ((x.0 == y.0) && nat_lt x.1 y.1)

-- numbers are below the width; the interfaces, rising; the set of pairs, as the list of them that rises
pub record Installed : Type 0 where
  pub width : ℕ
  pub interfaces : List ℕ
  pub pairs : List Pair

-- the interface is one of the server's, and the number is below the width
pub record IsKnown (p : Installed) (x : Pair) : Type 0 where
  pub interface : Has x.0 p.interfaces
  pub number : x.1 < p.width

-- the lists rise, and each pair is known
pub record IsInstalled (p : Installed) : Type 0 where
  pub interfaces : IsRising nat_lt p.interfaces
  pub pairs : IsRising pair_before p.pairs
  pub known : (x : Pair) → Has x p.pairs → IsKnown p x

-- the same width and interfaces
pub record IsOfSame (p q : Installed) : Type 0 where
  pub width : p.width ≡ q.width
  pub interfaces : p.interfaces ≡ q.interfaces

-- the pair of a change
abbrev pub pair_in : TableChange → Pair
pair_in (Put number interface) = (interface, number)
pair_in (Take number interface) = (interface, number)

-- what a change makes of a set of pairs
abbrev pub changed : TableChange → List Pair → List Pair
changed (Put number interface) pairs = put_in pair_before (interface, number) pairs
changed (Take number interface) pairs = minus pair_before pairs ((interface, number) ∷ [])

-- what changes make of a set of pairs, one after the other
abbrev pub all_changed : List TableChange → List Pair → List Pair
all_changed [] pairs = pairs
all_changed (change ∷ rest) pairs = all_changed rest (changed change pairs)

-- the pair of each change is known
abbrev pub AreKnown : Installed → List TableChange → Type 0
AreKnown p [] = Unit {0}
AreKnown p (change ∷ rest) = IsKnown p (pair_in change) × AreKnown p rest
