-- Defines pairs kept as a row of numbers for each interface.
use Rattle.std.specs.Prelude.{◌≡◌, ℕ, nat_lt, List, [], ◌∷◌, ◌++◌, length}
use Rattle.base.specs.Sets.{IsRising}
use Rattle.base_bits.specs.Rows.{Numbers, IsSet}
use Rattle.match_routes.specs.Installed.{Pair, Installed}

-- the pairs of one interface
abbrev pub pairs_from : ℕ → List ℕ → List Pair
pairs_from interface [] = []
pairs_from interface (i ∷ numbers) = (interface, i) ∷ pairs_from interface numbers

-- the pairs of all interfaces, of which each has a row
abbrev pub pairs_of : List ℕ → List Numbers → List Pair
pairs_of [] rows = []
pairs_of (interface ∷ interfaces) [] = []
pairs_of (interface ∷ interfaces) (row ∷ rows) = pairs_from interface row.members ++ pairs_of interfaces rows

abbrev pub installed : ℕ → List ℕ → List Numbers → Installed
installed width interfaces rows = record { width = width; interfaces = interfaces; pairs = pairs_of interfaces rows }

-- each is a set of this width
abbrev pub AreSets : ℕ → List Numbers → Type 0
AreSets width [] = Unit {0}
AreSets width (row ∷ rows) = IsSet row × (row.width ≡ width) × AreSets width rows

-- the interfaces rise, and each has a row
pub record AreRows (width : ℕ) (interfaces : List ℕ) (rows : List Numbers) : Type 0 where
  pub rising : IsRising nat_lt interfaces
  pub long : length rows ≡ length interfaces
  pub sets : AreSets width rows

-- nothing is in any row
abbrev pub AreEmpty : List Numbers → Type 0
AreEmpty [] = Unit {0}
AreEmpty (row ∷ rows) = (row.members ≡ []) × AreEmpty rows
