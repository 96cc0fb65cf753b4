-- Defines pairs kept as a row of places for each number: from which of the interfaces it is installed.
use Rattle.std.specs.Prelude.{◌≡◌, ◌<◌, ◌^◌, ℕ, suc, nat_lt, cond, List, [], ◌∷◌, length}
use Rattle.base.specs.Sets.{Has, IsRising}
use Rattle.base_bits.specs.Rows.{Numbers, is_in}
use Rattle.base_bits.specs.Grid.{row_of}
use Rattle.match_routes.specs.Installed.{Installed}
use Rattle.match_routes.specs.Rows.{installed, AreSets}

-- the numbers, counted on from i, that have a place in their row
abbrev pub numbers_at : ℕ → ℕ → List Numbers → List ℕ
numbers_at place i [] = []
numbers_at place i (column ∷ columns) = cond (is_in place column.members) (i ∷ numbers_at place (suc i) columns) (numbers_at place (suc i) columns)

-- the row of the interface at a place
abbrev pub row_at : ℕ → List Numbers → Numbers
row_at place columns = record { width = length columns; members = numbers_at place 0 columns }

-- the rows of the interfaces, whose places are counted on from one
abbrev pub rows_from : ℕ → List ℕ → List Numbers → List Numbers
rows_from place [] columns = []
rows_from place (interface ∷ interfaces) columns = row_at place columns ∷ rows_from (suc place) interfaces columns

abbrev pub installed_by : ℕ → List ℕ → List Numbers → Installed
installed_by width interfaces columns = installed width interfaces (rows_from 0 interfaces columns)

-- the interfaces rise, and each number has a row of places
pub record AreColumns (width : ℕ) (interfaces : List ℕ) (columns : List Numbers) : Type 0 where
  pub rising : IsRising nat_lt interfaces
  pub long : length columns ≡ width
  pub fits : width < 2 ^ 32
  pub few : length interfaces < 2 ^ 32
  pub sets : AreSets (length interfaces) columns

-- each number whose row has a place is among those that are present
pub record ArePresent (width : ℕ) (present : Numbers) (columns : List Numbers) : Type 0 where
  pub wide : present.width ≡ width
  pub each : (i place : ℕ) → Has place (row_of columns i).members → Has i present.members
