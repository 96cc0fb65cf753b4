-- Counts of the directions between servers, which are numbered up to 64.
use Rattle.std.specs.Prelude.{◌≡◌, ℕ, ◌+◌, ◌*◌, ◌^◌, ◌≤◌, ◌<◌, ◌==◌, ◌&&◌, Bool, List, slice_index, length}

-- the place of a direction among all
abbrev pub place_of : ℕ → ℕ → ℕ
place_of from to = from * 65 + to

-- the count of a direction
abbrev pub count_at : List ℕ → ℕ → ℕ → ℕ
count_at cells from to = slice_index cells (place_of from to)

-- whether a direction is this one
abbrev pub is_direction : ℕ → ℕ → ℕ → ℕ → Bool
is_direction a b from to = (a == from) && (b == to)

-- of a direction so many more are counted, if the count is then below 2 ^ 32
abbrev pub IsRaised : List ℕ → List ℕ → ℕ → ℕ → ℕ → Type 0
IsRaised old new from to more = from ≤ 64 → to ≤ 64 → count_at old from to + more < 2 ^ 32 → count_at new from to ≡ count_at old from to + more

-- of each direction the count is this quantity, if it is below 2 ^ 32
abbrev pub AreCounts : List ℕ → (ℕ → ℕ → ℕ) → Type 0
AreCounts cells quantity = (from to : ℕ) → from ≤ 64 → to ≤ 64 → quantity from to < 2 ^ 32 → count_at cells from to ≡ quantity from to

-- contracts see counts as the list of them, of which there are as many as directions
abbrev pub HasAllPlaces : List ℕ → Type 0
HasAllPlaces cells = length cells ≡ 4225
