-- Defines which servers are neighbours, by a table of pairs.
use Rattle.std.specs.Prelude.{Bool, ℕ, ◌+◌, ◌*◌, ◌==◌, List, slice_index}

-- the pair is there
abbrev pub is_near : List ℕ → ℕ → ℕ → Bool
is_near pairs a b = slice_index pairs (65 * a + b) == 1
