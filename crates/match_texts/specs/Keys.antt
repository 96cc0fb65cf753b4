-- Defines the first bytes of a text as one number, which orders texts where they differ there.
use Rattle.std.specs.Prelude.{ℕ, zero, suc, ◌+◌, ◌*◌, List, slice_index_or}

-- the first bytes as the digits of a number, and 0 for each byte that isn't there
abbrev pub number_of : ℕ → List ℕ → ℕ
number_of zero x = 0
number_of (suc i) x = number_of i x * 256 + slice_index_or x i 0

-- that of the first eight
unfoldable pub head_of : List ℕ → ℕ
head_of x = number_of 8 x
