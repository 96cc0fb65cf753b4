-- Defines marks: where the pairs and fours of neighbouring bytes of a text fall among so many places.
use Rattle.std.specs.Prelude.{◌≡◌, ◌+◌, ◌*◌, ◌%◌, ℕ, List, [], ◌∷◌, length, nat_lt, if◌then◌else◌}
use Rattle.match_index.specs.Pairs.{IsIn}
use Rattle.base_bits.specs.Words.{bit}
use Rattle.match_index.specs.Heads.{last_bytes}

-- the place of two bytes
abbrev pub pair : ℕ → ℕ → ℕ
pair a b = 64 * (a % 64) + b % 64

-- the place of four bytes, behind those of two
abbrev pub four : ℕ → ℕ → ℕ → ℕ → ℕ
four a b c d = 4096 + (a + 37 * b + 331 * c + 2741 * d) % 4096

-- the place of the first four bytes, of the first two where there are no more than three, or that of all that is shorter
abbrev pub first_mark : List ℕ → ℕ
first_mark [] = 8192
first_mark (a ∷ []) = 8192
first_mark (a ∷ b ∷ []) = pair a b
first_mark (a ∷ b ∷ c ∷ []) = pair a b
first_mark (a ∷ b ∷ c ∷ d ∷ x) = four a b c d

-- the place of the first two bytes
abbrev pub first_pair : List ℕ → ℕ
first_pair [] = 8192
first_pair (a ∷ []) = 8192
first_pair (a ∷ b ∷ x) = pair a b

-- so many bytes tell the end of a text
abbrev pub end_size : List ℕ → ℕ
end_size u = if nat_lt (length u) 4 then 2 else 4

-- the place of the last four bytes, or of the last two where there are no more than three
abbrev pub last_mark : List ℕ → ℕ
last_mark u = first_mark (last_bytes (end_size u) u)

-- the place of the last two bytes
abbrev pub last_pair : List ℕ → ℕ
last_pair u = first_pair (last_bytes 2 u)

-- the places of all pairs and fours of a text
abbrev pub slots : List ℕ → List ℕ
slots [] = 8192 ∷ []
slots (a ∷ x) = first_mark (a ∷ x) ∷ first_pair (a ∷ x) ∷ slots x

-- each place of a text is marked
abbrev pub AreMarked : List ℕ → List ℕ → Type 0
AreMarked words x = (k : ℕ) → IsIn k (slots x) → bit words k ≡ 1
