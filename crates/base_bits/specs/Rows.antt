-- What contracts see of a row: a set of numbers below its width.
use Rattle.std.specs.Prelude.{◌≡◌, ℕ, ◌+◌, ◌/◌, ◌^◌, ◌<◌, nat_lt, Bool, List, length, filter, refl}
use Rattle.std.specs.Coded.{Coded, code_by, coded×, coded_ℕ, coded_list}
use Rattle.base.specs.Sets.{Has, member, IsRising}
use Rattle.base_bits.specs.Words.{bit}

-- a set of numbers below the width, as the list of its members that rises
pub record Numbers : Type 0 where
  pub width : ℕ
  pub members : List ℕ

abbrev pub numbers_code : Coded Numbers
numbers_code = code_by (ℕ × List ℕ) (coded× coded_ℕ (coded_list coded_ℕ)) (λ s. (s.width, s.members)) (λ p. record { width = p.0; members = p.1 }) (λ _. refl)

-- whether a number is a member
abbrev pub is_in : ℕ → List ℕ → Bool
is_in i xs = member nat_lt i xs

-- the set rises, its members are below the width, and the width fits 32 bits
pub record IsSet (s : Numbers) : Type 0 where
  pub rising : IsRising nat_lt s.members
  pub within : (i : ℕ) → Has i s.members → i < s.width
  pub fits : s.width < 2 ^ 32

-- as many words as the width asks for, with no bit from the width on
pub record IsKept (words : List ℕ) (width : ℕ) : Type 0 where
  pub long : length words ≡ (width + 63) / 64
  pub fits : width < 2 ^ 32
  pub within : (i : ℕ) → bit words i ≡ 1 → i < width

-- the members of one list that another one has too
abbrev pub common : List ℕ → List ℕ → List ℕ
common xs ys = filter (λ i. is_in i ys) xs
