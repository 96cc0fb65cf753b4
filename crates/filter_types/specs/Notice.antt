-- Defines notices: attributes, each a name with a value, by rising names.
use Rattle.std.specs.Prelude.{Bool, true, false, MatchOption, ◌&&◌, nat_lt, nat_le, ◌<◌, ◌≤◌, length, ℕ, List, [], ◌∷◌, find, ◌≡◌, ◌+◌}
use Rattle.std.specs.Prelude.{◌++◌, Some, None, if◌then◌else◌}
use Rattle.std.specs.declared.option.Option.{Option}
use Rattle.std.specs.Str.{bytes_eq}
use Rattle.std.specs.List.{list_any}
use Rattle.std.specs.Ordering.{nat_cmp, is_lt}
use Rattle.std.specs.Cmp.Lexicographic.{slice_cmp}
use Rattle.std.specs.declared.cmp.Ordering.TheVariants.{Less}
use Rattle.filter_values.specs.Name.{IsName}
use Rattle.filter_values.specs.Value.{IsValue}
use Rattle.filter_values.specs.declared.value.Value.{Value}

-- a name with its value
abbrev pub Attribute : Type 0
Attribute = List ℕ × Value

-- the attribute of that name
abbrev pub attribute_at : List Attribute → List ℕ → Option Attribute
attribute_at n name = find (λ a. bytes_eq a.0 name) n

-- each is well formed: a name is one, an integer is an i64, a text is one
abbrev pub AreNames : List Attribute → Type 0
AreNames [] = Unit {0}
AreNames (a ∷ rest) = IsName a.0 × AreNames rest

abbrev pub AreValues : List Attribute → Type 0
AreValues [] = Unit {0}
AreValues (a ∷ rest) = IsValue a.1 × AreValues rest

-- some attribute has the name
abbrev pub has_name : List Attribute → List ℕ → Bool
has_name seen name = list_any (λ b. bytes_eq b.0 name) seen

-- the least place, counted on from i, whose name stood earlier or among those seen
abbrev pub twice_from : List Attribute → ℕ → List Attribute → Option ℕ
twice_from seen i [] = None
twice_from seen i (a ∷ rest) = if has_name seen a.0 then Some i else twice_from (seen ++ a ∷ []) (i + 1) rest

-- the least place whose name stood earlier
unfoldable pub first_twice : List Attribute → Option ℕ
first_twice attributes = twice_from [] 0 attributes

-- each name stands before the next, by bytes
abbrev pub AreRising : List Attribute → Type 0
AreRising [] = Unit {0}
AreRising (a ∷ []) = Unit {0}
AreRising (a ∷ b ∷ rest) = (slice_cmp nat_cmp a.0 b.0 ≡ Less) × AreRising (b ∷ rest)

-- what every notice is: 1 to 64 well-formed attributes by strictly rising names
pub record IsNotice (n : List Attribute) : Type 0 where
  pub some : 0 < length n
  pub few : length n ≤ 64
  pub rising : AreRising n
  pub names : AreNames n
  pub values : AreValues n

-- the same of the number and the order of the attributes, as tests
abbrev pub is_name_less : Attribute → Attribute → Bool
is_name_less a b = is_lt (slice_cmp nat_cmp a.0 b.0)

abbrev pub are_rising : List Attribute → Bool
are_rising [] = true
are_rising (a ∷ []) = true
are_rising (a ∷ b ∷ rest) = is_name_less a b && are_rising (b ∷ rest)

-- 1 to 64 attributes, names strictly rising
unfoldable pub is_notice : List Attribute → Bool
is_notice n = nat_lt 0 (length n) && (nat_le (length n) 64 && are_rising n)

-- the answer is the list itself where it is such a list, and none where it isn't
abbrev pub IsNoticeAnswer : List Attribute → Option (List Attribute) → Type 0
IsNoticeAnswer given answer = MatchOption answer (is_notice given ≡ false) (λ n. (n ≡ given) × (is_notice given ≡ true))
