-- Defines which words and numbers the words of a line give.
use Rattle.std.specs.Prelude.{ℕ, List, [], ◌∷◌, ◌&&◌, nat_lt, nat_le, length, if◌then◌else◌, Option, Some, None}
use Rattle.std.specs.Option.{option_and_then, option_zip}
use Rattle.filter_values.specs.Name.{is_name}
use Rattle.document_script.specs.Form.{number_of_digits}

-- a number: 1 to 10 digits
unfoldable pub number : List ℕ → Option ℕ
number w = if nat_lt 0 (length w) && nat_le (length w) 10 then number_of_digits w else None

-- the one word, the two words that there are
abbrev pub one : List (List ℕ) → Option (List ℕ)
one [] = None
one (a ∷ []) = Some a
one (a ∷ b ∷ ws) = None

abbrev pub two : List (List ℕ) → Option (List ℕ × List ℕ)
two [] = None
two (a ∷ []) = None
two (a ∷ b ∷ []) = Some (a, b)
two (a ∷ b ∷ c ∷ ws) = None

-- the one number, the two numbers that there are
unfoldable pub one_number : List (List ℕ) → Option ℕ
one_number ws = option_and_then number (one ws)

unfoldable pub two_numbers : List (List ℕ) → Option (ℕ × ℕ)
two_numbers ws = option_and_then (λ p. option_zip (number p.0) (number p.1)) (two ws)

-- a name and a number
unfoldable pub name_and_number : List (List ℕ) → Option (List ℕ × ℕ)
name_and_number ws = option_and_then (λ p. if is_name p.0 then option_zip (Some p.0) (number p.1) else None) (two ws)

-- one name
unfoldable pub one_name : List (List ℕ) → Option (List ℕ)
one_name ws = option_and_then (λ w. if is_name w then Some w else None) (one ws)
