-- Defines which word, name, kind or number is read at the front of bytes.
use Rattle.std.specs.Prelude.{◌==◌, ◌&&◌, ◌||◌, ◌++◌, ◌^◌, ℕ, ℤ, pos, negsuc, nat_le, nat_lt, Bool, List, [], ◌∷◌, Some, None, codes, if◌then◌else◌}
use Rattle.std.specs.declared.option.Option.{Option}
use Rattle.std.specs.Fmt.{decimal, signed_decimal}
use Rattle.std.specs.Str.{bytes_eq}
use Rattle.std.specs.Str.Parse.{digits_value, signed_digits_value}
use Rattle.filter_values.specs.Name.{is_name}
use Rattle.filter_values.specs.declared.value.Kind.{Kind}
use Rattle.filter_values.specs.declared.value.Kind.TheVariants as kinds
use Rattle.filter_text.specs.Reading.{◌>>=◌}

-- a byte that ends a word: a space, `;` or `}`
abbrev pub is_stop : ℕ → Bool
is_stop b = b == 32 || b == 59 || b == 125

-- the bytes up to the first that ends a word, behind those that were read, and what follows
unfoldable pub word_at : List ℕ → List ℕ → List ℕ × List ℕ
word_at read [] = (read, [])
word_at read (b ∷ rest) = if is_stop b then (read, b ∷ rest) else word_at (read ++ b ∷ []) rest

-- a sign, and what follows it
abbrev pub sign_at : ℕ → List ℕ → Option (Unit {0} × List ℕ)
sign_at sign [] = None
sign_at sign (b ∷ rest) = if b == sign then Some (tt, rest) else None

-- a space, and what follows it
abbrev pub space_at : List ℕ → Option (Unit {0} × List ℕ)
space_at bytes = sign_at 32 bytes

-- the kind of a word
abbrev pub kind_named : List ℕ → Option Kind
kind_named w =
    if bytes_eq w (codes "bool") then Some kinds.Bool
    else if bytes_eq w (codes "int") then Some kinds.Int
    else if bytes_eq w (codes "str") then Some kinds.Str
    else if bytes_eq w (codes "time") then Some kinds.Time
    else None

-- a word that is a name
abbrev pub when_name : List ℕ × List ℕ → Option (List ℕ × List ℕ)
when_name w = if is_name w.0 then Some w else None

-- a name in front, and what follows it
unfoldable pub name_at : List ℕ → Option (List ℕ × List ℕ)
name_at bytes = when_name (word_at [] bytes)

-- a kind in front, and what follows it
unfoldable pub kind_at : List ℕ → Option (Kind × List ℕ)
kind_at bytes = kind_named (word_at [] bytes).0 >>= λ k. Some (k, (word_at [] bytes).1)

-- a name, a space and a kind, and what follows them
unfoldable pub head_at : List ℕ → Option ((List ℕ × Kind) × List ℕ)
head_at bytes = name_at bytes >>= λ n. space_at n.1 >>= λ r. kind_at r.1 >>= λ k. Some ((n.0, k.0), k.1)

-- the number is an i64
abbrev pub fits_i64 : ℤ → Bool
fits_i64 (pos n) = nat_lt n (2 ^ 63)
fits_i64 (negsuc n) = nat_lt n (2 ^ 63)

-- the integer of which the bytes are the one text
unfoldable pub int_of : List ℕ → Option ℤ
int_of bytes =
    if fits_i64 (signed_digits_value 10 bytes) && bytes_eq (signed_decimal (signed_digits_value 10 bytes)) bytes
    then Some (signed_digits_value 10 bytes)
    else None

-- the seconds of which the bytes are the one text
unfoldable pub time_of : List ℕ → Option ℕ
time_of bytes =
    if nat_lt (digits_value 10 bytes) (2 ^ 64) && bytes_eq (decimal (digits_value 10 bytes)) bytes
    then Some (digits_value 10 bytes)
    else None

-- a number from 1 to the greatest
abbrev pub when_within : ℕ → ℤ → Option ℕ
when_within most (pos n) = if nat_lt 0 n && nat_le n most then Some n else None
when_within most (negsuc n) = None

-- a number from 1 to the greatest in front, and what follows it
unfoldable pub number_at : ℕ → List ℕ → Option (ℕ × List ℕ)
number_at most bytes = int_of (word_at [] bytes).0 >>= λ z. when_within most z >>= λ n. Some (n, (word_at [] bytes).1)
