-- A small theory: filters and advertisements are ranges of numbers, and a notice is a number.
use Rattle.std.specs.Prelude.{ℕ, suc, ◌==◌, nat_lt, nat_le, max, Bool, true, false, not, ◌&&◌, ◌||◌, Option, Some, None}
use Rattle.law_routing.specs.Theory.{Theory}

-- a range, as it is written: < n, = n, > n, >= n, or any
pub data Range : Type 0 where
  Below : (n : ℕ) → Range
  Equal : (n : ℕ) → Range
  Above : (n : ℕ) → Range
  AtLeast : (n : ℕ) → Range
  Any : Range

-- whether a number lies in a range
abbrev pub is_in : ℕ → Range → Bool
is_in x (Below n) = nat_lt x n
is_in x (Equal n) = x == n
is_in x (Above n) = nat_lt n x
is_in x (AtLeast n) = nat_le n x
is_in x Any = true

-- the least number that a range may have
abbrev pub first : Range → ℕ
first (Below n) = 0
first (Equal n) = n
first (Above n) = suc n
first (AtLeast n) = n
first Any = 0

-- the number after the greatest, if there is a greatest
abbrev pub past : Range → Option ℕ
past (Below n) = Some n
past (Equal n) = Some (suc n)
past (Above n) = None
past (AtLeast n) = None
past Any = None

-- whether a number is less than an end, if there is one
abbrev pub is_before : ℕ → Option ℕ → Bool
is_before x None = true
is_before x (Some end) = nat_lt x end

-- whether one end is no later than another
abbrev pub ends_by : Option ℕ → Option ℕ → Bool
ends_by one None = true
ends_by None (Some end) = false
ends_by (Some one) (Some end) = nat_le one end

-- f covers g: g has no number, or begins no earlier and ends no later
abbrev pub covers : Range → Range → Bool
covers f g = not (is_before (first g) (past g)) || (nat_le (first f) (first g) && ends_by (past g) (past f))

-- the ranges have a number in common
abbrev pub meets : Range → Range → Bool
meets f g = is_before (max (first f) (first g)) (past f) && is_before (max (first f) (first g)) (past g)

-- the place of an operator in the canonical order
abbrev pub rank : Range → ℕ
rank (Below n) = 0
rank (Equal n) = 1
rank (Above n) = 2
rank (AtLeast n) = 3
rank Any = 4

-- the number that a range is written with
abbrev pub operand : Range → ℕ
operand (Below n) = n
operand (Equal n) = n
operand (Above n) = n
operand (AtLeast n) = n
operand Any = 0

-- the canonical order: by operator, then by operand
abbrev pub before : Range → Range → Bool
before f g = nat_lt (rank f) (rank g) || ((rank f == rank g) && nat_lt (operand f) (operand g))

abbrev pub ranges : Theory
ranges = record {
  Filter = Range;
  Advert = Range;
  Notice = ℕ;
  covers = covers;
  before = before;
  covers_advert = covers;
  before_advert = before;
  matches = λ notice f. is_in notice f;
  allows = λ a notice. is_in notice a;
  overlaps = meets;
}
