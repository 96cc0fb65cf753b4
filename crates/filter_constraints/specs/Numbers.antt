-- Defines constraints on a number from a least to a greatest one, for any kind of numbers.
use Rattle.std.specs.Prelude.{◌≡◌, ℤ, pos, ◌+ℤ◌, ◌-ℤ◌, ◌≤ℤ◌, ◌<ℤ◌, Bool, true, false, not, int_lt, if◌then◌else◌, ◌||◌}
use Rattle.std.specs.Ordering.{int_eq}
use Rattle.filter_constraints.specs.declared.op.Op.{Op}
use Rattle.filter_constraints.specs.declared.op.Op.TheVariants as ops

-- x is at most y
abbrev pub int_le : ℤ → ℤ → Bool
int_le x y = not (int_lt y x)

-- the normal forms, each with its operand
pub data Numbers : Type 0 where
  empty : Numbers
  all : Numbers
  equal : ℤ → Numbers
  unequal : ℤ → Numbers
  at_most : ℤ → Numbers
  at_least : ℤ → Numbers

-- a number x meets the normal form
abbrev pub number_allows : Numbers → ℤ → Bool
number_allows empty x = false
number_allows all x = true
number_allows (equal u) x = int_eq x u
number_allows (unequal u) x = not (int_eq x u)
number_allows (at_most u) x = int_le x u
number_allows (at_least u) x = int_le u x

-- the covering table: the covering form with the operand u, then the covered one with v
abbrev pub number_covers : Numbers → Numbers → Bool
number_covers all m = true
number_covers k empty = true
number_covers (equal u) (equal v) = int_eq u v
number_covers (unequal u) (equal v) = not (int_eq u v)
number_covers (unequal u) (unequal v) = int_eq u v
number_covers (unequal u) (at_most v) = int_lt v u
number_covers (unequal u) (at_least v) = int_lt u v
number_covers (at_most u) (equal v) = int_le v u
number_covers (at_most u) (at_most v) = int_le v u
number_covers (at_least u) (equal v) = int_le u v
number_covers (at_least u) (at_least v) = int_le u v
number_covers k m = false

-- the table of pairs that no number meets both, in one order of the two
abbrev pub number_conflicts : Numbers → Numbers → Bool
number_conflicts empty m = true
number_conflicts (equal u) (equal v) = not (int_eq u v)
number_conflicts (equal u) (unequal v) = int_eq u v
number_conflicts (equal u) (at_most v) = int_lt v u
number_conflicts (equal u) (at_least v) = int_lt u v
number_conflicts (at_most u) (at_least v) = int_lt u v
number_conflicts k m = false

-- two forms are compatible unless the table has them, in either order
abbrev pub number_compatible : Numbers → Numbers → Bool
number_compatible k m = not (number_conflicts k m || number_conflicts m k)

-- x lies in the range
pub record IsWithin (least greatest x : ℤ) : Type 0 where
  pub low : least ≤ℤ x
  pub high : x ≤ℤ greatest

-- x lies in the range and is neither of its ends
pub record IsStrictlyWithin (least greatest x : ℤ) : Type 0 where
  pub low : least <ℤ x
  pub high : x <ℤ greatest

-- the range has at least three numbers
abbrev pub IsWide : ℤ → ℤ → Type 0
IsWide least greatest = (least +ℤ pos 1) <ℤ greatest

-- the form is the normal form of some constraint on a number of the range
abbrev pub IsNumberForm : ℤ → ℤ → Numbers → Type 0
IsNumberForm least greatest empty = Unit {0}
IsNumberForm least greatest all = Unit {0}
IsNumberForm least greatest (equal u) = IsWithin least greatest u
IsNumberForm least greatest (unequal u) = IsStrictlyWithin least greatest u
IsNumberForm least greatest (at_most u) = IsStrictlyWithin least greatest u
IsNumberForm least greatest (at_least u) = IsStrictlyWithin least greatest u

-- the number x satisfies the operator with the operand u
abbrev pub number_satisfies : Op → ℤ → ℤ → Bool
number_satisfies ops.Any x u = true
number_satisfies ops.Eq x u = int_eq x u
number_satisfies ops.Ne x u = not (int_eq x u)
number_satisfies ops.Lt x u = int_lt x u
number_satisfies ops.Le x u = int_le x u
number_satisfies ops.Gt x u = int_lt u x
number_satisfies ops.Ge x u = int_le u x
number_satisfies ops.Contains x u = false
number_satisfies ops.Prefix x u = false
number_satisfies ops.Suffix x u = false

-- the normal form of an operator with its operand, on numbers from least to greatest
abbrev pub number_form : ℤ → ℤ → Op → ℤ → Numbers
number_form least greatest ops.Any u = all
number_form least greatest ops.Eq u = equal u
number_form least greatest ops.Ne u =
    if int_eq u least then at_least (least +ℤ pos 1)
    else if int_eq u greatest then at_most (greatest -ℤ pos 1)
    else unequal u
number_form least greatest ops.Le u =
    if int_eq u greatest then all
    else if int_eq u least then equal least
    else at_most u
number_form least greatest ops.Lt u =
    if int_eq u least then empty
    else if int_eq u (least +ℤ pos 1) then equal least
    else at_most (u -ℤ pos 1)
number_form least greatest ops.Ge u =
    if int_eq u least then all
    else if int_eq u greatest then equal greatest
    else at_least u
number_form least greatest ops.Gt u =
    if int_eq u greatest then empty
    else if int_eq u (greatest -ℤ pos 1) then equal greatest
    else at_least (u +ℤ pos 1)
number_form least greatest ops.Contains u = empty
number_form least greatest ops.Prefix u = empty
number_form least greatest ops.Suffix u = empty

-- each number of the range that meets the second form meets the first
abbrev pub IsWiderWithin : ℤ → ℤ → Numbers → Numbers → Type 0
IsWiderWithin least greatest k m = (x : ℤ) → IsWithin least greatest x → number_allows m x ≡ true → number_allows k x ≡ true

-- some number of the range meets both forms
abbrev pub HaveCommonWithin : ℤ → ℤ → Numbers → Numbers → Type 0
HaveCommonWithin least greatest k m = (x : ℤ) × IsWithin least greatest x × (number_allows k x ≡ true) × (number_allows m x ≡ true)
