-- Defines constraints on a text: satisfaction, normal form, covering, compatibility.
use Rattle.std.specs.Prelude.{◌≡◌, ℕ, ◌<◌, ◌≤◌, Bool, true, false, not, List, [], length, ◌||◌}
use Rattle.std.specs.Str.{bytes_eq}
use Rattle.filter_constraints.specs.declared.op.Op.{Op}
use Rattle.filter_constraints.specs.declared.op.Op.TheVariants as ops
use Rattle.filter_values.specs.Text.{IsText}
use Rattle.filter_constraints.specs.Bytes.{less, less_or_equal, has_prefix, has_suffix, has_part}

-- the normal forms, each with its operand
pub data Texts : Type 0 where
  empty : Texts
  all : Texts
  equal : List ℕ → Texts
  unequal : List ℕ → Texts
  less_than : List ℕ → Texts
  at_most : List ℕ → Texts
  greater_than : List ℕ → Texts
  at_least : List ℕ → Texts
  prefix : List ℕ → Texts
  suffix : List ℕ → Texts
  contains : List ℕ → Texts

-- a text x meets the normal form
abbrev pub text_allows : Texts → List ℕ → Bool
text_allows empty x = false
text_allows all x = true
text_allows (equal u) x = bytes_eq x u
text_allows (unequal u) x = not (bytes_eq x u)
text_allows (less_than u) x = less x u
text_allows (at_most u) x = less_or_equal x u
text_allows (greater_than u) x = less u x
text_allows (at_least u) x = less_or_equal u x
text_allows (prefix u) x = has_prefix x u
text_allows (suffix u) x = has_suffix x u
text_allows (contains u) x = has_part x u

-- the covering table: the covering form with the operand u, then the covered one with v; the first row that fits decides
abbrev pub text_covers : Texts → Texts → Bool
text_covers all m = true
text_covers k empty = true
text_covers empty m = false
text_covers k (equal v) = text_allows k v
text_covers (unequal u) m = not (text_allows m u)
text_covers (less_than u) (less_than v) = less_or_equal v u
text_covers (less_than u) (at_most v) = less v u
text_covers (at_most u) (less_than v) = less_or_equal v u
text_covers (at_most u) (at_most v) = less_or_equal v u
text_covers (greater_than u) (greater_than v) = less_or_equal u v
text_covers (greater_than u) (at_least v) = less u v
text_covers (at_least u) (greater_than v) = less_or_equal u v
text_covers (at_least u) (at_least v) = less_or_equal u v
text_covers (prefix u) (prefix v) = has_prefix v u
text_covers (suffix u) (suffix v) = has_suffix v u
text_covers (contains u) (contains v) = has_part v u
text_covers (contains u) (prefix v) = has_part v u
text_covers (contains u) (suffix v) = has_part v u
text_covers k m = false

-- the table of pairs that no text meets both, in one order of the two
abbrev pub text_conflicts : Texts → Texts → Bool
text_conflicts empty m = true
text_conflicts (equal u) m = not (text_allows m u)
text_conflicts (greater_than u) (less_than v) = less_or_equal v u
text_conflicts (greater_than u) (at_most v) = less_or_equal v u
text_conflicts (at_least u) (less_than v) = less_or_equal v u
text_conflicts (at_least u) (at_most v) = less v u
text_conflicts (prefix u) (prefix v) = not (has_prefix u v || has_prefix v u)
text_conflicts (suffix u) (suffix v) = not (has_suffix u v || has_suffix v u)
text_conflicts k m = false

-- two forms are compatible unless the table has them, in either order
abbrev pub text_compatible : Texts → Texts → Bool
text_compatible k m = not (text_conflicts k m || text_conflicts m k)

-- the text x satisfies the operator with the operand u
abbrev pub text_satisfies : Op → List ℕ → List ℕ → Bool
text_satisfies ops.Any x u = true
text_satisfies ops.Eq x u = bytes_eq x u
text_satisfies ops.Ne x u = not (bytes_eq x u)
text_satisfies ops.Lt x u = less x u
text_satisfies ops.Le x u = less_or_equal x u
text_satisfies ops.Gt x u = less u x
text_satisfies ops.Ge x u = less_or_equal u x
text_satisfies ops.Prefix x u = has_prefix x u
text_satisfies ops.Suffix x u = has_suffix x u
text_satisfies ops.Contains x u = has_part x u

-- the normal form of an operator with its operand; `any` has none
abbrev pub text_form : Op → List ℕ → Texts
text_form ops.Any u = all
text_form ops.Ge [] = all
text_form ops.Lt [] = empty
text_form ops.Le [] = equal []
text_form ops.Gt [] = unequal []
text_form ops.Eq u = equal u
text_form ops.Ne u = unequal u
text_form ops.Lt u = less_than u
text_form ops.Le u = at_most u
text_form ops.Gt u = greater_than u
text_form ops.Ge u = at_least u
text_form ops.Prefix u = prefix u
text_form ops.Suffix u = suffix u
text_form ops.Contains u = contains u

-- the form is the normal form of some constraint
abbrev pub IsTextForm : Texts → Type 0
IsTextForm empty = Unit {0}
IsTextForm all = Unit {0}
IsTextForm (equal u) = IsText u
IsTextForm (unequal u) = IsText u
IsTextForm (less_than u) = IsText u × (0 < length u)
IsTextForm (at_most u) = IsText u × (0 < length u)
IsTextForm (greater_than u) = IsText u × (0 < length u)
IsTextForm (at_least u) = IsText u × (0 < length u)
IsTextForm (prefix u) = IsText u × (0 < length u)
IsTextForm (suffix u) = IsText u × (0 < length u)
IsTextForm (contains u) = IsText u × (0 < length u)

-- the form of `any`, `!=`, `prefix`, `suffix` or `contains`
abbrev pub IsUnordered : Texts → Type 0
IsUnordered all = Unit {0}
IsUnordered (unequal u) = Unit {0}
IsUnordered (prefix u) = Unit {0}
IsUnordered (suffix u) = Unit {0}
IsUnordered (contains u) = Unit {0}
IsUnordered k = ⊥

-- a pattern leaves a text room for a byte beside it
abbrev pub IsShortPattern : Texts → Type 0
IsShortPattern (prefix u) = length u ≤ 1023
IsShortPattern (suffix u) = length u ≤ 1023
IsShortPattern (contains u) = length u ≤ 1023
IsShortPattern k = Unit {0}

-- each text that the second form allows is allowed by the first
abbrev pub IsWider : Texts → Texts → Type 0
IsWider k m = (x : List ℕ) → IsText x → text_allows m x ≡ true → text_allows k x ≡ true
