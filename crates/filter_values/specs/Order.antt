-- Defines the order of kinds and of values.
use Rattle.std.specs.Prelude.{ℕ, ℤ, pos, true, List, []}
use Rattle.std.specs.declared.cmp.Ordering.{Ordering}
use Rattle.std.specs.Ordering.{nat_cmp, int_cmp, then_cmp, on}
use Rattle.std.specs.Cmp.Lexicographic.{slice_cmp}
use Rattle.filter_values.specs.Value.{kind_of}
use Rattle.filter_values.specs.declared.value.Kind.{Kind}
use Rattle.filter_values.specs.declared.value.Kind.TheVariants as kinds
use Rattle.filter_values.specs.declared.value.Value.{Value}
use Rattle.filter_values.specs.declared.value.Value.TheVariants as values

-- the place of a kind in the order bool, int, str, time
abbrev pub kind_rank : Kind → ℕ
kind_rank kinds.Bool = 0
kind_rank kinds.Int = 1
kind_rank kinds.Str = 2
kind_rank kinds.Time = 3

-- kinds compare by their places
abbrev pub kind_cmp : Kind → Kind → Ordering
kind_cmp = on kind_rank nat_cmp

-- false is before true; 0 for a value of another kind
abbrev pub truth_rank : Value → ℕ
truth_rank (values.Bool true) = 1
truth_rank v = 0

-- the number of an int or of a time; 0 for a value of another kind
abbrev pub number_in : Value → ℤ
number_in (values.Int n) = n
number_in (values.Time n) = pos n
number_in v = pos 0

-- the bytes of a str value; none for a value of another kind
abbrev pub bytes_in : Value → List ℕ
bytes_in (values.Str t) = t
bytes_in v = []

-- by kind, then false before true, by number, by bytes
abbrev pub value_cmp : Value → Value → Ordering
value_cmp = then_cmp (on kind_of kind_cmp) (then_cmp (on truth_rank nat_cmp) (then_cmp (on number_in int_cmp) (on bytes_in (slice_cmp nat_cmp))))
