-- Defines keys: the operand, a truth value as 0 or 1, a time less 2 ^ 63, and 0 where there is none.
use Rattle.std.specs.Prelude.{ℕ, ℤ, pos, negsuc, ◌+ℤ◌, ◌-ℤ◌, ◌^◌, Bool, true, false, not, Option, Some, None, if◌then◌else◌}
use Rattle.std.specs.Ordering.{int_cmp, int_eq, is_eq}
use Rattle.std.specs.BTreeMap.Range.{range_contains}
use Rattle.std.specs.declared.ops.Bound.TheVariants.{Included, Excluded, Unbounded}
use Rattle.filter_values.specs.declared.value.Kind.{Kind}
use Rattle.filter_values.specs.declared.value.Kind.TheVariants as kinds
use Rattle.filter_values.specs.declared.value.Value.{Value}
use Rattle.filter_values.specs.declared.value.Value.TheVariants as values
use Rattle.filter_constraints.specs.declared.op.Op.{Op}
use Rattle.filter_constraints.specs.declared.op.Op.TheVariants as ops
use Rattle.match_index.specs.Pairs.{Test}

abbrev pub same_key : ℤ → ℤ → Bool
same_key a b = is_eq (int_cmp a b)

abbrev pub truth_key : Bool → ℤ
truth_key true = pos 1
truth_key false = pos 0

-- the time less 2 ^ 63, so that the keys of times are numbers of 64 bits in the order of the times
abbrev pub time_key : ℕ → ℤ
time_key n = pos n -ℤ pos (2 ^ 63)

-- the key of an operand
abbrev pub key_of : Option Value → ℤ
key_of (Some (values.Int n)) = n
key_of (Some (values.Bool b)) = truth_key b
key_of (Some (values.Time n)) = time_key n
key_of operand = pos 0

-- no constraint: a test of a key that no constraint has
abbrev pub no_test : ℤ → Test
no_test k = record { kind = kinds.Str; op = ops.Any; operand = Some (values.Int k) }

abbrev pub truth_test : Op → ℤ → Test
truth_test op k =
    if int_eq k (pos 1) then record { kind = kinds.Bool; op = op; operand = Some (values.Bool true) }
    else if int_eq k (pos 0) then record { kind = kinds.Bool; op = op; operand = Some (values.Bool false) }
    else no_test k

-- no constraint: what is told by a key that is less than the key of each time
abbrev pub below_test : Op → ℤ → Test
below_test ops.Ne k = record { kind = kinds.Time; op = ops.Ne; operand = None }
below_test ops.Gt k = record { kind = kinds.Time; op = ops.Gt; operand = None }
below_test ops.Ge k = record { kind = kinds.Time; op = ops.Ge; operand = None }
below_test op k = no_test k

-- the test of a time, given as a number
abbrev pub time_test : Op → ℤ → Test
time_test op (pos n) = record { kind = kinds.Time; op = op; operand = Some (values.Time n) }
time_test op (negsuc n) = below_test op (negsuc n)

abbrev pub any_test : Kind → ℤ → Test
any_test kind k = if int_eq k (pos 0) then record { kind = kind; op = ops.Any; operand = None } else no_test k

-- the test of a key in a row of a kind and an operator
abbrev pub test_at : Kind → Op → ℤ → Test
test_at kinds.Bool ops.Any k = any_test kinds.Bool k
test_at kinds.Int ops.Any k = any_test kinds.Int k
test_at kinds.Bool ops.Eq k = truth_test ops.Eq k
test_at kinds.Bool ops.Ne k = truth_test ops.Ne k
test_at kinds.Bool op k = no_test k
test_at kinds.Int op k = record { kind = kinds.Int; op = op; operand = Some (values.Int k) }
test_at kinds.Time ops.Any k = any_test kinds.Time k
test_at kinds.Time op k = time_test op (k +ℤ pos (2 ^ 63))
test_at kinds.Str op k = no_test k

-- the keys that a number finds by its own, in a row of an operator
abbrev pub key_meets : Op → ℤ → ℤ → Bool
key_meets ops.Any x k = same_key (pos 0) k
key_meets ops.Eq x k = same_key x k
key_meets ops.Ne x k = not (same_key x k)
key_meets ops.Lt x k = range_contains int_cmp (Excluded x) Unbounded k
key_meets ops.Le x k = range_contains int_cmp (Included x) Unbounded k
key_meets ops.Gt x k = range_contains int_cmp Unbounded (Excluded x) k
key_meets ops.Ge x k = range_contains int_cmp Unbounded (Included x) k
key_meets op x k = false
