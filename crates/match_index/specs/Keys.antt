-- Defines keys of groups: the bytes of the operand, and none where there is no operand.
use Rattle.std.specs.Prelude.{ℕ, Bool, List, [], ◌∷◌, Option, Some, None, Vec}
use Rattle.std.specs.declared.alloc.Global.{Global}
use Rattle.std.specs.declared.cmp.Ordering.{Ordering}
use Rattle.std.specs.Ordering.{nat_cmp, is_eq}
use Rattle.std.specs.Cmp.Lexicographic.{slice_cmp}
use Rattle.filter_values.specs.declared.value.Kind.TheVariants as kinds
use Rattle.filter_values.specs.declared.value.Value.{Value}
use Rattle.filter_values.specs.declared.value.Value.TheVariants as values
use Rattle.filter_constraints.specs.declared.op.Op.{Op}
use Rattle.filter_constraints.specs.declared.op.Op.TheVariants as ops
use Rattle.match_index.specs.Pairs.{Test}

abbrev pub bytes_of : Vec ℕ Global → List ℕ
bytes_of k = k.items

abbrev pub same_bytes : List ℕ → List ℕ → Bool
same_bytes a b = is_eq (slice_cmp nat_cmp a b)

-- the key is these bytes
abbrev pub at_key : List ℕ → Vec ℕ Global → Bool
at_key u k = same_bytes u k.items

abbrev pub key_cmp : Vec ℕ Global → Vec ℕ Global → Ordering
key_cmp a b = slice_cmp nat_cmp a.items b.items

-- the key of an operand
abbrev pub key_of : Option Value → List ℕ
key_of (Some (values.Str t)) = t
key_of operand = []

-- no constraint: a test of a key that no constraint has
abbrev pub no_test : List ℕ → Test
no_test k = record { kind = kinds.Int; op = ops.Any; operand = Some (values.Str k) }

abbrev pub any_test : List ℕ → Test
any_test [] = record { kind = kinds.Str; op = ops.Any; operand = None }
any_test (b ∷ k) = no_test (b ∷ k)

-- the test of a key in a row of an operator
abbrev pub test_at : Op → List ℕ → Test
test_at ops.Any k = any_test k
test_at op k = record { kind = kinds.Str; op = op; operand = Some (values.Str k) }
