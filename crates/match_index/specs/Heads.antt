-- Defines patterns by their head: a number made of the first two bytes of a prefix or a part, and of the last two of a suffix.
use Rattle.std.specs.Prelude.{ℕ, Bool, true, false, ◌-◌, length, drop, List}
use Rattle.filter_constraints.specs.declared.op.Op.{Op}
use Rattle.filter_constraints.specs.declared.op.Op.TheVariants as ops

-- so many bytes at the end
abbrev pub last_bytes : ℕ → List ℕ → List ℕ
last_bytes n u = drop (length u - n) u

-- the operator of a pattern
abbrev pub is_pattern_op : Op → Bool
is_pattern_op ops.Prefix = true
is_pattern_op ops.Suffix = true
is_pattern_op ops.Contains = true
is_pattern_op op = false
