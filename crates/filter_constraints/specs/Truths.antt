-- Defines constraints on a truth value: satisfaction, normal form, covering, compatibility.
use Rattle.std.specs.Prelude.{Bool, true, false, not}
use Rattle.filter_constraints.specs.declared.op.Op.{Op}
use Rattle.filter_constraints.specs.declared.op.Op.TheVariants as ops

-- the normal forms: both values, or the given one
pub data Truths : Type 0 where
  all : Truths
  equal : Bool → Truths

-- two truth values are the same
abbrev pub same_truth : Bool → Bool → Bool
same_truth true true = true
same_truth false false = true
same_truth a b = false

-- a truth value x meets the normal form
abbrev pub truth_allows : Truths → Bool → Bool
truth_allows all x = true
truth_allows (equal u) x = same_truth x u

-- the covering table: the covering form, then the covered one
abbrev pub truth_covers : Truths → Truths → Bool
truth_covers all m = true
truth_covers (equal u) (equal v) = same_truth u v
truth_covers (equal u) all = false

-- two forms are compatible unless they want different values
abbrev pub truth_compatible : Truths → Truths → Bool
truth_compatible (equal u) (equal v) = same_truth u v
truth_compatible k m = true

-- the truth value x satisfies the operator with the operand u; an operator that bool lacks represents `any`
abbrev pub truth_satisfies : Op → Bool → Bool → Bool
truth_satisfies ops.Eq x u = same_truth x u
truth_satisfies ops.Ne x u = not (same_truth x u)
truth_satisfies op x u = true

-- the normal form of an operator with its operand
abbrev pub truth_form : Op → Bool → Truths
truth_form ops.Eq u = equal u
truth_form ops.Ne u = equal (not u)
truth_form op u = all
