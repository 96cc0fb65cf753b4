-- The canonical order is a total order, whose ties are equal.
use Rattle.std.proofs.Common.{◌≡◌, refl, ap, arith, List, Some, None, Option}
use Rattle.std.specs.declared.cmp.Ordering.TheVariants.{Equal}
use Rattle.std.specs.Ordering.{nat_cmp}
use Rattle.std.specs.Option.{option_cmp}
use Rattle.std.specs.Cmp.Lexicographic.{slice_cmp}
use Rattle.filter_values.specs.declared.value.Value.{Value}
use Rattle.filter_values.specs.Order.{kind_cmp, value_cmp}
pub use Rattle.filter_values.proofs.OrderLaws.{tied, nat-tied, list-tied, kind-tied, value-tied}
use Rattle.filter_constraints.specs.declared.op.Op.{Op}
use Rattle.filter_constraints.specs.Constraint.{ConstraintParts}
use Rattle.filter_constraints.specs.Order.{op_rank, op_cmp, constraint_cmp, list_cmp}

operand-tied : (x y : Option Value) → option_cmp value_cmp x y ≡ Equal → x ≡ y
operand-tied None None h = refl
operand-tied None (Some y) h = cc
operand-tied (Some x) None h = cc
operand-tied (Some x) (Some y) h = ap Some (value-tied x y h)

op-tied : (k l : Op) → op_rank k ≡ op_rank l → k ≡ l
op-tied k l h = grind arith

pub parts-tied : (c d : ConstraintParts) → constraint_cmp c d ≡ Equal → c ≡ d
parts-tied c d h =
    let a = tied (slice_cmp nat_cmp c.name d.name) _ h in
    let b = tied (kind_cmp c.kind d.kind) _ a.1 in
    let e = tied (op_cmp c.op d.op) _ b.1 in
    let n = list-tied nat_cmp nat-tied c.name d.name a.0 in
    let k = kind-tied c.kind d.kind b.0 in
    let o = op-tied c.op d.op (nat-tied (op_rank c.op) (op_rank d.op) e.0) in
    let p = operand-tied c.operand d.operand e.1 in
    λ i. record { name = n i; kind = k i; op = o i; operand = p i }

pub list_tied : (f g : List ConstraintParts) → list_cmp f g ≡ Equal → f ≡ g
list_tied f g h = list-tied constraint_cmp parts-tied f g h
