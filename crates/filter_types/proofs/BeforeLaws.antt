-- Proves that the canonical order of lists of constraints is a total order.
use Rattle.std.proofs.Common.{◌≡◌, true, false, refl, ap, subst, List, Ordering}
use Rattle.std.specs.declared.cmp.Ordering.TheVariants.{Less, Equal, Greater}
use Rattle.std.specs.Ordering.{is_lt, is_eq, eq_by_cmp, ordering_reverse}
use Rattle.std.proofs.lemmas.Cmp.{tied_itself}
use Rattle.filter_constraints.specs.Constraint.{ConstraintParts}
use Rattle.filter_constraints.specs.Order.{list_cmp}
use Rattle.filter_constraints.specs.OrderTotal.{list_total}
use Rattle.filter_constraints.proofs.OrderLaws.{list_tied}
use Rattle.filter_types.specs.Before.{list_before}
use Rattle.base.proofs.Bools.{is_lt-less, is_eq-equal}

pub before-irreflexive : (f : List ConstraintParts) → list_before f f ≡ false
unfolding list_before
before-irreflexive f = rw (tied_itself list_total f) refl

pub before-before : (f g h : List ConstraintParts) → list_before f g ≡ true → list_before g h ≡ true → list_before f h ≡ true
unfolding list_before
before-before f g h p q = rw (list_total.trans f g h (is_lt-less (list_cmp f g) p) (is_lt-less (list_cmp g h) q)) refl

-- lists are equal exactly where neither stands before the other
pub equal_alike : (f g : List ConstraintParts) → eq_by_cmp list_cmp f g ≡ true → f ≡ g
equal_alike f g h = list_tied f g (is_eq-equal (list_cmp f g) h)

pub alike_equal : (f g : List ConstraintParts) → f ≡ g → eq_by_cmp list_cmp f g ≡ true
alike_equal f g e = subst (λ (h : List ConstraintParts). eq_by_cmp list_cmp f h ≡ true) e (ap is_eq (tied_itself list_total f))

neither : (o p : Ordering) → o ≡ ordering_reverse p → is_lt o ≡ false → is_lt p ≡ false → o ≡ Equal
neither o Less e h k = cc
neither o Equal e h k = e
neither o Greater e h k = cc

pub before-total : (f g : List ConstraintParts) → list_before f g ≡ false → list_before g f ≡ false → f ≡ g
unfolding list_before
before-total f g h k = list_tied f g (neither (list_cmp f g) (list_cmp g f) (list_total.antisymm f g) h k)
