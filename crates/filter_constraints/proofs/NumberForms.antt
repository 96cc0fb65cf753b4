-- The normal form of a constraint on a number.
use Rattle.std.proofs.Common.{◌≡◌, ℤ, pos, ◌+ℤ◌, ◌-ℤ◌, ◌≤ℤ◌, ◌<ℤ◌, Bool, true, false, refl, arith, cond}
use Rattle.std.proofs.lemmas.Int.{ints}
use Rattle.std.specs.Ordering.{int_eq}
use Rattle.filter_constraints.specs.declared.op.Op.{Op}
use Rattle.filter_constraints.specs.declared.op.Op.TheVariants as ops
use Rattle.filter_constraints.specs.Numbers.{Numbers, number_allows, number_form, number_satisfies, IsWithin, IsStrictlyWithin, IsWide, IsNumberForm}
use Rattle.filter_constraints.specs.Numbers.Numbers.{empty, all, equal, unequal, at_most, at_least}

-- what holds of both choices holds of the one that the test picks
pick : {X : Type 0} (P : X → Type 0) (b : Bool) (x y : X) → (b ≡ true → P x) → (b ≡ false → P y) → P (cond b x y)
pick P true x y p q = p refl
pick P false x y p q = q refl

inside : (least greatest u : ℤ) → least <ℤ u → u <ℤ greatest → IsStrictlyWithin least greatest u
inside least greatest u p q = record { low = p; high = q }

lies : (least greatest u : ℤ) → least ≤ℤ u → u ≤ℤ greatest → IsWithin least greatest u
lies least greatest u p q = record { low = p; high = q }

pub form : (least greatest : ℤ) (op : Op) (u : ℤ) → IsWide least greatest → IsWithin least greatest u → IsNumberForm least greatest (number_form least greatest op u)
form least greatest ops.Any u w l = tt
form least greatest ops.Eq u w l = l
form least greatest ops.Contains u w l = tt
form least greatest ops.Prefix u w l = tt
form least greatest ops.Suffix u w l = tt
form least greatest ops.Ne u w l =
    let rest = cond (int_eq u greatest) (at_most (greatest -ℤ pos 1)) (unequal u) in
    pick (IsNumberForm least greatest) (int_eq u least) (at_least (least +ℤ pos 1)) rest (λ a. inside least greatest (least +ℤ pos 1) (grind (arith, ints)) (grind (arith, ints)))
    (λ a. pick (IsNumberForm least greatest) (int_eq u greatest) (at_most (greatest -ℤ pos 1)) (unequal u) (λ b. inside least greatest (greatest -ℤ pos 1) (grind (arith, ints)) (grind (arith, ints)))
    (λ b. inside least greatest u (grind (arith, ints)) (grind (arith, ints))))
form least greatest ops.Le u w l =
    let rest = cond (int_eq u least) (equal least) (at_most u) in
    pick (IsNumberForm least greatest) (int_eq u greatest) (all) rest (λ a. tt)
    (λ a. pick (IsNumberForm least greatest) (int_eq u least) (equal least) (at_most u) (λ b. lies least greatest least (grind (arith, ints)) (grind (arith, ints)))
    (λ b. inside least greatest u (grind (arith, ints)) (grind (arith, ints))))
form least greatest ops.Lt u w l =
    let rest = cond (int_eq u (least +ℤ pos 1)) (equal least) (at_most (u -ℤ pos 1)) in
    pick (IsNumberForm least greatest) (int_eq u least) (empty) rest (λ a. tt)
    (λ a. pick (IsNumberForm least greatest) (int_eq u (least +ℤ pos 1)) (equal least) (at_most (u -ℤ pos 1)) (λ b. lies least greatest least (grind (arith, ints)) (grind (arith, ints)))
    (λ b. inside least greatest (u -ℤ pos 1) (grind (arith, ints)) (grind (arith, ints))))
form least greatest ops.Ge u w l =
    let rest = cond (int_eq u greatest) (equal greatest) (at_least u) in
    pick (IsNumberForm least greatest) (int_eq u least) (all) rest (λ a. tt)
    (λ a. pick (IsNumberForm least greatest) (int_eq u greatest) (equal greatest) (at_least u) (λ b. lies least greatest greatest (grind (arith, ints)) (grind (arith, ints)))
    (λ b. inside least greatest u (grind (arith, ints)) (grind (arith, ints))))
form least greatest ops.Gt u w l =
    let rest = cond (int_eq u (greatest -ℤ pos 1)) (equal greatest) (at_least (u +ℤ pos 1)) in
    pick (IsNumberForm least greatest) (int_eq u greatest) (empty) rest (λ a. tt)
    (λ a. pick (IsNumberForm least greatest) (int_eq u (greatest -ℤ pos 1)) (equal greatest) (at_least (u +ℤ pos 1)) (λ b. lies least greatest greatest (grind (arith, ints)) (grind (arith, ints)))
    (λ b. inside least greatest (u +ℤ pos 1) (grind (arith, ints)) (grind (arith, ints))))

abbrev Means : Op → ℤ → ℤ → Numbers → Type 0
Means op x u k = number_allows k x ≡ number_satisfies op x u

pub same : (least greatest : ℤ) (op : Op) (u x : ℤ) → IsWide least greatest → IsWithin least greatest x → number_allows (number_form least greatest op u) x ≡ number_satisfies op x u
same least greatest ops.Any u x w k = refl
same least greatest ops.Eq u x w k = refl
same least greatest ops.Contains u x w k = refl
same least greatest ops.Prefix u x w k = refl
same least greatest ops.Suffix u x w k = refl
same least greatest ops.Ne u x w k =
    let rest = cond (int_eq u greatest) (at_most (greatest -ℤ pos 1)) (unequal u) in
    pick (Means ops.Ne x u) (int_eq u least) (at_least (least +ℤ pos 1)) rest (λ a. grind (arith, ints))
    (λ a. pick (Means ops.Ne x u) (int_eq u greatest) (at_most (greatest -ℤ pos 1)) (unequal u) (λ b. grind (arith, ints)) (λ b. grind (arith, ints)))
same least greatest ops.Le u x w k =
    let rest = cond (int_eq u least) (equal least) (at_most u) in
    pick (Means ops.Le x u) (int_eq u greatest) (all) rest (λ a. grind (arith, ints))
    (λ a. pick (Means ops.Le x u) (int_eq u least) (equal least) (at_most u) (λ b. grind (arith, ints)) (λ b. grind (arith, ints)))
same least greatest ops.Lt u x w k =
    let rest = cond (int_eq u (least +ℤ pos 1)) (equal least) (at_most (u -ℤ pos 1)) in
    pick (Means ops.Lt x u) (int_eq u least) (empty) rest (λ a. grind (arith, ints))
    (λ a. pick (Means ops.Lt x u) (int_eq u (least +ℤ pos 1)) (equal least) (at_most (u -ℤ pos 1)) (λ b. grind (arith, ints)) (λ b. grind (arith, ints)))
same least greatest ops.Ge u x w k =
    let rest = cond (int_eq u greatest) (equal greatest) (at_least u) in
    pick (Means ops.Ge x u) (int_eq u least) (all) rest (λ a. grind (arith, ints))
    (λ a. pick (Means ops.Ge x u) (int_eq u greatest) (equal greatest) (at_least u) (λ b. grind (arith, ints)) (λ b. grind (arith, ints)))
same least greatest ops.Gt u x w k =
    let rest = cond (int_eq u (greatest -ℤ pos 1)) (equal greatest) (at_least (u +ℤ pos 1)) in
    pick (Means ops.Gt x u) (int_eq u greatest) (empty) rest (λ a. grind (arith, ints))
    (λ a. pick (Means ops.Gt x u) (int_eq u (greatest -ℤ pos 1)) (equal greatest) (at_least (u +ℤ pos 1)) (λ b. grind (arith, ints)) (λ b. grind (arith, ints)))
