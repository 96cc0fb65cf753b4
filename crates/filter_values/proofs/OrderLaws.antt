-- Ties in the orders of kinds and of values are equal.
use Rattle.std.proofs.Common.{◌≡◌, ℕ, ℤ, pos, true, false, refl, ap, arith, List, [], ◌∷◌, Ordering}
use Rattle.std.proofs.lemmas.Int.{ints}
use Rattle.std.specs.declared.cmp.Ordering.TheVariants.{Less, Equal, Greater}
use Rattle.std.specs.Ordering.{nat_cmp, int_cmp, ordering_then}
use Rattle.std.specs.Cmp.Lexicographic.{slice_cmp}
use Rattle.filter_values.specs.declared.value.Kind.{Kind}
use Rattle.filter_values.specs.declared.value.Value.{Value}
use Rattle.filter_values.specs.declared.value.Value.TheVariants as values
use Rattle.filter_values.specs.Order.{kind_rank, kind_cmp, value_cmp}

pub tied : (o p : Ordering) → ordering_then o p ≡ Equal → (o ≡ Equal) × (p ≡ Equal)
tied Less p h = cc
tied Equal p h = (refl, h)
tied Greater p h = cc

pub nat-tied : (m n : ℕ) → nat_cmp m n ≡ Equal → m ≡ n
nat-tied m n h = grind arith

int-tied : (m n : ℤ) → int_cmp m n ≡ Equal → m ≡ n
int-tied m n h = grind (arith, ints)

time-tied : (m n : ℕ) → int_cmp (pos m) (pos n) ≡ Equal → m ≡ n
time-tied m n h = let e = int-tied (pos m) (pos n) h in omega (arith, ints, e)

pub list-tied : {X : Type 0} (R : X → X → Ordering) → ((x y : X) → R x y ≡ Equal → x ≡ y) → (xs ys : List X) → slice_cmp R xs ys ≡ Equal → xs ≡ ys
list-tied R each [] [] h = refl
list-tied R each [] (y ∷ ys) h = cc
list-tied R each (x ∷ xs) [] h = cc
list-tied R each (x ∷ xs) (y ∷ ys) h =
    let t = tied (R x y) (slice_cmp R xs ys) h in
    let e = each x y t.0 in let f = list-tied R each xs ys t.1 in cc

pub value-tied : (x y : Value) → value_cmp x y ≡ Equal → x ≡ y
value-tied (values.Bool true) (values.Bool true) h = refl
value-tied (values.Bool false) (values.Bool false) h = refl
value-tied (values.Bool true) (values.Bool false) h = cc
value-tied (values.Bool false) (values.Bool true) h = cc
value-tied (values.Int m) (values.Int n) h = ap values.Int (int-tied m n (tied (int_cmp m n) Equal h).0)
value-tied (values.Str s) (values.Str t) h = ap values.Str (list-tied nat_cmp nat-tied s t h)
value-tied (values.Bool a) (values.Int n) h = cc
value-tied (values.Bool a) (values.Str t) h = cc
value-tied (values.Int m) (values.Bool b) h = cc
value-tied (values.Int m) (values.Str t) h = cc
value-tied (values.Str s) (values.Bool b) h = cc
value-tied (values.Str s) (values.Int n) h = cc
value-tied (values.Time m) (values.Time n) h = ap values.Time (time-tied m n (tied (int_cmp (pos m) (pos n)) Equal h).0)
value-tied (values.Time m) (values.Bool b) h = cc
value-tied (values.Time m) (values.Int n) h = cc
value-tied (values.Time m) (values.Str t) h = cc
value-tied (values.Bool b) (values.Time n) h = cc
value-tied (values.Int m) (values.Time n) h = cc
value-tied (values.Str s) (values.Time n) h = cc

kind-ranked : (k l : Kind) → kind_rank k ≡ kind_rank l → k ≡ l
kind-ranked k l h = grind arith

pub kind-tied : (k l : Kind) → kind_cmp k l ≡ Equal → k ≡ l
kind-tied k l h = kind-ranked k l (nat-tied (kind_rank k) (kind_rank l) h)
