-- Lemmas on truth values and comparisons.
use Rattle.std.proofs.Common.{Bool, Ordering, false, inl, inr, refl, true, ◌≡◌, ◌⊎◌}
use Rattle.std.specs.declared.cmp.Ordering.TheVariants.{Equal, Greater, Less}
use Rattle.std.specs.Prelude.{if◌then◌else◌}
use Rattle.std.specs.Ordering.{is_eq, is_lt}

pub absurd-false : {A : Type 0} → false ≡ true → A
absurd-false e = absurd cc

pub false-from-not-true : (b : Bool) → (b ≡ true → ⊥) → false ≡ b
false-from-not-true true h = absurd (h refl)
false-from-not-true false h = refl

pub if-cases : {A : Type 0} (b : Bool) (x y z : A) → (if b then x else y) ≡ z → ((b ≡ true) × (x ≡ z)) ⊎ ((b ≡ false) × (y ≡ z))
if-cases true x y z e = inl (refl, e)
if-cases false x y z e = inr (refl, e)

pub is_eq-equal : (o : Ordering) → is_eq o ≡ true → o ≡ Equal
is_eq-equal Less h = cc
is_eq-equal Equal h = refl
is_eq-equal Greater h = cc

pub is_lt-less : (o : Ordering) → is_lt o ≡ true → o ≡ Less
is_lt-less Less h = refl
is_lt-less Equal h = cc
is_lt-less Greater h = cc
