-- Lemmas on total orders in which only equal keys tie.
use Rattle.std.proofs.Common.{◌≡◌, ◌∙◌, Bool, true, false, refl, ap}
use Rattle.std.specs.declared.cmp.Ordering.{Ordering}
use Rattle.std.specs.declared.cmp.Ordering.TheVariants.{Less, Equal, Greater}
use Rattle.std.specs.Cmp.{IsTotalOrder}
use Rattle.std.specs.Ordering.{is_lt, is_eq, is_gt, ordering_reverse}
use Rattle.std.proofs.lemmas.Cmp.{tied_itself, upto}
use Rattle.std.proofs.lemmas.Bool.{both_ways}

pub greater-is : (o : Ordering) → is_gt o ≡ true → o ≡ Greater
greater-is Less h = cc
greater-is Equal h = cc
greater-is Greater h = refl

pub neither-is : (o : Ordering) → is_lt o ≡ false → is_gt o ≡ false → o ≡ Equal
neither-is Less h k = cc
neither-is Equal h k = refl
neither-is Greater h k = cc

turned-less : (o : Ordering) → is_lt o ≡ false → is_gt (ordering_reverse o) ≡ false
turned-less Less h = cc
turned-less Equal h = refl
turned-less Greater h = refl

turned-equal : (o : Ordering) → is_eq (ordering_reverse o) ≡ is_eq o
turned-equal Less = refl
turned-equal Equal = refl
turned-equal Greater = refl

module _ {K : Type 0} {R : K → K → Ordering} (o : IsTotalOrder R) where
  less-by : (x y z : K) (r s : Ordering) → R x y ≡ r → R y z ≡ s → is_gt r ≡ false → is_lt s ≡ true → is_lt (R x z) ≡ true
  less-by x y z Less Less p q h k = ap is_lt (o.trans x y z p q)
  less-by x y z Less Equal p q h k = cc
  less-by x y z Less Greater p q h k = cc
  less-by x y z Equal s p q h k = ap is_lt (o.congr x y z p ∙ q) ∙ k
  less-by x y z Greater s p q h k = cc

  -- what is not greater than what is less is less
  pub up-less : (x y z : K) → is_gt (R x y) ≡ false → is_lt (R y z) ≡ true → is_lt (R x z) ≡ true
  up-less x y z = less-by x y z (R x y) (R y z) refl refl

  -- and what is not less than what is not less, or greater, is so too
  pub down-least : (x y z : K) → is_gt (R y x) ≡ false → is_lt (R y z) ≡ false → is_lt (R x z) ≡ false
  down-least x y z h k = go (is_lt (R x z)) refl
    where
      go : (b : Bool) → is_lt (R x z) ≡ b → b ≡ false
      go true w = absurd (both_ways (is_lt (R y z)) k (up-less y x z h w))
      go false w = refl

  pub down-more : (x y z : K) → is_gt (R y x) ≡ false → is_gt (R y z) ≡ true → is_gt (R x z) ≡ true
  down-more x y z h k = go (is_gt (R x z)) refl
    where
      go : (b : Bool) → is_gt (R x z) ≡ b → b ≡ true
      go true w = refl
      go false w = absurd (both_ways (is_gt (R y z)) (upto o y x z h w) k)

  pub turned : (x y : K) → is_lt (R x y) ≡ false → is_gt (R y x) ≡ false
  turned x y h = ap is_gt (o.antisymm y x) ∙ turned-less (R x y) h

  pub same-turned : (x y : K) → is_eq (R x y) ≡ is_eq (R y x)
  same-turned x y = ap is_eq (o.antisymm x y) ∙ turned-equal (R y x)

  pub itself : (x : K) → is_gt (R x x) ≡ false
  itself x = ap is_gt (tied_itself o x)
