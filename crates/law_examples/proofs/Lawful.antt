-- Ranges of numbers meet the laws of a theory.
use Rattle.std.proofs.Common.{◌≡◌, ℕ, ◌≤◌, nat_le, max, true, ◌&&◌, Option, Some, None, refl, ◌∙◌, arith}
use Rattle.std.proofs.lemmas.Bool.Decides.{nat_tests}
use Rattle.base.specs.Laws.{CoverLaws}
use Rattle.law_routing.specs.Theory.{TheoryLaws}
use Rattle.law_examples.specs.Ranges.{Range, Below, Equal, Above, AtLeast, Any, is_in, first, past, is_before, ends_by, covers, meets, rank, operand, before, ranges}

-- the table of covering and of overlap by ends alone
ends-self : (o : Option ℕ) → ends_by o o ≡ true
ends-self None = refl
ends-self (Some x) = grind (arith, nat_tests)

ends-on : (a b c : Option ℕ) → ends_by a b ≡ true → ends_by b c ≡ true → ends_by a c ≡ true
ends-on a b None e f = refl
ends-on a None (Some z) e f = absurd cc
ends-on None (Some y) (Some z) e f = absurd cc
ends-on (Some x) (Some y) (Some z) e f = grind (arith, nat_tests, e, f)

before-less : (x y : ℕ) (a : Option ℕ) → x ≤ y → is_before y a ≡ true → is_before x a ≡ true
before-less x y None l e = refl
before-less x y (Some a) l e = grind (arith, nat_tests, l, e)

before-longer : (x : ℕ) (a b : Option ℕ) → is_before x a ≡ true → ends_by a b ≡ true → is_before x b ≡ true
before-longer x a None e f = refl
before-longer x None (Some b) e f = absurd cc
before-longer x (Some a) (Some b) e f = grind (arith, nat_tests, e, f)

-- a number is in a range where it lies between its ends
in-ends : (x : ℕ) (f : Range) → is_in x f ≡ (nat_le (first f) x && is_before x (past f))
in-ends x (Below n) = grind (arith, nat_tests)
in-ends x (Equal n) = grind (arith, nat_tests)
in-ends x (Above n) = grind (arith, nat_tests)
in-ends x (AtLeast n) = grind (arith, nat_tests)
in-ends x Any = grind (arith, nat_tests)

covers-on : (f g h : Range) → covers f g ≡ true → covers g h ≡ true → covers f h ≡ true
covers-on f g h e k = grind (arith, nat_tests, e, k, ends-on (past h) (past g) (past f), before-longer (first h) (past h) (past g), lower (first g) (first h) (past g))
  where
    lower : (x y : ℕ) (a : Option ℕ) → nat_le x y ≡ true → is_before y a ≡ true → is_before x a ≡ true
    lower x y a l = before-less x y a (grind (arith, nat_tests, l))

same : (f g : Range) → rank f ≡ rank g → operand f ≡ operand g → f ≡ g
same (Below n) (Below m) r o = cc
same (Equal n) (Equal m) r o = cc
same (Above n) (Above m) r o = cc
same (AtLeast n) (AtLeast m) r o = cc
same Any Any r o = refl
same (Below n) g r o = absurd (omega (arith, r))
same (Equal n) g r o = absurd (omega (arith, r))
same (Above n) g r o = absurd (omega (arith, r))
same (AtLeast n) g r o = absurd (omega (arith, r))
same Any g r o = absurd (omega (arith, r))

order-laws : CoverLaws covers before
order-laws = record {
  reflexive = λ x. grind (arith, nat_tests, ends-self (past x));
  transitive = covers-on;
  irreflexive = λ x. grind (arith, nat_tests);
  chain = λ x y z e f. grind (arith, nat_tests, e, f);
  total = λ x y e f. same x y (grind (arith, nat_tests, e, f)) (grind (arith, nat_tests, e, f));
}

in-covered : (n : ℕ) (f g : Range) → covers f g ≡ true → is_in n g ≡ true → is_in n f ≡ true
in-covered n f g e h = in-ends n f ∙ grind (arith, nat_tests, e, in-ends n g, h, lower (first g) n (past g), before-longer n (past g) (past f))
  where
    lower : (x y : ℕ) (a : Option ℕ) → nat_le x y ≡ true → is_before y a ≡ true → is_before x a ≡ true
    lower x y a l = before-less x y a (grind (arith, nat_tests, l))

in-both : (n : ℕ) (f g : Range) → is_in n f ≡ true → is_in n g ≡ true → meets f g ≡ true
in-both n f g e h =
    let low : max (first f) (first g) ≤ n = grind (arith, nat_tests, in-ends n f, e, in-ends n g, h) in
    grind (arith, nat_tests, in-ends n f, e, in-ends n g, h, before-less (max (first f) (first g)) n (past f) low, before-less (max (first f) (first g)) n (past g) low)

pub ranges-laws : TheoryLaws ranges
ranges-laws = record {
  filters = order-laws;
  adverts = order-laws;
  sound = λ n f g e h. in-covered n f g e h;
  sound_advert = λ n a b e h. in-covered n a b e h;
  meet = λ n f a e h. in-both n f a e h;
}
