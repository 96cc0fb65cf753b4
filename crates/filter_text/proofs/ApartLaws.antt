-- Proves that the test of two rising lists finds exactly those without a common member.
use Rattle.std.proofs.Common.{◌≡◌, inl, inr, ◌<◌, ◌+◌, Bool, true, false, cond, refl, ap, subst, ◌∙◌, arith, List, [], ◌∷◌, length}
use Rattle.std.specs.Prelude.{nat_lt, ◌&&◌}
use Rattle.std.proofs.lemmas.Bool.Decides.{nat_tests}
use Rattle.filter_constraints.specs.Constraint.{ConstraintParts}
use Rattle.filter_types.specs.Before.{list_before}
use Rattle.filter_types.proofs.BeforeLaws.{before-irreflexive, before-before, before-total}
use Rattle.base.specs.Sets.{Has, IsRising}
use Rattle.filter_text.specs.MessageText.{IsChange}
use Rattle.filter_text.specs.Messages.{Lists}
use Rattle.filter_text.specs.Changes.{rises, from, leads, apart, is_change}
use Rattle.std.proofs.lemmas.Bool.{and_parts, and_from, both_ways}

rises_told : (fs : Lists) → IsRising list_before fs → rises list_before fs ≡ true
rises_told [] is = refl
rises_told (f ∷ []) is = refl
rises_told (f ∷ g ∷ fs) is = and_from (list_before f g) (rises list_before (g ∷ fs)) (is.0 g (inl refl)) (rises_told (g ∷ fs) is.1)

rises_tells : (fs : Lists) → rises list_before fs ≡ true → IsRising list_before fs
rises_tells [] e = tt
rises_tells (f ∷ []) e = ((λ y h. absurd h), tt)
rises_tells (f ∷ g ∷ fs) e =
    let w = and_parts (list_before f g) (rises list_before (g ∷ fs)) e in
    let r = rises_tells (g ∷ fs) w.1 in
    (first w.0 r, r)
  where
    first : list_before f g ≡ true → IsRising list_before (g ∷ fs) → (y : List ConstraintParts) → Has y (g ∷ fs) → list_before f y ≡ true
    first p r y (inl q) = ap (list_before f) q ∙ p
    first p r y (inr h) = before-before f g y p (r.0 y h)

pub short_rises : {A : Type 0} (before : A → A → Bool) (xs : List A) → length xs < 2 → rises before xs ≡ true
short_rises before [] l = refl
short_rises before (x ∷ []) l = refl
short_rises before (x ∷ y ∷ xs) l = absurd (omega arith)

from_rising : (f : List ConstraintParts) (out : Lists) → IsRising list_before out → IsRising list_before (from list_before f out)
from_rising f [] is = tt
from_rising f (x ∷ out) is = go (list_before x f) (from_rising f out is.1)
  where
    go : (b : Bool) → IsRising list_before (from list_before f out) → IsRising list_before (cond b (from list_before f out) (x ∷ out))
    go true r = r
    go false r = is

from_has : (f g : List ConstraintParts) (out : Lists) → Has g (from list_before f out) → Has g out
from_has f g [] h = h
from_has f g (x ∷ out) h = go (list_before x f) (λ m. inr (from_has f g out m)) h
  where
    go : (b : Bool) → (Has g (from list_before f out) → Has g (x ∷ out)) → Has g (cond b (from list_before f out) (x ∷ out)) → Has g (x ∷ out)
    go true k h = k h
    go false k h = h

has_from : (f g : List ConstraintParts) (out : Lists) → list_before g f ≡ false → Has g out → Has g (from list_before f out)
has_from f g [] n h = h
has_from f g (x ∷ out) n h = go (list_before x f) refl h (λ m. has_from f g out n m)
  where
    go : (b : Bool) → list_before x f ≡ b → Has g (x ∷ out) → (Has g out → Has g (from list_before f out)) → Has g (cond b (from list_before f out) (x ∷ out))
    go true e (inl q) k = absurd (both_ways (list_before g f) n (ap (λ (z : List ConstraintParts). list_before z f) q ∙ e))
    go true e (inr h) k = k h
    go false e h k = h

not_there : (f : List ConstraintParts) (out : Lists) → leads list_before f (from list_before f out) ≡ false → Has f out
not_there f [] e = absurd cc
not_there f (x ∷ out) e = go (list_before x f) refl e (λ m. inr (not_there f out m))
  where
    go : (b : Bool) → list_before x f ≡ b → leads list_before f (cond b (from list_before f out) (x ∷ out)) ≡ false → (leads list_before f (from list_before f out) ≡ false → Has f (x ∷ out)) → Has f (x ∷ out)
    go true p e k = k e
    go false p e k = inl (before-total f x e p)

there_not : (f : List ConstraintParts) (out : Lists) → IsRising list_before out → leads list_before f out ≡ true → Has f out → ⊥
there_not f [] is e h = h
there_not f (y ∷ out) is e (inl q) = both_ways (list_before f f) (before-irreflexive f) (ap (list_before f) q ∙ e)
there_not f (y ∷ out) is e (inr h) = both_ways (list_before f f) (before-irreflexive f) (before-before f y f e (is.0 f h))

apart_tells : (out add : Lists) → IsRising list_before out → IsRising list_before add → apart list_before out add ≡ true → (f : List ConstraintParts) → Has f out → Has f add → ⊥
apart_tells out [] ro ra e f h m = m
apart_tells out (g ∷ add) ro ra e f h (inl q) =
    let w = and_parts (leads list_before g (from list_before g out)) (apart list_before (from list_before g out) add) e in
    there_not g (from list_before g out) (from_rising g out ro) w.0 (has_from g g out (before-irreflexive g) (subst (λ (z : List ConstraintParts). Has z out) q h))
apart_tells out (g ∷ add) ro ra e f h (inr m) =
    let w = and_parts (leads list_before g (from list_before g out)) (apart list_before (from list_before g out) add) e in
    later (list_before f g) refl (λ h'. apart_tells (from list_before g out) add (from_rising g out ro) ra.1 w.1 f h' m)
  where
    later : (b : Bool) → list_before f g ≡ b → (Has f (from list_before g out) → ⊥) → ⊥
    later true p k = both_ways (list_before f f) (before-irreflexive f) (before-before f g f p (ra.0 f m))
    later false p k = k (has_from g f out p h)

apart_told : (out add : Lists) → ((f : List ConstraintParts) → Has f out → Has f add → ⊥) → apart list_before out add ≡ true
apart_told out [] k = refl
apart_told out (g ∷ add) k = and_from (leads list_before g (from list_before g out)) (apart list_before (from list_before g out) add) (go (leads list_before g (from list_before g out)) refl) (apart_told (from list_before g out) add (λ f h m. k f (from_has g f out h) (inr m)))
  where
    go : (b : Bool) → leads list_before g (from list_before g out) ≡ b → b ≡ true
    go true p = refl
    go false p = absurd (k g (not_there g out p) (inl refl))

pub change_told : (out add : Lists) → IsChange out add → is_change list_before out add ≡ true
unfolding is_change
change_told out add is =
    let s : 0 < length out + length add = is.some in
    let t : nat_lt 0 (length out + length add) ≡ true = grind (arith, nat_tests) in
    rw (rises_told out is.out_rising, rises_told add is.add_rising, apart_told out add is.apart, t) refl

pub change_tells : (out add : Lists) → is_change list_before out add ≡ true → IsChange out add
unfolding is_change
change_tells out add e =
    let a = and_parts (rises list_before out) (rises list_before add && (apart list_before out add && nat_lt 0 (length out + length add))) e in
    let b = and_parts (rises list_before add) (apart list_before out add && nat_lt 0 (length out + length add)) a.1 in
    let c = and_parts (apart list_before out add) (nat_lt 0 (length out + length add)) b.1 in
    let t : nat_lt 0 (length out + length add) ≡ true = c.1 in
    let ro = rises_tells out a.0 in
    let ra = rises_tells add b.0 in
    record { out_rising = ro; add_rising = ra; apart = apart_tells out add ro ra c.0; some = grind (arith, nat_tests) }
