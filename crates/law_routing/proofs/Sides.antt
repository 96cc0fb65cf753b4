-- Lemmas on the sides of a tree's edges.
use Rattle.std.proofs.Common.{◌≡◌, ℕ, ◌==◌, Bool, true, false, not, ◌&&◌, List, refl, sym, ◌∙◌, arith, eq-eqb, eqb-true}
use Rattle.law_machine.specs.Machine.{Has}
use Rattle.base_tree.specs.Hops.{side, AreHops}
use Rattle.std.proofs.lemmas.Bool.{and_parts}

pub one-way : (hop : ℕ → ℕ → ℕ) (a b c x : ℕ) → side hop a b x ≡ true → side hop a c x ≡ true → b ≡ c
one-way hop a b c x e f = sym (eqb-true (hop a x) b (and_parts (not (x == a)) (hop a x == b) e).1) ∙ eqb-true (hop a x) c (and_parts (not (x == a)) (hop a x == c) f).1

pub side-here : (hop : ℕ → ℕ → ℕ) (a b : ℕ) → side hop a b a ≡ false
side-here hop a b = rw (eq-eqb a a refl) refl

pub side-hop : (hop : ℕ → ℕ → ℕ) (a b x : ℕ) → side hop a b x ≡ true → hop a x ≡ b
side-hop hop a b x e = eqb-true (hop a x) b (and_parts (not (x == a)) (hop a x == b) e).1

module _ (servers : List ℕ) (links : ℕ → List ℕ) (hop : ℕ → ℕ → ℕ) (good : AreHops servers links hop) where
  -- what is not beyond b is on this side
  pub other-side : (a b x : ℕ) → Has b (links a) → Has x servers → side hop a b x ≡ false → side hop b a x ≡ true
  other-side a b x near h e = grind (arith, good.one_side a b x near h, e)

  pub not-both : (a b x : ℕ) → Has b (links a) → Has x servers → side hop a b x ≡ true → side hop b a x ≡ false
  not-both a b x near h e = grind (arith, good.one_side b a x (good.both a b near) h, e)
