-- Proves that the laws can be met: by a line of three servers, under either semantics.
use Rattle.std.proofs.Common.{◌≡◌, ℕ, ◌==◌, ◌≤◌, Bool, true, false, cond, [], ◌∷◌, inl, inr, refl, sym, subst, arith, not}
use Rattle.std.proofs.lemmas.Bool.Decides.{nat_tests}
use Rattle.base.specs.Sets.{Has}
use Rattle.base.specs.Numbers.{IsDistinct}
use Rattle.base_tree.specs.Hops.{AreHops, side, side_size}
use Rattle.law_machine.specs.Load.{MeasureLaws}
use Rattle.law_routing.specs.Theory.{TheoryLaws}
use Rattle.law_routing.specs.Net.{PhasedCommand, Subscribe, Unsubscribe, Advertise, Publish, NetLaws, NeverFalls}
use Rattle.law_routing.specs.Routing.{routing_machine, measure}
use Rattle.law_routing.specs.Example.{numbers, line, line_links, line_clients, line_home, line_script}
use Rattle.law_routing.proofs.Along.{strict, tree}
use Rattle.law_routing.proofs.Spreading.{spreads}
use Rattle.base.proofs.Numbers.{each-of-three}
use Rattle.base.proofs.Sets.{each-in-one, each-in-two, each-in-three}

-- each edge is one of four
edges : (P : ℕ → ℕ → Type 0) → P 1 2 → P 2 1 → P 2 3 → P 3 2 → (a b : ℕ) → Has b (line_links a) → P a b
edges P p q r s = each-of-three (λ a. (b : ℕ) → Has b (line_links a) → P a b) (each-in-one (P 1) 2 p) (each-in-two (P 2) 1 3 q r) (each-in-one (P 3) 2 s) (λ t x y z b h. absurd (rw (x, y, z) at h))

-- each client lives at one of two servers
residents : (P : ℕ → ℕ → Type 0) → P 1 1 → P 3 2 → (t c : ℕ) → Has c (line_clients t) → P t c
residents P p q = each-of-three (λ t. (c : ℕ) → Has c (line_clients t) → P t c) (each-in-one (P 1) 1 p) (λ c h. absurd h) (each-in-one (P 3) 2 q) (λ t x y z c h. absurd (rw (x, z) at h))

pub numbers-laws : TheoryLaws numbers
numbers-laws = record {
  filters = record { reflexive = λ x. grind arith; transitive = λ x y z e f. grind (arith, e, f); irreflexive = λ x. grind arith; chain = λ x y z e f. grind (arith, e, f); total = λ x y e f. grind (arith, e, f) };
  adverts = record { reflexive = λ x. grind arith; transitive = λ x y z e f. grind (arith, e, f); irreflexive = λ x. grind arith; chain = λ x y z e f. grind (arith, e, f); total = λ x y e f. grind (arith, e, f) };
  sound = λ n f g e h. grind (arith, nat_tests);
  sound_advert = λ n a b e h. grind (arith, nat_tests);
  meet = λ n f a e h. refl;
}

abbrev hop : ℕ → ℕ → ℕ
hop a x = cond (a == 2) x 2

line-hops : AreHops (1 ∷ 2 ∷ 3 ∷ []) line_links hop
line-hops = record {
  distinct = ((λ h. each-in-two (λ x. (1 ≡ x) → ⊥) 2 3 (λ e. grind (arith, e)) (λ e. grind (arith, e)) 1 h refl), ((λ h. each-in-one (λ x. (2 ≡ x) → ⊥) 3 (λ e. grind (arith, e)) 2 h refl), ((λ h. h), tt)));
  single = each-of-three (λ a. IsDistinct (line_links a)) ((λ h. h), tt) ((λ h. each-in-one (λ x. (1 ≡ x) → ⊥) 3 (λ e. grind (arith, e)) 1 h refl), ((λ h. h), tt)) ((λ h. h), tt) (λ t x y z. rw (x, y, z) tt);
  linked = edges (λ a b. Has a (1 ∷ 2 ∷ 3 ∷ [])) (inl refl) (inr (inl refl)) (inr (inl refl)) (inr (inr (inl refl)));
  both = edges (λ a b. Has a (line_links b)) (inl refl) (inl refl) (inl refl) (inr (inl refl));
  apart = λ a h. edges (λ a b. (a ≡ b) → ⊥) (λ e. grind (arith, e)) (λ e. grind (arith, e)) (λ e. grind (arith, e)) (λ e. grind (arith, e)) a a h refl;
  near = λ b x h k n. each-in-three (λ b. (x ≡ b → ⊥) → Has (hop b x) (line_links b)) (λ n. inl refl) (each-in-three (λ x. (x ≡ 2 → ⊥) → Has x (1 ∷ 3 ∷ [])) (λ n. inl refl) (λ n. absurd (n refl)) (λ n. inr (inl refl)) x k) (λ n. inl refl) b h n;
  one_side = λ a b x near h. each-in-three (λ x. side hop a b x ≡ not (side hop b a x))
      (edges (λ a b. side hop a b 1 ≡ not (side hop b a 1)) refl refl refl refl a b near)
      (edges (λ a b. side hop a b 2 ≡ not (side hop b a 2)) refl refl refl refl a b near)
      (edges (λ a b. side hop a b 3 ≡ not (side hop b a 3)) refl refl refl refl a b near) x h;
}

-- phases never fall in the scripts
pub two-phases : (x y : PhasedCommand numbers) → x.phase ≤ y.phase → NeverFalls numbers (x ∷ y ∷ [])
two-phases x y l = ((λ d h. later d h), ((λ d h. absurd h), tt))
  where
    later : (d : PhasedCommand numbers) → Has d (y ∷ []) → x.phase ≤ d.phase
    later d (inl e) = subst (λ (z : PhasedCommand numbers). x.phase ≤ z.phase) (sym e) l
    later d (inr h) = absurd h

line-phases : (c : ℕ) → NeverFalls numbers (line_script c)
line-phases = each-of-three (λ c. NeverFalls numbers (line_script c)) (two-phases (record { phase = 0; command = Subscribe 1 }) (record { phase = 1; command = Unsubscribe 1 }) (omega arith)) (two-phases (record { phase = 0; command = Advertise 3 }) (record { phase = 1; command = Publish 5 }) (omega arith)) tt (λ c x y z. rw (x, y) tt)

pub home-in : (b : Bool) → Has {T = ℕ} (cond b 3 1) (1 ∷ 2 ∷ 3 ∷ [])
home-in true = inr (inr (inl refl))
home-in false = inl refl

pub line-laws : (adverts : Bool) → NetLaws numbers (line adverts)
line-laws adverts = record {
  tree = line-hops;
  small = edges (λ a b. b ≤ 64) (omega arith) (omega arith) (omega arith) (omega arith);
  counted = residents (λ t c. 1 ≤ c) (omega arith) (omega arith);
  housed = λ c. home-in (c == 2);
  lives = residents (λ t c. line_home c ≡ t) refl refl;
  single = each-of-three (λ t. IsDistinct (line_clients t)) ((λ h. h), tt) tt ((λ h. h), tt) (λ t x y z. rw (x, z) tt);
  phased = line-phases;
}

pub line-measure : (adverts : Bool) → MeasureLaws (routing_machine numbers (line adverts)) (measure numbers (line adverts) (side_size hop (1 ∷ 2 ∷ 3 ∷ [])))
line-measure adverts = spreads numbers (strict numbers numbers-laws (line adverts) (line-laws adverts)) (line adverts) (side_size hop (1 ∷ 2 ∷ 3 ∷ [])) (line-laws adverts).single (tree numbers numbers-laws (line adverts) (line-laws adverts))

pub one-phase : (x : PhasedCommand numbers) → NeverFalls numbers (x ∷ [])
one-phase x = ((λ d h. absurd h), tt)
