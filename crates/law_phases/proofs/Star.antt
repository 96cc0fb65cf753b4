-- The laws can be met: a net in a line, then in a star.
use Rattle.std.proofs.Common.{◌≡◌, ℕ, ◌==◌, ◌≤◌, ◌<◌, false, cond, [], ◌∷◌, inl, inr, refl, sym, subst, arith, not}
use Rattle.base.specs.Sets.{Has}
use Rattle.base.specs.Numbers.{IsDistinct}
use Rattle.base_tree.specs.Hops.{AreHops, side}
use Rattle.base.proofs.Numbers.{each-of-three}
use Rattle.law_routing.specs.Net.{PhasedCommand, Subscribe, Publish, NeverFalls}
use Rattle.law_routing.specs.Example.{numbers}
use Rattle.law_routing.proofs.Witness.{numbers-laws, line-laws, one-phase}
use Rattle.law_phases.specs.Trees.{Tree, JoinsServers, PhasedNetLaws, State, net_at, at_phase}
use Rattle.law_phases.specs.Moments.{opening_moment}
use Rattle.law_phases.specs.Runs.{IsPhasedRun, PhasedRun}
use Rattle.law_phases.specs.Walk.{walk_of}
use Rattle.law_phases.specs.Example.{star_links, star_tree, star_script, line_then_star}
use Rattle.law_routing.specs.Rest.{IsDrained}
use Rattle.law_phases.proofs.Walks.{walk-drains}
use Rattle.base.proofs.Sets.{each-in-one, each-in-two, each-in-three}

-- each edge of the star is one of four
edges : (P : ℕ → ℕ → Type 0) → P 1 2 → P 1 3 → P 2 1 → P 3 1 → (a b : ℕ) → Has b (star_links a) → P a b
edges P p q r s = each-of-three (λ a. (b : ℕ) → Has b (star_links a) → P a b) (each-in-two (P 1) 2 3 p q) (each-in-one (P 2) 1 r) (each-in-one (P 3) 1 s) (λ t x y z b h. absurd (rw (x, y, z) at h))

abbrev hop : ℕ → ℕ → ℕ
hop a x = cond (a == 1) x 1

star-hops : AreHops (1 ∷ 2 ∷ 3 ∷ []) star_links hop
star-hops = record {
  distinct = (line-laws false).tree.distinct;
  single = each-of-three (λ a. IsDistinct (star_links a)) ((λ h. each-in-one (λ x. (2 ≡ x) → ⊥) 3 (λ e. grind (arith, e)) 2 h refl), ((λ h. h), tt)) ((λ h. h), tt) ((λ h. h), tt) (λ t x y z. rw (x, y, z) tt);
  linked = edges (λ a b. Has a (1 ∷ 2 ∷ 3 ∷ [])) (inl refl) (inl refl) (inr (inl refl)) (inr (inr (inl refl)));
  both = edges (λ a b. Has a (star_links b)) (inl refl) (inl refl) (inl refl) (inr (inl refl));
  apart = λ a h. edges (λ a b. (a ≡ b) → ⊥) (λ e. grind (arith, e)) (λ e. grind (arith, e)) (λ e. grind (arith, e)) (λ e. grind (arith, e)) a a h refl;
  near = λ b x h k n. each-in-three (λ b. (x ≡ b → ⊥) → Has (hop b x) (star_links b)) (each-in-three (λ x. (x ≡ 1 → ⊥) → Has x (2 ∷ 3 ∷ [])) (λ n. absurd (n refl)) (λ n. inl refl) (λ n. inr (inl refl)) x k) (λ n. inl refl) (λ n. inl refl) b h n;
  one_side = λ a b x near h. each-in-three (λ x. side hop a b x ≡ not (side hop b a x))
      (edges (λ a b. side hop a b 1 ≡ not (side hop b a 1)) refl refl refl refl a b near)
      (edges (λ a b. side hop a b 2 ≡ not (side hop b a 2)) refl refl refl refl a b near)
      (edges (λ a b. side hop a b 3 ≡ not (side hop b a 3)) refl refl refl refl a b near) x h;
}

star-joins : JoinsServers (1 ∷ 2 ∷ 3 ∷ []) star_tree
star-joins = record { hops = star-hops; small = edges (λ a b. b ≤ 64) (omega arith) (omega arith) (omega arith) (omega arith) }

star-phases : (c : ℕ) → NeverFalls numbers (star_script c)
star-phases = each-of-three (λ c. NeverFalls numbers (star_script c)) (one-phase (record { phase = 0; command = Subscribe 0 })) (one-phase (record { phase = 1; command = Publish 1 })) tt (λ c x y z. rw (x, y) tt)

pub star-laws : PhasedNetLaws numbers line_then_star
star-laws = record {
  first = record { hops = (line-laws false).tree; small = (line-laws false).small };
  later = λ next h. only next h;
  rising = (omega arith, tt);
  counted = (line-laws false).counted;
  housed = (line-laws false).housed;
  lives = (line-laws false).lives;
  single = (line-laws false).single;
  phased = star-phases;
}
  where
    only : (next : ℕ × Tree) → Has next ((1, star_tree) ∷ []) → JoinsServers (1 ∷ 2 ∷ 3 ∷ []) next.1
    only next (inl e) = subst (λ (z : ℕ × Tree). JoinsServers (1 ∷ 2 ∷ 3 ∷ []) z.1) (sym e) star-joins
    only next (inr h) = absurd h

-- its walk is a legal run, and ends drained
phases-low : (c : ℕ) (x : PhasedCommand numbers) → Has x (star_script c) → x.phase < 2
phases-low = each-of-three (λ c. (x : PhasedCommand numbers) → Has x (star_script c) → x.phase < 2) (one (record { phase = 0; command = Subscribe 0 }) (omega arith)) (one (record { phase = 1; command = Publish 1 }) (omega arith)) (λ x h. absurd h) (λ c y z w x h. absurd (rw (y, z) at h))
  where
    one : (y : PhasedCommand numbers) → y.phase < 2 → (x : PhasedCommand numbers) → Has x (y ∷ []) → x.phase < 2
    one y l x (inl e) = subst (λ (z : PhasedCommand numbers). z.phase < 2) (sym e) l
    one y l x (inr h) = absurd h

-- the empty run
abbrev none : PhasedRun numbers
none = record { net = line_then_star; laws = star-laws; journal = []; end = (opening_moment numbers line_then_star).state; last = 0; legal = (refl, refl) }

pub star-walks : (end : State numbers) × (last : ℕ) × IsPhasedRun numbers line_then_star (opening_moment numbers line_then_star).state 0 (walk_of numbers line_then_star 2 (opening_moment numbers line_then_star)) end last × IsDrained numbers (net_at numbers line_then_star last) (at_phase numbers line_then_star last end)
star-walks = walk-drains numbers numbers-laws none 2 phases-low (omega arith)
