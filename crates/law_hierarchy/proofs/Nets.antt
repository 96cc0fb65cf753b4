-- The pair and the chain of servers keep the laws of a hierarchy.
use Rattle.std.proofs.Common.{◌≡◌, ℕ, ◌==◌, ◌≤◌, cond, Bool, true, false, [], ◌∷◌, inl, inr, refl, sym, subst, arith, not}
use Rattle.base.specs.Sets.{Has}
use Rattle.base.specs.Numbers.{IsDistinct}
use Rattle.base_tree.specs.Hops.{AreHops, side}
use Rattle.law_machine.proofs.Lists.{Same, Is, Not, compare}
use Rattle.law_routing.specs.Net.{NeverFalls, Subscribe, Unsubscribe, Publish}
use Rattle.law_routing.specs.Example.{numbers}
use Rattle.law_routing.proofs.Witness.{line-laws, one-phase, two-phases}
use Rattle.law_hierarchy.specs.Masters.{HierarchyLaws}
use Rattle.law_hierarchy.specs.Example.{pair, pair_links, pair_clients, pair_script, chain, chain_clients, chain_home, chain_script}
use Rattle.base.proofs.Sets.{each-in-one, each-in-two, distinct-one}
use Rattle.base.proofs.Numbers.{each-of-three}

-- what holds of 1, 2 and of the others holds of all
each : (P : ℕ → Type 0) → P 1 → P 2 → ((t : ℕ) → (t == 1) ≡ false → (t == 2) ≡ false → P t) → (t : ℕ) → P t
each P p q s t = by (compare t 1) (compare t 2)
  where
    by : Same t 1 → Same t 2 → P t
    by (Is e v) y = subst P (sym e) p
    by (Not n v) (Is e v') = subst P (sym e) q
    by (Not n v) (Not n' v') = s t v v'

-- each edge is one of two
pub edges : (P : ℕ → ℕ → Type 0) → P 1 2 → P 2 1 → (a b : ℕ) → Has b (pair_links a) → P a b
edges P p q = each (λ a. (b : ℕ) → Has b (pair_links a) → P a b) (each-in-one (P 1) 2 p) (each-in-one (P 2) 1 q) (λ t x y b h. absurd (rw (x, y) at h))

residents : (P : ℕ → ℕ → Type 0) → P 2 1 → P 2 2 → (t c : ℕ) → Has c (pair_clients t) → P t c
residents P p q = each (λ t. (c : ℕ) → Has c (pair_clients t) → P t c) (λ c h. absurd h) (each-in-two (P 2) 1 2 p q) (λ t x y c h. absurd (rw y at h))

one-two : IsDistinct (1 ∷ 2 ∷ [])
one-two = ((λ h. each-in-one (λ x. (1 ≡ x) → ⊥) 2 (λ e. grind (arith, e)) 1 h refl), ((λ h. h), tt))

pair-hops : AreHops (1 ∷ 2 ∷ []) pair_links (λ a x. x)
pair-hops = record {
  distinct = one-two;
  single = each (λ a. IsDistinct (pair_links a)) (distinct-one 2) (distinct-one 1) (λ t x y. rw (x, y) tt);
  linked = edges (λ a b. Has a (1 ∷ 2 ∷ [])) (inl refl) (inr (inl refl));
  both = edges (λ a b. Has a (pair_links b)) (inl refl) (inl refl);
  apart = λ a h. edges (λ a b. (a ≡ b) → ⊥) (λ e. grind (arith, e)) (λ e. grind (arith, e)) a a h refl;
  near = λ b x h k n. each-in-two (λ b. (x ≡ b → ⊥) → Has x (pair_links b)) 1 2 (each-in-two (λ x. (x ≡ 1 → ⊥) → Has x (2 ∷ [])) 1 2 (λ n. absurd (n refl)) (λ n. inl refl) x k) (each-in-two (λ x. (x ≡ 2 → ⊥) → Has x (1 ∷ [])) 1 2 (λ n. inl refl) (λ n. absurd (n refl)) x k) b h n;
  one_side = λ a b x near h. each-in-two (λ x. side (λ a x. x) a b x ≡ not (side (λ a x. x) b a x)) 1 2
      (edges (λ a b. side (λ a x. x) a b 1 ≡ not (side (λ a x. x) b a 1)) refl refl a b near)
      (edges (λ a b. side (λ a x. x) a b 2 ≡ not (side (λ a x. x) b a 2)) refl refl a b near) x h;
}

pub pair-laws : (adverts : Bool) → HierarchyLaws numbers (pair adverts)
pair-laws adverts = record {
  lawful = record {
    tree = pair-hops;
    small = edges (λ a b. b ≤ 64) (omega arith) (omega arith);
    counted = residents (λ t c. 1 ≤ c) (omega arith) (omega arith);
    housed = λ c. inr (inl refl);
    lives = residents (λ t c. 2 ≡ t) refl refl;
    single = each (λ t. IsDistinct (pair_clients t)) tt one-two (λ t x y. rw y tt);
    phased = each (λ c. NeverFalls numbers (pair_script c)) (one-phase (record { phase = 0; command = Subscribe 6 })) (one-phase (record { phase = 1; command = Publish 9 })) (λ c x y. rw (x, y) tt);
  };
  topped = inl refl;
}

chain-residents : (P : ℕ → ℕ → Type 0) → P 1 3 → P 3 1 → P 3 2 → (t c : ℕ) → Has c (chain_clients t) → P t c
chain-residents P p q r = each-of-three (λ t. (c : ℕ) → Has c (chain_clients t) → P t c) (each-in-one (P 1) 3 p) (λ c h. absurd h) (each-in-two (P 3) 1 2 q r) (λ t x y z c h. absurd (rw (x, z) at h))

pub chain-laws : HierarchyLaws numbers chain
chain-laws = record {
  lawful = record {
    tree = (line-laws false).tree;
    small = (line-laws false).small;
    counted = chain-residents (λ t c. 1 ≤ c) (omega arith) (omega arith) (omega arith);
    housed = λ c. housed (c == 3);
    lives = chain-residents (λ t c. chain_home c ≡ t) refl refl refl;
    single = each-of-three (λ t. IsDistinct (chain_clients t)) (distinct-one 3) tt one-two (λ t x y z. rw (x, z) tt);
    phased = each-of-three (λ c. NeverFalls numbers (chain_script c)) (two-phases (record { phase = 0; command = Subscribe 3 }) (record { phase = 1; command = Unsubscribe 3 }) (omega arith)) (one-phase (record { phase = 0; command = Subscribe 6 }))
        (two-phases (record { phase = 2; command = Publish 9 }) (record { phase = 2; command = Publish 4 }) (omega arith)) (λ c x y z. rw (x, y, z) tt);
  };
  topped = inl refl;
}
  where
    housed : (b : Bool) → Has {T = ℕ} (cond b 1 3) (1 ∷ 2 ∷ 3 ∷ [])
    housed true = inl refl
    housed false = inr (inr (inl refl))
