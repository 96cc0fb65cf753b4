-- Proves that the worked nets meet the laws of nets.
use Rattle.std.proofs.Common.{◌≡◌, ℕ, ◌==◌, ◌≤◌, Bool, true, false, cond, List, [], ◌∷◌, inl, inr, refl, sym, subst, arith, not}
use Rattle.base.specs.Sets.{Has}
use Rattle.base.specs.Numbers.{IsDistinct}
use Rattle.base_tree.specs.Hops.{AreHops, side}
use Rattle.law_routing.specs.Net.{NetLaws, NeverFalls, PhasedCommand, Subscribe, Unsubscribe, Advertise, Unadvertise, Publish}
use Rattle.law_routing.proofs.Witness.{line-laws, home-in}
use Rattle.law_examples.specs.Ranges.{Below, Equal, Above, AtLeast, Any, ranges}
use Rattle.law_examples.specs.SmallNets.{in_phase, pair_links, line_clients, line_of, wide_and_narrow, withdrawn_wide, equal_ranges, advertised_small, subscribed_again, withdrawn_pair, advertiser, advertised_late, advertised_until, both_publish, far_then_near}
use Rattle.base.proofs.Numbers.{each-of-three}
use Rattle.base.proofs.Sets.{each-in-one, each-in-two, distinct-one}
use Rattle.law_hierarchy.proofs.Nets.{edges}

one-two : IsDistinct (1 ∷ 2 ∷ [])
one-two = ((λ h. each-in-one (λ x. (1 ≡ x) → ⊥) 2 (λ e. grind (arith, e)) 1 h refl), ((λ h. h), tt))

-- phases never fall where each command is no later than the next
abbrev pub Rises : List (PhasedCommand ranges) → Type 0
Rises [] = Unit {0}
Rises (x ∷ []) = Unit {0}
Rises (x ∷ y ∷ rest) = (x.phase ≤ y.phase) × Rises (y ∷ rest)

pub rises : (commands : List (PhasedCommand ranges)) → Rises commands → NeverFalls ranges commands
rises [] r = tt
rises (x ∷ []) r = ((λ d h. absurd h), tt)
rises (x ∷ y ∷ rest) r = go (rises (y ∷ rest) r.1)
  where
    go : NeverFalls ranges (y ∷ rest) → NeverFalls ranges (x ∷ y ∷ rest)
    go ih = ((λ d h. elim h [ inl e ↦ subst (λ (z : PhasedCommand ranges). x.phase ≤ z.phase) (sym e) r.0 | inr k ↦ later d k (ih.0 d k) ]), ih)
      where
        later : (d : PhasedCommand ranges) → Has d rest → y.phase ≤ d.phase → x.phase ≤ d.phase
        later d k l = omega (arith, r.0, l)

residents : (P : ℕ → ℕ → Type 0) → P 1 1 → P 1 2 → P 3 3 → (t c : ℕ) → Has c (line_clients t) → P t c
residents P p q r = each-of-three (λ t. (c : ℕ) → Has c (line_clients t) → P t c) (each-in-two (P 1) 1 2 p q) (λ c h. absurd h) (each-in-one (P 3) 3 r) (λ t x y z c h. absurd (rw (x, z) at h))

line-lawful : (one two three : List (PhasedCommand ranges)) → Rises one → Rises two → Rises three → NetLaws ranges (line_of one two three)
line-lawful one two three r s t = record {
  tree = (line-laws false).tree;
  small = (line-laws false).small;
  counted = residents (λ t c. 1 ≤ c) (omega arith) (omega arith) (omega arith);
  housed = λ c. home-in (c == 3);
  lives = residents (λ t c. (line_of one two three).home c ≡ t) refl refl refl;
  single = each-of-three (λ t. IsDistinct (line_clients t)) one-two tt (distinct-one 3) (λ t x y z. rw (x, z) tt);
  phased = each-of-three (λ c. NeverFalls ranges ((line_of one two three).script c)) (rises one r) (rises two s) (rises three t) (λ c x y z. rw (x, y, z) tt);
}

pub wide_and_narrow-lawful : NetLaws ranges wide_and_narrow
wide_and_narrow-lawful = line-lawful (in_phase 0 (Subscribe Any) ∷ []) (in_phase 0 (Subscribe (Above 5)) ∷ []) [] tt tt tt

pub withdrawn_wide-lawful : NetLaws ranges withdrawn_wide
withdrawn_wide-lawful = line-lawful (in_phase 0 (Subscribe Any) ∷ in_phase 1 (Unsubscribe Any) ∷ []) (in_phase 0 (Subscribe (Above 5)) ∷ []) (in_phase 1 (Publish 9) ∷ []) (omega arith, tt) tt tt

pair-hops : AreHops (1 ∷ 2 ∷ []) pair_links (λ a x. x)
pair-hops = record {
  distinct = one-two;
  single = each-of-three (λ a. IsDistinct (pair_links a)) (distinct-one 2) (distinct-one 1) tt (λ t x y z. rw (x, y) tt);
  linked = edges (λ a b. Has a (1 ∷ 2 ∷ [])) (inl refl) (inr (inl refl));
  both = edges (λ a b. Has a (pair_links b)) (inl refl) (inl refl);
  apart = λ a h. edges (λ a b. (a ≡ b) → ⊥) (λ e. grind (arith, e)) (λ e. grind (arith, e)) a a h refl;
  near = λ b x h k n. each-in-two (λ b. (x ≡ b → ⊥) → Has x (pair_links b)) 1 2 (each-in-two (λ x. (x ≡ 1 → ⊥) → Has x (2 ∷ [])) 1 2 (λ n. absurd (n refl)) (λ n. inl refl) x k) (each-in-two (λ x. (x ≡ 2 → ⊥) → Has x (1 ∷ [])) 1 2 (λ n. inl refl) (λ n. absurd (n refl)) x k) b h n;
  one_side = λ a b x near h. each-in-two (λ x. side (λ a x. x) a b x ≡ not (side (λ a x. x) b a x)) 1 2
      (edges (λ a b. side (λ a x. x) a b 1 ≡ not (side (λ a x. x) b a 1)) refl refl a b near)
      (edges (λ a b. side (λ a x. x) a b 2 ≡ not (side (λ a x. x) b a 2)) refl refl a b near) x h;
}

pair-small : (a b : ℕ) → Has b (pair_links a) → b ≤ 64
pair-small = edges (λ a b. b ≤ 64) (omega arith) (omega arith)

at-one : (P : ℕ → ℕ → Type 0) → P 1 1 → P 1 2 → (t c : ℕ) → Has c (equal_ranges.clients t) → P t c
at-one P p q = each-of-three (λ t. (c : ℕ) → Has c (equal_ranges.clients t) → P t c) (each-in-two (P 1) 1 2 p q) (λ c h. absurd h) (λ c h. absurd h) (λ t x y z c h. absurd (rw x at h))

one-each : (P : ℕ → ℕ → Type 0) → P 1 1 → P 2 2 → (t c : ℕ) → Has c (advertised_small.clients t) → P t c
one-each P p q = each-of-three (λ t. (c : ℕ) → Has c (advertised_small.clients t) → P t c) (each-in-one (P 1) 1 p) (each-in-one (P 2) 2 q) (λ c h. absurd h) (λ t x y z c h. absurd (rw (x, y) at h))

pub equal_ranges-lawful : NetLaws ranges equal_ranges
equal_ranges-lawful = record {
  tree = pair-hops;
  small = pair-small;
  counted = at-one (λ t c. 1 ≤ c) (omega arith) (omega arith);
  housed = λ c. inl refl;
  lives = at-one (λ t c. 1 ≡ t) refl refl;
  single = each-of-three (λ t. IsDistinct (equal_ranges.clients t)) one-two tt tt (λ t x y z. rw x tt);
  phased = each-of-three (λ c. NeverFalls ranges (equal_ranges.script c)) (rises (in_phase 0 (Subscribe (Above 1)) ∷ in_phase 1 (Unsubscribe (Above 1)) ∷ []) (omega arith, tt)) (rises (in_phase 0 (Subscribe (AtLeast 2)) ∷ []) tt) tt (λ c x y z. rw (x, y) tt);
}

pair-home : (b : Bool) → Has {T = ℕ} (cond b 2 1) (1 ∷ 2 ∷ [])
pair-home true = inr (inl refl)
pair-home false = inl refl

pub advertised_small-lawful : NetLaws ranges advertised_small
advertised_small-lawful = record {
  tree = pair-hops;
  small = pair-small;
  counted = one-each (λ t c. 1 ≤ c) (omega arith) (omega arith);
  housed = λ c. pair-home (c == 2);
  lives = one-each (λ t c. advertised_small.home c ≡ t) refl refl;
  single = each-of-three (λ t. IsDistinct (advertised_small.clients t)) (distinct-one 1) (distinct-one 2) tt (λ t x y z. rw (x, y) tt);
  phased = each-of-three (λ c. NeverFalls ranges (advertised_small.script c)) (rises (in_phase 0 (Advertise (Below 3)) ∷ []) tt) (rises (in_phase 1 (Subscribe (Above 5)) ∷ in_phase 2 (Subscribe (Below 9)) ∷ []) (omega arith, tt)) tt (λ c x y z. rw (x, y) tt);
}

pub withdrawn_pair-lawful : NetLaws ranges withdrawn_pair
withdrawn_pair-lawful = record {
  tree = pair-hops;
  small = pair-small;
  counted = one-each (λ t c. 1 ≤ c) (omega arith) (omega arith);
  housed = λ c. pair-home (c == 2);
  lives = one-each (λ t c. withdrawn_pair.home c ≡ t) refl refl;
  single = each-of-three (λ t. IsDistinct (withdrawn_pair.clients t)) (distinct-one 1) (distinct-one 2) tt (λ t x y z. rw (x, y) tt);
  phased = each-of-three (λ c. NeverFalls ranges (withdrawn_pair.script c)) (rises (in_phase 0 (Subscribe Any) ∷ in_phase 1 (Unsubscribe Any) ∷ []) (omega arith, tt)) (rises (in_phase 1 (Publish 9) ∷ []) tt) tt (λ c x y z. rw (x, y) tt);
}

-- one server
alone : AreHops (1 ∷ []) (λ server. []) (λ a x. x)
alone = record {
  distinct = distinct-one 1;
  single = λ a. tt;
  linked = λ a b h. absurd h;
  both = λ a b h. absurd h;
  apart = λ a h. h;
  near = λ b x h k n. absurd (n (each-in-one (λ x. x ≡ b) 1 (each-in-one (λ b. 1 ≡ b) 1 refl b h) x k));
  one_side = λ a b x h i. absurd h;
}

pub subscribed_again-lawful : NetLaws ranges subscribed_again
subscribed_again-lawful = record {
  tree = alone;
  small = λ a b h. absurd h;
  counted = at-one (λ t c. 1 ≤ c) (omega arith) (omega arith);
  housed = λ c. inl refl;
  lives = at-one (λ t c. 1 ≡ t) refl refl;
  single = each-of-three (λ t. IsDistinct (subscribed_again.clients t)) one-two tt tt (λ t x y z. rw x tt);
  phased = each-of-three (λ c. NeverFalls ranges (subscribed_again.script c)) (rises (in_phase 0 (Subscribe (Above 5)) ∷ in_phase 0 (Subscribe (Equal 1)) ∷ in_phase 0 (Subscribe Any) ∷ in_phase 1 (Unsubscribe Any) ∷ in_phase 1 (Subscribe Any) ∷ []) (omega arith, (omega arith, (omega arith, (omega arith, tt))))) (rises (in_phase 1 (Publish 8) ∷ []) tt) tt (λ c x y z. rw (x, y) tt);
}

advertiser-lawful : (one : List (PhasedCommand ranges)) → Rises one → NetLaws ranges (advertiser one)
advertiser-lawful one r = record {
  tree = pair-hops;
  small = pair-small;
  counted = one-each (λ t c. 1 ≤ c) (omega arith) (omega arith);
  housed = λ c. pair-home (c == 2);
  lives = one-each (λ t c. advertised_small.home c ≡ t) refl refl;
  single = each-of-three (λ t. IsDistinct (advertised_small.clients t)) (distinct-one 1) (distinct-one 2) tt (λ t x y z. rw (x, y) tt);
  phased = each-of-three (λ c. NeverFalls ranges ((advertiser one).script c)) (rises one r) (rises (in_phase 0 (Subscribe Any) ∷ []) tt) tt (λ c x y z. rw (x, y) tt);
}

pub advertised_late-lawful : NetLaws ranges advertised_late
advertised_late-lawful = advertiser-lawful (in_phase 1 (Advertise Any) ∷ in_phase 1 (Publish 9) ∷ []) (omega arith, tt)

pub advertised_until-lawful : NetLaws ranges advertised_until
advertised_until-lawful = advertiser-lawful (in_phase 0 (Advertise Any) ∷ in_phase 1 (Publish 9) ∷ in_phase 1 (Unadvertise Any) ∷ []) (omega arith, (omega arith, tt))

pub both_publish-lawful : NetLaws ranges both_publish
both_publish-lawful = line-lawful (in_phase 0 (Subscribe Any) ∷ in_phase 1 (Publish 1) ∷ []) [] (in_phase 0 (Subscribe Any) ∷ in_phase 1 (Publish 3) ∷ []) (omega arith, tt) tt (omega arith, tt)

pub far_then_near-lawful : NetLaws ranges far_then_near
far_then_near-lawful = line-lawful (in_phase 0 (Subscribe Any) ∷ []) (in_phase 2 (Publish 1) ∷ []) (in_phase 1 (Publish 3) ∷ []) tt tt tt
