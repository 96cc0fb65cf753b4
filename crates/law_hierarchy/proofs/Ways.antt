-- The servers of the way from a server to the top are those that have it at or below them.
use Rattle.std.proofs.Common.{◌≡◌, ℕ, ◌==◌, Bool, true, false, not, ◌&&◌, ◌↔◌, List, [], ◌∷◌, inl, inr, refl, sym, ap, subst, ◌∙◌, ne_eqb}
use Rattle.base.specs.Sets.{Has}
use Rattle.base_tree.specs.Hops.{side}
use Rattle.law_machine.proofs.Lists.{Same, Is, Not, compare}
use Rattle.law_routing.specs.Theory.{Theory, TheoryLaws}
use Rattle.law_routing.specs.Net.{Net}
use Rattle.law_routing.specs.Rest.{IsOnwardWay, end_of}
use Rattle.law_routing.proofs.Paths.{path-to, way-by-hops}
use Rattle.law_routing.proofs.Sides.{side-hop, other-side, not-both, side-here}
use Rattle.law_hierarchy.specs.Masters.{top, master, IsBelow, HierarchyLaws}
use Rattle.law_hierarchy.proofs.Shadow.{master-near, is-top}
use Rattle.law_hierarchy.proofs.Networks.{masters-apart}
use Rattle.law_hierarchy.proofs.Listened.{side-master}
use Rattle.law_hierarchy.proofs.Carried.{way-side}
use Rattle.std.proofs.lemmas.Bool.{true≢false}

flat : (b : Bool) → b && false ≡ false
flat true = refl
flat false = refl

module _ (th : Theory) (laws : TheoryLaws th) (net : Net th) (good : HierarchyLaws th net) (x : ℕ) (housed : Has x net.servers) where
  -- it lies at a server or below it
  pub below-side : (t : ℕ) → Has t net.servers → (t ≡ top → ⊥) → IsBelow th net x t → side net.hop (master th net t) t x ≡ true
  below-side t here n b =
      subst (λ z. side net.hop (master th net t) t z ≡ true) b.end
      (way-side th laws net good (master th net t) (master th net t) t b.path
      (good.lawful.tree.both t (master th net t) (master-near th laws net good t here n), (λ e. good.lawful.tree.apart t (subst (λ z. Has z (net.links t)) (sym e) (master-near th laws net good t here n))), b.way)
      (subst (λ z. Has z net.servers) (sym b.end) housed))

  pub side-below : (t : ℕ) → Has t net.servers → (t ≡ top → ⊥) → side net.hop (master th net t) t x ≡ true → IsBelow th net x t
  side-below t here n s = let y = path-to th laws net good.lawful t x here housed in go y.path y.way y.end
    where
      go : (path : List ℕ) → IsOnwardWay th net t t path → end_of th net t path ≡ x → IsBelow th net x t
      go [] way e = record { path = []; way = tt; end = e }
      go (u ∷ path) way e = record { path = u ∷ path; way = (way.0, turns, way.2); end = e }
        where
          beyond : side net.hop t u x ≡ true
          beyond = subst (λ z. side net.hop t u z ≡ true) e (way-side th laws net good t t u path way (subst (λ z. Has z net.servers) (sym e) housed))

          turns : u ≡ master th net t → ⊥
          turns q = true≢false (sym s ∙ not-both net.servers net.links net.hop good.lawful.tree t (master th net t) x (master-near th laws net good t here n) housed (subst (λ z. side net.hop t z x ≡ true) q beyond))

  -- on a way up, it lies on this side of the next link
  abbrev pub IsUnder : ℕ → List ℕ → Type 0
  IsUnder t [] = Unit {0}
  IsUnder t (u ∷ path) = side net.hop u t x ≡ true

  pub under-next : (before t u : ℕ) (path : List ℕ) → IsOnwardWay th net before t (u ∷ path) → side net.hop u t x ≡ true → IsUnder u path
  under-next before t u [] way s = tt
  under-next before t u (v ∷ path) way s = other-side net.servers net.links net.hop good.lawful.tree u v x way.2.0 housed (rw (ne_eqb (net.hop u x) v (λ e. way.2.1 (sym e ∙ side-hop net.hop u t x s))) (flat (not (x == u))))

  pub from-home : (path : List ℕ) → IsOnwardWay th net x x path → IsUnder x path
  from-home [] way = tt
  from-home (u ∷ path) way = other-side net.servers net.links net.hop good.lawful.tree x u x way.0 housed (side-here net.hop x u)

  -- the next server of a way to the top is the master
  pub up-is : (before t u : ℕ) (path : List ℕ) → IsOnwardWay th net before t (u ∷ path) → end_of th net u path ≡ top → master th net t ≡ u
  up-is before t u path way e = ap (net.hop t) (sym e) ∙ way-by-hops th laws net good.lawful before t u path way (subst (λ z. Has z net.servers) (sym e) good.topped)

  -- the servers of the way have it at or below them
  has-below : (before t : ℕ) (path : List ℕ) → IsOnwardWay th net before t path → end_of th net t path ≡ top → IsUnder t path → (a : ℕ) → Has a net.servers → (a ≡ top → ⊥) → Has a (t ∷ path) → IsBelow th net x a
  has-below before t [] way e s a here n (inl q) = absurd (n (q ∙ e))
  has-below before t [] way e s a here n (inr h) = absurd h
  has-below before t (u ∷ path) way e s a here n (inr h) = has-below t u path way.2 e (under-next before t u path way s) a here n h
  has-below before t (u ∷ path) way e s a here n (inl q) = side-below a here n (subst (λ z. side net.hop (master th net z) z x ≡ true) (sym q) (subst (λ z. side net.hop z t x ≡ true) (sym (up-is before t u path way e)) s))

-- and no others
module _ (th : Theory) (laws : TheoryLaws th) (net : Net th) (good : HierarchyLaws th net) where
  -- a neighbour of a way's end is reached by a way that begins as that one, or is where it began
  reach : (before a c : ℕ) (path : List ℕ) → IsOnwardWay th net before a (c ∷ path) → (u : ℕ) → Has u (net.links (end_of th net c path)) → (u ≡ a → ⊥) → (more : List ℕ) × IsOnwardWay th net before a (c ∷ more) × (end_of th net c more ≡ u)
  reach before a c [] way u near n = (u ∷ [], (way.0, way.1, (near, n, tt)), refl)
  reach before a c (d ∷ path) way u near n = go (compare u c) (λ m. reach a c d path way.2 u near m)
    where
      go : Same u c → ((u ≡ c → ⊥) → (more : List ℕ) × IsOnwardWay th net a c (d ∷ more) × (end_of th net d more ≡ u)) → (more : List ℕ) × IsOnwardWay th net before a (c ∷ more) × (end_of th net c more ≡ u)
      go (Is e v) ih = ([], (way.0, way.1, tt), sym e)
      go (Not m v) ih = let r = ih m in (d ∷ r.0, (way.0, way.1, r.1), r.2)

  module _ (a : ℕ) (here : Has a net.servers) (n : a ≡ top → ⊥) where
    -- what lies below a server has its neighbours at or below it
    stays : (t u : ℕ) → Has t net.servers → Has u (net.links t) → (t ≡ a → ⊥) → side net.hop (master th net a) a t ≡ true → side net.hop (master th net a) a u ≡ true
    stays t u i near m s = go (compare u a)
      where
        up-near : Has (master th net a) (net.links a)
        up-near = master-near th laws net good a here n

        there : Has u net.servers
        there = good.lawful.tree.linked u t (good.lawful.tree.both t u near)

        go : Same u a → side net.hop (master th net a) a u ≡ true
        go (Is e v) = subst (λ z. side net.hop (master th net a) a z ≡ true) (sym e) (other-side net.servers net.links net.hop good.lawful.tree a (master th net a) a up-near here (side-here net.hop a (master th net a)))
        go (Not k v) = let p = path-to th laws net good.lawful a t here i in by p.path p.way p.end
          where
            by : (path : List ℕ) → IsOnwardWay th net a a path → end_of th net a path ≡ t → side net.hop (master th net a) a u ≡ true
            by [] way e = absurd (m (sym e))
            by (c ∷ path) way e =
                let r = reach a a c path way u (subst (λ z. Has u (net.links z)) (sym e) near) k in
                let first : net.hop a u ≡ c = subst (λ z. net.hop a z ≡ c) r.2 (way-by-hops th laws net good.lawful a a c r.0 r.1 (subst (λ z. Has z net.servers) (sym r.2) there)) in
                let beyond : side net.hop a c t ≡ true = subst (λ z. side net.hop a c z ≡ true) e (way-side th laws net good a a c path way (subst (λ z. Has z net.servers) (sym e) i)) in
                other-side net.servers net.links net.hop good.lawful.tree a (master th net a) u up-near there
                (rw (ne_eqb (net.hop a u) (master th net a) (λ q. true≢false (sym s ∙ not-both net.servers net.links net.hop good.lawful.tree a (master th net a) t up-near i (subst (λ z. side net.hop a z t ≡ true) (sym first ∙ q) beyond)))) (flat (not (u == a))))

    below-has : (before t : ℕ) (path : List ℕ) → Has t net.servers → IsOnwardWay th net before t path → end_of th net t path ≡ top → side net.hop (master th net a) a t ≡ true → Has a (t ∷ path)
    below-has before t [] i way e s = absurd (true≢false (sym (sym (side-master th laws net good (master th net a) a) ∙ subst (λ z. side net.hop (master th net a) a z ≡ true) e s) ∙ masters-apart th laws net good a (master th net a) (master-near th laws net good a here n) (is-top th laws net good a n)))
    below-has before t (u ∷ path) i way e s = go (compare a t) (λ q. below-has t u path (good.lawful.tree.linked u t (good.lawful.tree.both t u way.0)) way.2 e q)
      where
        go : Same a t → (side net.hop (master th net a) a u ≡ true → Has a (u ∷ path)) → Has a (t ∷ u ∷ path)
        go (Is q v) ih = inl q
        go (Not m v) ih = inr (ih (stays t u i way.0 (λ q. m (sym q)) s))

  pub on-the-way : (x : ℕ) → Has x net.servers → (path : List ℕ) → IsOnwardWay th net x x path → end_of th net x path ≡ top → (a : ℕ) → Has a net.servers → (a ≡ top → ⊥) → Has a (x ∷ path) ↔ IsBelow th net x a
  on-the-way x housed path way e a here n = (
    (λ h. has-below th laws net good x housed x x path way e (from-home th laws net good x housed path way) a here n h),
    (λ b. below-has a here n x x path housed way e (below-side th laws net good x housed a here n b)),
  )
