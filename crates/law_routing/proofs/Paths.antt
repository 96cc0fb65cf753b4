-- From each server to each other there is a way.
use Rattle.std.proofs.Common.{◌≡◌, ℕ, zero, suc, ◌≤◌, Bool, true, false, List, [], ◌∷◌, refl, sym, subst, arith, eq-eqb, ne_eqb}
use Rattle.base.proofs.Numbers.{Same, Is, Not, compare}
use Rattle.law_machine.specs.Machine.{Has}
use Rattle.base_tree.specs.Hops.{side, side_size}
use Rattle.law_routing.specs.Theory.{Theory, TheoryLaws}
use Rattle.law_routing.specs.Net.{Net, NetLaws}
use Rattle.law_routing.specs.Rest.{IsOnwardWay, end_of}
use Rattle.law_routing.proofs.Sides.{one-way, side-here, side-hop, not-both, other-side}
use Rattle.law_routing.proofs.Along.{tree, part-weight}

module _ (th : Theory) (laws : TheoryLaws th) (net : Net th) (good : NetLaws th net) where
  pub record Path (prior t x : ℕ) : Type 0 where
    pub path : List ℕ
    pub way : IsOnwardWay th net prior t path
    pub end : end_of th net t path ≡ x

  hop-side : (t x : ℕ) → (x ≡ t → ⊥) → side net.hop t (net.hop t x) x ≡ true
  hop-side t x n = rw (ne_eqb x t n, eq-eqb (net.hop t x) (net.hop t x) refl) refl

  -- from u, beyond t, on to x
  onward : (n t u x : ℕ) → Has u (net.links t) → Has x net.servers → side net.hop t u x ≡ true → side_size net.hop net.servers t u ≤ n → Path t u x
  onward zero t u x near i s le = absurd (omega (arith, (tree th laws net good).weighs t u near))
  onward (suc n) t u x near i s le = go (compare x u) (λ v a b c. onward n u v x a i b c)
    where
      messages_to : {b : Bool} → b ≡ true → b ≡ false → ⊥
      messages_to e f = cc

      go : Same x u → ((v : ℕ) → Has v (net.links u) → side net.hop u v x ≡ true → side_size net.hop net.servers u v ≤ n → Path u v x) → Path t u x
      go (Is p f) ih = record { path = []; way = tt; end = sym p }
      go (Not k f) ih =
          let here : Has u net.servers = good.tree.linked u t (good.tree.both t u near) in
          let next : ℕ = net.hop u x in
          let near' : Has next (net.links u) = good.tree.near u x here i k in
          let ne : next ≡ t → ⊥ = λ e. messages_to (subst (λ z. side net.hop u z x ≡ true) e (hop-side u x k)) (not-both net.servers net.links net.hop good.tree t u x near i s) in
          let less : side_size net.hop net.servers u next ≤ n = omega (arith, le, (tree th laws net good).weighs t u near, part-weight (side_size net.hop net.servers u) t next (net.links u) near' ne) in
          let r = ih next near' (hop-side u x k) less in
          record { path = next ∷ r.path; way = (near', ne, r.way); end = r.end }

  pub path-to : (t x : ℕ) → Has t net.servers → Has x net.servers → Path t t x
  path-to t x here i = go (compare x t)
    where
      go : Same x t → Path t t x
      go (Is p f) = record { path = []; way = tt; end = sym p }
      go (Not k f) =
          let next : ℕ = net.hop t x in
          let near : Has next (net.links t) = good.tree.near t x here i k in
          let r = onward (side_size net.hop net.servers t next) t next x near i (hop-side t x k) (omega arith) in
          record { path = next ∷ r.path; way = (near, (λ e. good.tree.apart t (subst (λ z. Has z (net.links t)) e near)), r.way); end = r.end }

  -- a way that does not turn back goes by the hops to its end
  pub way-side : (prior t u : ℕ) (path : List ℕ) → IsOnwardWay th net prior t (u ∷ path) → Has (end_of th net u path) net.servers → side net.hop t u (end_of th net u path) ≡ true
  way-side prior t u [] way i = other-side net.servers net.links net.hop good.tree u t u (good.tree.both t u way.0) i (side-here net.hop u t)
  way-side prior t u (v ∷ path) way i =
      let s = way-side t u v path way.2 i in
      let x : ℕ = end_of th net v path in
      other-side net.servers net.links net.hop good.tree u t x (good.tree.both t u way.0) i (not-side (side net.hop u t x) (λ e. way.2.1 (one-way net.hop u v t x s e)))
    where
      not-side : (b : Bool) → (b ≡ true → ⊥) → b ≡ false
      not-side false n = refl
      not-side true n = absurd (n refl)

  pub way-by-hops : (prior t u : ℕ) (path : List ℕ) → IsOnwardWay th net prior t (u ∷ path) → Has (end_of th net u path) net.servers → net.hop t (end_of th net u path) ≡ u
  way-by-hops prior t u path way i = side-hop net.hop t u (end_of th net u path) (way-side prior t u path way i)
