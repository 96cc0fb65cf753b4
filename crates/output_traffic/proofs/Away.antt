-- The links of a tree that lead away from a server: one to each other server.
use Rattle.std.proofs.Common.{◌≡◌, ℕ, ◌+◌, ◌&&◌, Bool, true, false, nat_le, nat_lt, refl, ap, subst, ◌∙◌, arith}
use Rattle.std.proofs.lemmas.Bool.Decides.{nat_tests}
use Rattle.base.specs.Sets.{Has}
use Rattle.base.specs.Numbers.{count}
use Rattle.base_tree.specs.Hops.{side}
use Rattle.base_tree.specs.Tree.{Topology, TreeLaws, IsServer, links_of, hop_of}
use Rattle.base_tree.proofs.Servers.{server-in, in-server}
use Rattle.law_routing.specs.Server.{is_among}
use Rattle.law_routing.proofs.Laws.{one-has}
use Rattle.law_routing.proofs.Listing.{has-one}
use Rattle.output_traffic.specs.Flood.{is_flooded}
use Rattle.std.proofs.lemmas.Bool.{and_parts}
use Rattle.std.specs.Cmp.{both_ways}
use Rattle.law_phases.proofs.Equalling.{side-parts}

module _ (tree : Topology) (laws : TreeLaws tree) (home : ℕ) (lives : IsServer tree home) where
  within : (to : ℕ) → IsServer tree to → (nat_le 1 to && nat_lt to (tree.count + 1)) ≡ true
  within to s = grind (arith, nat_tests, s.0, s.1)

  inside : (to : ℕ) → (nat_le 1 to && nat_lt to (tree.count + 1)) ≡ true → IsServer tree to
  inside to e = let p = and_parts (nat_le 1 to) (nat_lt to (tree.count + 1)) e in (grind (arith, nat_tests, p.0), grind (arith, nat_tests, p.1))

  -- the server before one on the way from home has a link to it
  linked : (from to : ℕ) → IsServer tree to → side (hop_of tree) to from home ≡ true → is_among to (links_of tree from) ≡ true
  linked from to s e =
      let p = side-parts (hop_of tree) to from home e in
      let near = laws.hops.near to home (in-server tree.count to s) (in-server tree.count home lives) p.0 in
      has-one to (links_of tree from) (laws.hops.both to from (subst (λ z. Has z (links_of tree to)) p.1 near))

  there : (from to : ℕ) → is_among to (links_of tree from) ≡ true → IsServer tree to
  there from to e = server-in tree.count to (laws.hops.linked to from (laws.hops.both from to (one-has to (links_of tree from) e)))

  pub flooded-is : (end from to : ℕ) → end ≡ tree.count + 1 → count ((nat_le 1 to && nat_lt to end) && side (hop_of tree) to from home) ≡ count (is_flooded tree home from to)
  flooded-is end from to e = ap (λ z. count ((nat_le 1 to && nat_lt to z) && side (hop_of tree) to from home)) e ∙ ap count (go (side (hop_of tree) to from home) refl)
    where
      off : (p q : Bool) → (p && false) ≡ (q && false)
      off true true = refl
      off true false = refl
      off false true = refl
      off false false = refl

      on : (p q : Bool) → p ≡ q → (p && true) ≡ (q && true)
      on p q f = ap (λ z. z && true) f

      go : (b : Bool) → side (hop_of tree) to from home ≡ b → ((nat_le 1 to && nat_lt to (tree.count + 1)) && b) ≡ (is_among to (links_of tree from) && b)
      go false f = off (nat_le 1 to && nat_lt to (tree.count + 1)) (is_among to (links_of tree from))
      go true f =
          on (nat_le 1 to && nat_lt to (tree.count + 1)) (is_among to (links_of tree from))
          (both_ways (nat_le 1 to && nat_lt to (tree.count + 1)) (is_among to (links_of tree from)) (λ h. linked from to (inside to h) f) (λ h. within to (there from to h)))
