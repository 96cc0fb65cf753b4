-- Trees of the same edges have the same neighbours and the same next servers on the way.
use Rattle.std.proofs.Common.{◌≡◌, ℕ, ◌≤◌, Bool, true, false, cond, List, [], ◌∷◌, map, refl, sym, ap, subst, ◌∙◌, arith}
use Rattle.std.specs.Prelude.{nat_le}
use Rattle.std.proofs.lemmas.Option.{same_Some}
use Rattle.base.specs.Sets.{Has}
use Rattle.base_tree.specs.Graph.{servers_to}
use Rattle.base_tree.specs.Hops.{AreHops}
use Rattle.base_tree.specs.Tree.{IsPath, Topology, hop_of, links_of}
use Rattle.base_tree.proofs.Paths.{a-path, path-second}
use Rattle.base_tree.proofs.Servers.{in-server, server-in}
use Rattle.law_hierarchy.specs.Masters.{top}
use Rattle.law_phases.specs.Trees.{Tree, tree_after}
use Rattle.net_model.specs.Nets.{first_tree, later_trees, phased_tree, tree_of}
use Rattle.document_reader.specs.Drawn.{Block}
use Rattle.document_reader.specs.Net.{AreTreesOf, IsTreeOf}

-- the tree of phase 0
abbrev pub tree_at_start : List (ℕ × Topology) → Tree
tree_at_start trees = tree_after (tree_of (first_tree trees)) (map phased_tree (later_trees trees)) 0

-- of the servers up to a number: the same neighbours, and each but the top has the same next server on the way there
pub record AreOneTree (count : ℕ) (one other : Tree) : Type 0 where
  pub links : one.links ≡ other.links
  pub masters : (server : ℕ) → Has server (servers_to count) → (server ≡ top → ⊥) → one.hop server top ≡ other.hop server top

module _ (n : ℕ) where
  one-tree : (block : Block) (t u : ℕ × Topology) → IsTreeOf n block t → IsTreeOf n block u → AreOneTree n (tree_of t.1) (tree_of u.1)
  one-tree block t u one two = record { links = near; masters = λ a h m. to-top a h m (in-server n 1 (omega arith, some a h)) }
    where
      near : links_of t.1 ≡ links_of u.1
      near = λ i s. (one.neighbours s ∙ sym (two.neighbours s)) i

      hops-of : (x : ℕ × Topology) → IsTreeOf n block x → AreHops (servers_to n) (links_of x.1) (hop_of x.1)
      hops-of x is = subst (λ k. AreHops (servers_to k) (links_of x.1) (hop_of x.1)) is.count is.laws.hops

      some : (a : ℕ) → Has a (servers_to n) → 1 ≤ n
      some a h = let r = server-in n a h in omega (arith, r.0, r.1)

      to-top : (a : ℕ) → Has a (servers_to n) → (a ≡ top → ⊥) → Has top (servers_to n) → hop_of t.1 a top ≡ hop_of u.1 a top
      to-top a h m i =
          let p = a-path (servers_to n) (links_of t.1) (hop_of t.1) (hops-of t one) a top h i in
          let q : IsPath (links_of u.1) a top p.0 = subst (λ z. IsPath z a top p.0) near p.1 in
          same_Some _ _ (sym (path-second (servers_to n) (links_of t.1) (hop_of t.1) (hops-of t one) a top p.0 m i p.1)
          ∙ path-second (servers_to n) (links_of u.1) (hop_of u.1) (hops-of u two) a top p.0 m i q)

  -- so do those in force at a phase
  one-after : (b : Block) (blocks : List Block) (t u : ℕ × Topology) (ts us : List (ℕ × Topology)) → IsTreeOf n b t → IsTreeOf n b u → AreTreesOf n blocks ts → AreTreesOf n blocks us
      → (p : ℕ) → AreOneTree n (tree_after (tree_of t.1) (map phased_tree ts) p) (tree_after (tree_of u.1) (map phased_tree us) p)
  one-after b [] t u [] [] one two f g p = one-tree b t u one two
  one-after b [] t u [] (w ∷ us) one two f g p = absurd g
  one-after b [] t u (v ∷ ts) us one two f g p = absurd f
  one-after b (c ∷ blocks) t u [] us one two f g p = absurd f
  one-after b (c ∷ blocks) t u (v ∷ ts) [] one two f g p = absurd g
  one-after b (c ∷ blocks) t u (v ∷ ts) (w ∷ us) one two f g p =
      subst (λ k. AreOneTree n (cond (nat_le k p) (tree_after (tree_of v.1) (map phased_tree ts) p) (tree_of t.1))
      (cond (nat_le w.0 p) (tree_after (tree_of w.1) (map phased_tree us) p) (tree_of u.1)))
      (g.0.phase ∙ sym f.0.phase) (go (nat_le w.0 p) (one-after c blocks v w ts us f.0 g.0 f.1 g.1 p))
    where
      go : (b : Bool) → AreOneTree n (tree_after (tree_of v.1) (map phased_tree ts) p) (tree_after (tree_of w.1) (map phased_tree us) p)
          → AreOneTree n (cond b (tree_after (tree_of v.1) (map phased_tree ts) p) (tree_of t.1)) (cond b (tree_after (tree_of w.1) (map phased_tree us) p) (tree_of u.1))
      go true ih = ih
      go false ih = one-tree _ t u one two

-- the trees of one document
pub start-alike : (n : ℕ) (blocks : List Block) (ts us : List (ℕ × Topology)) → AreTreesOf n blocks ts → AreTreesOf n blocks us
    → ((first_tree ts).count ≡ (first_tree us).count) × AreOneTree (first_tree ts).count (tree_at_start ts) (tree_at_start us)
start-alike n [] [] [] f g = (refl, record { links = refl; masters = λ server h m. refl })
start-alike n [] [] (u ∷ us) f g = absurd g
start-alike n [] (t ∷ ts) us f g = absurd f
start-alike n (b ∷ blocks) [] us f g = absurd f
start-alike n (b ∷ blocks) (t ∷ ts) [] f g = absurd g
start-alike n (b ∷ blocks) (t ∷ ts) (u ∷ us) f g = (
  f.0.count ∙ sym g.0.count,
  subst (λ k. AreOneTree k (tree_at_start (t ∷ ts)) (tree_at_start (u ∷ us))) (sym f.0.count) (one-after n b blocks t u ts us f.0 g.0 f.1 g.1 0),
)
