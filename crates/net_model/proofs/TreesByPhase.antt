-- The trees of a sound net by phase: their laws, their links, as many servers in each, and whether two phases have one tree.
use Rattle.std.proofs.Common.{◌≡◌, nat_le, inl, inr, ℕ, suc, true, false, Bool, cond, List, [], ◌∷◌, map, refl, sym, ap, ◌∙◌, eq-eqb, ne_eqb}
use Rattle.base_tree.specs.Tree.{Topology, links_of}
use Rattle.law_routing.specs.Net.{NetLaws}
use Rattle.law_phases.specs.Trees.{is_one_tree, net_at, trees_by}
use Rattle.law_phases.proofs.Nets.{net-laws as each-net}
use Rattle.net_model.specs.Real.{real}
use Rattle.net_model.specs.Parts.{NetParts}
use Rattle.net_model.specs.Nets.{phased_net, phased_tree, first_tree, later_trees, topology_at}
use Rattle.net_model.specs.Sound.{IsSound}
use Rattle.net_model.proofs.SoundNets.{net-laws, tree-map}

-- on the tree of each phase the net has its laws
pub laws_at : (net : NetParts) → IsSound net → (phase : ℕ) → NetLaws real (net_at real (phased_net net) phase)
laws_at net sound phase = each-net real (phased_net net) (net-laws net sound) phase

-- the neighbours of a server in the tree of a phase
pub links_at : (net : NetParts) (phase server : ℕ) → (net_at real (phased_net net) phase).links server ≡ links_of (topology_at net phase) server
links_at net phase server = ap (λ z. z.links server) (sym (tree-map (first_tree net.trees) (later_trees net.trees) phase))

-- as many trees have come by a phase, in the net of the laws
pub trees-mapped : (ts : List (ℕ × Topology)) (k : ℕ) → trees_by (map phased_tree ts) k ≡ trees_by ts k
trees-mapped [] k = refl
trees-mapped (t ∷ ts) k = ap (λ n. cond (nat_le t.0 k) (suc n) 0) (trees-mapped ts k)

-- phases by which as many trees have come have one tree, and others have two
pub one-tree : (net : NetParts) (last phase a b : ℕ) → a ≡ trees_by (later_trees net.trees) last → b ≡ trees_by (later_trees net.trees) phase → a ≡ b → is_one_tree real (phased_net net) last phase ≡ true
one-tree net last phase a b e f same =
    eq-eqb (trees_by (phased_net net).later last) (trees_by (phased_net net).later phase) (trees-mapped (later_trees net.trees) last ∙ sym e ∙ same ∙ f ∙ sym (trees-mapped (later_trees net.trees) phase))

pub two-trees : (net : NetParts) (last phase a b : ℕ) → a ≡ trees_by (later_trees net.trees) last → b ≡ trees_by (later_trees net.trees) phase → (a ≡ b → ⊥) → is_one_tree real (phased_net net) last phase ≡ false
two-trees net last phase a b e f other =
    ne_eqb (trees_by (phased_net net).later last) (trees_by (phased_net net).later phase)
    (λ q. other (e ∙ sym (trees-mapped (later_trees net.trees) last) ∙ q ∙ trees-mapped (later_trees net.trees) phase ∙ sym f))
