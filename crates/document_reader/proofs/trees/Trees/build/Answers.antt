use Rattle.std.proofs.Common.{◌≡◌, ◌++◌, ◌∷◌, [], List, ℕ, ◌∙◌, ap, subst, sym}
use Rattle.base_tree.specs.Graph.{IsTree}
use Rattle.base_tree.specs.Tree.{Topology}
use Rattle.document_reader.specs.Net.{AreTreesOf, IsTreeOf}
use Rattle.document_reader.specs.Drawn.{Block, Drawn, blocks, drawn, is_apart}
use Rattle.document_reader.proofs.Built.{trees_more}
use Rattle.document_reader.proofs.Joining.{not_apart_is_whole}
use Rattle.document_reader.proofs.trees.Trees.build.Goals as goal

pub tree_of-requires-clause-tree : goal.tree_of-requires-clause-tree
tree_of-requires-clause-tree c =
    subst (λ (es : List (ℕ × ℕ)). IsTree c.self.inside.servers es) (sym c.deref-2.ensures.value)
    (not_apart_is_whole (drawn c.self.inside.servers c.self.inside.earlier.items c.self.inside.phase c.self.inside.edges.items) c.self.invariant.labelled.forest (ap is_apart c.self.view_is ∙ c.requires.whole))

pub returns : goal.returns
returns c =
    let edges : c.deref-2.result.now ≡ c.self.inside.edges.items = c.deref-2.ensures.value in
    let trees : AreTreesOf c.self.inside.servers c.self.inside.earlier.items c.in_ok-trees.trees.items = subst (λ (bs : List Block). AreTreesOf c.self.inside.servers bs c.in_ok-trees.trees.items) c.deref.ensures.value c.in_ok-trees.ensures in
    let tree : IsTreeOf c.self.inside.servers (c.self.inside.phase, c.self.inside.edges.items) (c.self.inside.phase, c.in_ok-tree.tree) = subst (λ (es : List (ℕ × ℕ)). IsTreeOf c.self.inside.servers (c.self.inside.phase, es) (c.self.inside.phase, c.in_ok-tree.tree)) edges (c.in_ok-tree.ensures c.self.inside.phase) in
    let all = trees_more c.self.inside.servers c.self.inside.earlier.items c.in_ok-trees.trees.items (c.self.inside.phase, c.self.inside.edges.items) (c.self.inside.phase, c.in_ok-tree.tree) trees tree in
    subst (λ (d : Drawn). AreTreesOf d.servers (blocks d) c.push.new.self.items) c.self.view_is
    (subst (λ (ts : List (ℕ × Topology)). AreTreesOf c.self.inside.servers (c.self.inside.earlier.items ++ (c.self.inside.phase, c.self.inside.edges.items) ∷ []) ts) (sym c.in_ok-push.ensures.items) all)
