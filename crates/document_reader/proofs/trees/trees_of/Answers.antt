use Rattle.std.proofs.Common.{◌≡◌, ◌++◌, ◌∷◌, [], List, ℕ, ◌+◌, ◌∙◌, ap, subst, sym, take}
use Rattle.std.proofs.lemmas.List.{take_more}
use Rattle.base_tree.specs.Graph.{AreWithin, IsTree}
use Rattle.base_tree.specs.Tree.{Topology}
use Rattle.document_reader.specs.Net.{AreTreesOf, IsTreeOf}
use Rattle.document_reader.specs.Drawn.{Block, IsWholeBlock}
use Rattle.document_reader.proofs.Built.{trees_more}
use Rattle.document_reader.proofs.trees.trees_of.Goals as goal

whole : (c : goal.After-deref) → IsWholeBlock c.args.servers (c.block.inside.phase, c.block.inside.edges.items)
whole c =
    subst (λ (b : Block). IsWholeBlock c.args.servers b) (sym c.block.view_is)
    (subst (λ (b : Block). IsWholeBlock c.args.servers b) (sym c.block-item.is) (c.requires.whole c.loop-block.block-index c.block-item.result c.loop-block-test.true))

pub tree_of-requires-clause-within : goal.tree_of-requires-clause-within
tree_of-requires-clause-within c = subst (λ (es : List (ℕ × ℕ)). AreWithin c.args.servers es) (sym c.deref.ensures.value) (whole c).within

pub tree_of-requires-clause-tree : goal.tree_of-requires-clause-tree
tree_of-requires-clause-tree c = subst (λ (es : List (ℕ × ℕ)). IsTree c.args.servers es) (sym c.deref.ensures.value) (whole c).tree

pub loop-block-preserved : goal.loop-block-preserved
loop-block-preserved c =
    let tree : IsTreeOf c.args.servers (c.block.inside.phase, c.block.inside.edges.items) (c.block.inside.phase, c.in_ok-tree.tree) =
    subst (λ (es : List (ℕ × ℕ)). IsTreeOf c.args.servers (c.block.inside.phase, es) (c.block.inside.phase, c.in_ok-tree.tree)) c.deref.ensures.value (c.in_ok-tree.ensures c.block.inside.phase) in
    let taken : take (c.loop-block.block-index + 1) c.args.blocks.now ≡ take c.loop-block.block-index c.args.blocks.now ++ (c.block.inside.phase, c.block.inside.edges.items) ∷ [] =
    take_more c.args.blocks.now c.loop-block.block-index c.block-item.result c.loop-block-test.true
    ∙ ap (λ (b : Block). take c.loop-block.block-index c.args.blocks.now ++ b ∷ []) (sym c.block-item.is ∙ sym c.block.view_is) in
    let all = trees_more c.args.servers (take c.loop-block.block-index c.args.blocks.now) c.loop-block.trees.items (c.block.inside.phase, c.block.inside.edges.items) (c.block.inside.phase, c.in_ok-tree.tree) c.loop-block.invariant tree in
    subst (λ (bs : List Block). AreTreesOf c.args.servers bs c.push.new.self.items) (sym taken)
    (subst (λ (ts : List (ℕ × Topology)). AreTreesOf c.args.servers (take c.loop-block.block-index c.args.blocks.now ++ (c.block.inside.phase, c.block.inside.edges.items) ∷ []) ts) (sym c.in_ok-push.ensures.items) all)
