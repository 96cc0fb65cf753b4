use Rattle.std.proofs.Common.{◌≡◌, ◌↔◌, ◌==◌, IsTrue, true, sym, ap, subst, ◌∙◌}
use Rattle.net_model.specs.Parts.{NetParts}
use Rattle.net_model.specs.Sound.{IsSound}
use Rattle.net_model.specs.Real.{real}
use Rattle.law_phases.specs.Trees.{is_one_tree, trees_by}
use Rattle.net_model.specs.Nets.{phased_net, later_trees}
use Rattle.thread_cell.specs.Cell.{CellParts}
use Rattle.thread_cell.proofs.Trees.{keeps-tree}
use Rattle.thread_cell.proofs.cell.Cell.keeps_tree.Goals as goal

pub returns : goal.returns
returns c =
    subst (λ (z : CellParts). IsTrue (c.trees_come.result == c.trees_come-2.result) ↔ (is_one_tree real (phased_net z.root.net.value) z.root.phase c.args.phase ≡ true)) c.self.view_is
    (subst (λ n. IsTrue (c.trees_come.result == c.trees_come-2.result) ↔ (is_one_tree real (phased_net n) c.self.inside.root.phase c.args.phase ≡ true)) (sym c.self.invariant.0.net_is)
    (keeps-tree c.self.inside.tables.now c.self.inside.root.phase c.args.phase c.trees_come.result c.trees_come-2.result (c.trees_come.ensures ∙ ap (λ (n : NetParts). trees_by (later_trees n.trees) c.self.inside.root.phase) c.net-net.ensures) (c.trees_come-2.ensures ∙ ap (λ (n : NetParts). trees_by (later_trees n.trees) c.args.phase) c.net-net.ensures)))

pub trees_come-requires : goal.trees_come-requires
trees_come-requires c = subst IsSound (sym c.net-net.ensures) c.self.invariant.0.sound

pub trees_come-requires-2 : goal.trees_come-requires-2
trees_come-requires-2 c = subst IsSound (sym c.net-net.ensures) c.self.invariant.0.sound
