use Rattle.std.proofs.Common.{ap, ◌∙◌}
use Rattle.law_phases.specs.Trees.{trees_by}
use Rattle.net_model.specs.Parts.{NetParts}
use Rattle.net_model.specs.Nets.{later_trees}
use Rattle.net_model.proofs.TreesByPhase.{one-tree, two-trees}
use Rattle.thread_cell.proofs.Splits.{ok-map}
use Rattle.thread_cell.proofs.Nexts.{can-raise, next-raised}
use Rattle.thread_cell.proofs.next.enter_next.Goals as goal

pub raise_all-requires-clause-can : goal.raise_all-requires-clause-can
raise_all-requires-clause-can g c =
    can-raise c.args.tables.now c.args.last c.args.phase c.greatest-clock.result c.args.cells.now c.requires.together c.greatest-clock.ensures.greatest c.requires.later
    (one-tree c.args.tables.now c.args.last c.args.phase c.trees_come.result c.trees_come-2.result (c.trees_come.ensures ∙ ap (λ (n : NetParts). trees_by (later_trees n.trees) c.args.last) c.net-net.ensures) (c.trees_come-2.ensures ∙ ap (λ (n : NetParts). trees_by (later_trees n.trees) c.args.phase) c.net-net.ensures) c.if-trees_come.true) c.requires.through

pub returns-then-trees_come-clause-entered : goal.returns-then-trees_come-clause-entered
returns-then-trees_come-clause-entered g c =
    next-raised c.args.tables.now c.requires.sound c.args.last c.args.phase c.args.cells.now c.raise_all.new.cells c.requires.together c.requires.later c.lemma_all_kept.ensures c.raise_all.ensures.same.long
    (one-tree c.args.tables.now c.args.last c.args.phase c.trees_come.result c.trees_come-2.result (c.trees_come.ensures ∙ ap (λ (n : NetParts). trees_by (later_trees n.trees) c.args.last) c.net-net.ensures) (c.trees_come-2.ensures ∙ ap (λ (n : NetParts). trees_by (later_trees n.trees) c.args.phase) c.net-net.ensures) c.if-trees_come.true) c.greatest-clock.result c.greatest-clock.ensures.greatest c.raise_all.ensures.raised

pub returns-clause-entered : goal.returns-clause-entered
returns-clause-entered g c =
    ok-map c.relink.result c.relink.ensures.entered (λ entered. entered c.args.last c.requires.together c.requires.later
    (two-trees c.args.tables.now c.args.last c.args.phase c.trees_come.result c.trees_come-2.result (c.trees_come.ensures ∙ ap (λ (n : NetParts). trees_by (later_trees n.trees) c.args.last) c.net-net.ensures) (c.trees_come-2.ensures ∙ ap (λ (n : NetParts). trees_by (later_trees n.trees) c.args.phase) c.net-net.ensures) c.if-trees_come.false))
