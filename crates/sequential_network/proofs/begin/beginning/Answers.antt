use Rattle.std.proofs.Common.{ap, ◌∙◌}
use Rattle.law_phases.specs.Trees.{trees_by}
use Rattle.net_model.specs.Parts.{NetParts}
use Rattle.net_model.specs.Nets.{later_trees}
use Rattle.sequential_network.proofs.Exchanged.{raised-begins}
use Rattle.net_model.proofs.TreesByPhase.{one-tree, two-trees}
use Rattle.sequential_network.proofs.Setting.{if-both}
use Rattle.sequential_network.proofs.begin.beginning.Goals as goal
use Rattle.base.proofs.Results.{if-ok}

pub returns-then-trees_come : goal.returns-then-trees_come
returns-then-trees_come c =
    let one = one-tree c.args.tables.now c.args.last c.args.phase c.trees_come.result c.trees_come-2.result (c.trees_come.ensures ∙ ap (λ (n : NetParts). trees_by (later_trees n.trees) c.args.last) c.net-net.ensures) (c.trees_come-2.ensures ∙ ap (λ (n : NetParts). trees_by (later_trees n.trees) c.args.phase) c.net-net.ensures) c.if-trees_come.true in
    if-both (λ standings long all. raised-begins c.args.tables.now c.requires.sound c.args.last c.args.phase c.greatest_clock-clock.result c.args.places.now standings.items one c.greatest_clock-clock.ensures.greatest c.greatest_clock-clock.ensures.low long all)
    c.raised.result c.raised.ensures.long c.raised.ensures.raised

pub returns-else-trees_come : goal.returns-else-trees_come
returns-else-trees_come c =
    let other = two-trees c.args.tables.now c.args.last c.args.phase c.trees_come.result c.trees_come-2.result (c.trees_come.ensures ∙ ap (λ (n : NetParts). trees_by (later_trees n.trees) c.args.last) c.net-net.ensures) (c.trees_come-2.ensures ∙ ap (λ (n : NetParts). trees_by (later_trees n.trees) c.args.phase) c.net-net.ensures) c.if-trees_come.false in
    if-ok (λ standings set. set c.args.last c.requires.state.0 other c.requires.state.1 c.requires.state.2) c.on_tree.result c.on_tree.ensures
