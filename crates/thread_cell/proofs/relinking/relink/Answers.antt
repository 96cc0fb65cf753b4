use Rattle.std.proofs.Common.{◌≡◌, length, map, slice_get, Some, sym, ap, subst, ◌∙◌, refl}
use Rattle.std.proofs.lemmas.List.{length-map}
use Rattle.base_tree.specs.Tree.{Topology}
use Rattle.base.specs.Sets.{Has}
use Rattle.net_model.specs.Parts.{NetParts}
use Rattle.net_model.specs.Nets.{topology_at}
use Rattle.thread_cell.proofs.Gathered.{count-cells}
use Rattle.thread_cell.proofs.Splits.{ok-map}
use Rattle.thread_cell.proofs.Onward.{plan-of, can-move, homes-net, given-net}
use Rattle.thread_cell.proofs.Nexts.{next-moved}
use Rattle.thread_cell.proofs.relinking.relink.Goals as goal
use Rattle.net_model.proofs.SoundNets.{tree-count}

pub flow-requires : goal.flow-requires
flow-requires g c = record {
  net = λ h m. homes-net c.args.tables.now c.requires.together.0 c.args.cells.now c.requires.together.1 c.lemma_all_kept.ensures c.in_ok-homes.homes.items c.in_ok-homes.ensures.long c.in_ok-homes.ensures.homes h (subst (Has h) c.deref.ensures.value m);
  homes = ap length c.deref.ensures.value ∙ c.in_ok-homes.ensures.long ∙ count-cells c.args.tables.now c.requires.together.0 c.args.cells.now c.requires.together.1
      ∙ sym (ap (λ (t : Topology). t.count) (c.tree-tree.ensures ∙ ap (λ (n : NetParts). topology_at n c.args.phase) c.net.ensures) ∙ tree-count c.args.tables.now.trees c.requires.sound.trees c.args.phase);
}

pub move_all-requires-clause-given : goal.move_all-requires-clause-given
move_all-requires-clause-given g c =
    ap length c.deref-2.ensures.value ∙ c.in_ok-given.ensures.servers ∙ ap (λ (t : Topology). t.count) (c.tree-tree.ensures ∙ ap (λ (n : NetParts). topology_at n c.args.phase) c.net.ensures) ∙ tree-count c.args.tables.now.trees c.requires.sound.trees c.args.phase
    ∙ sym (count-cells c.args.tables.now c.requires.together.0 c.args.cells.now c.requires.together.1)

pub move_all-requires-clause-rows : goal.move_all-requires-clause-rows
move_all-requires-clause-rows g c =
    sym (length-map c.in_ok-rows.rows.items (λ r. r.items)) ∙ c.in_ok-rows.ensures.long ∙ ap (λ (t : Topology). t.count) (c.tree-tree.ensures ∙ ap (λ (n : NetParts). topology_at n c.args.phase) c.net.ensures) ∙ tree-count c.args.tables.now.trees c.requires.sound.trees c.args.phase
    ∙ sym (count-cells c.args.tables.now c.requires.together.0 c.args.cells.now c.requires.together.1)

pub move_all-requires-clause-can : goal.move_all-requires-clause-can
move_all-requires-clause-can g c k cell links row e f r =
    can-move c.args.tables.now c.requires.sound c.requires.together.0 c.args.phase c.args.cells.now c.requires.together.1 c.lemma_all_kept.ensures c.in_ok-homes.homes.items c.in_ok-given.given.items (map (λ r. r.items) c.in_ok-rows.rows.items)
    (plan-of c.args.tables.now c.requires.sound c.requires.together.0 c.args.phase c.args.cells.now c.requires.together.1 c.tree-tree.result.now (c.tree-tree.ensures ∙ ap (λ (n : NetParts). topology_at n c.args.phase) c.net.ensures) c.lemma_laws.ensures c.args.tables.now.semantics refl
    c.in_ok-homes.homes.items c.deref.result.now c.deref.ensures.value c.in_ok-homes.ensures.long c.in_ok-homes.ensures.homes c.in_ok-given.given.items c.in_ok-given.ensures.servers c.in_ok-given.ensures.links c.in_ok-given.ensures.flow c.in_ok-given.ensures.given
    (map (λ r. r.items) c.in_ok-rows.rows.items) c.in_ok-rows.ensures)
    c.greatest-clock.result c.greatest-clock.ensures.greatest c.requires.together.2 c.requires.calm c.requires.through k cell links row e (subst (λ l. slice_get l k ≡ Some links) c.deref-2.ensures.value f) r

pub move_all-requires-clause-net : goal.move_all-requires-clause-net
move_all-requires-clause-net g c k cell links e f =
    given-net c.args.tables.now c.requires.together.0 c.args.cells.now c.requires.together.1 c.in_ok-given.given.items c.in_ok-given.ensures.net k cell links e (subst (λ l. slice_get l k ≡ Some links) c.deref-2.ensures.value f)

pub returns-clause-entered : goal.returns-clause-entered
returns-clause-entered g c =
    ok-map c.move_all.result c.move_all.ensures.moved (λ moved last together later two.
    next-moved c.args.tables.now c.requires.sound last c.args.phase c.args.cells.now c.move_all.new.cells together later c.lemma_all_kept.ensures c.move_all.ensures.same.long two c.greatest-clock.result c.greatest-clock.ensures.greatest
    c.in_ok-homes.homes.items c.in_ok-given.given.items (map (λ r. r.items) c.in_ok-rows.rows.items)
    (plan-of c.args.tables.now c.requires.sound last c.args.phase c.args.cells.now together c.tree-tree.result.now (c.tree-tree.ensures ∙ ap (λ (n : NetParts). topology_at n c.args.phase) c.net.ensures) c.lemma_laws.ensures c.args.tables.now.semantics refl
    c.in_ok-homes.homes.items c.deref.result.now c.deref.ensures.value c.in_ok-homes.ensures.long c.in_ok-homes.ensures.homes c.in_ok-given.given.items c.in_ok-given.ensures.servers c.in_ok-given.ensures.links c.in_ok-given.ensures.flow c.in_ok-given.ensures.given
    (map (λ r. r.items) c.in_ok-rows.rows.items) c.in_ok-rows.ensures)
    (λ k a b links row ea eb f r. moved k a b links row ea eb (subst (λ l. slice_get l k ≡ Some links) (sym c.deref-2.ensures.value) f) r))
