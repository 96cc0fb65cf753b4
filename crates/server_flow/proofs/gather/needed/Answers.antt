use Rattle.std.proofs.Common.{get_or, sym, subst, ap, ◌∙◌}
use Rattle.std.proofs.lemmas.Option.{slice_get-get_or}
use Rattle.base.specs.Sets.{Has}
use Rattle.base_bits.specs.Rows.{Numbers}
use Rattle.server_spec.proofs.Ordering.{to-small}
use Rattle.server_flow.proofs.Needed.{need-start, need-step, need-skip, need-end}
use Rattle.server_flow.proofs.gather.needed.Goals as goal
use Rattle.base.proofs.Sets.{get-has}

pub loop-next-init : goal.loop-next-init
loop-next-init c = record {
  width = ap (λ (z : Numbers). z.width) c.in_ok-row.ensures;
  members = need-start c.args.table.now c.args.at c.args.of c.args.own.now.members c.neighbours-next-items.result.now c.in_ok-row.row.members (ap (λ (z : Numbers). z.members) c.in_ok-row.ensures);
}

pub row-requires-clause-of : goal.row-requires-clause-of
row-requires-clause-of c =
    let at = slice_get-get_or c.neighbours-next-items.result.now c.loop-next.next-index 0 c.loop-next-test.true in
    let has = get-has c.neighbours-next-items.result.now c.loop-next.next-index (get_or c.neighbours-next-items.result.now c.loop-next.next-index 0) at in
    to-small c.args.tree.now c.lemma_laws.ensures c.args.of (get_or c.neighbours-next-items.result.now c.loop-next.next-index 0) (subst (Has (get_or c.neighbours-next-items.result.now c.loop-next.next-index 0)) c.neighbours-next-items.ensures.value has)

pub insert_all-requires : goal.insert_all-requires
insert_all-requires c =
    let next = get_or c.neighbours-next-items.result.now c.loop-next.next-index 0 in
    let at = slice_get-get_or c.neighbours-next-items.result.now c.loop-next.next-index 0 c.loop-next-test.true in
    let has = subst (Has (get_or c.neighbours-next-items.result.now c.loop-next.next-index 0)) c.neighbours-next-items.ensures.value (get-has c.neighbours-next-items.result.now c.loop-next.next-index next at) in
    ap (λ (z : Numbers). z.width) c.row.ensures ∙ (c.requires.wide next has c.if-next-at.false ∙ sym c.loop-next.invariant.width)

pub loop-next-preserved : goal.loop-next-preserved
loop-next-preserved c =
    let next = get_or c.neighbours-next-items.result.now c.loop-next.next-index 0 in
    let at = slice_get-get_or c.neighbours-next-items.result.now c.loop-next.next-index 0 c.loop-next-test.true in
    record {
      width = c.insert_all.ensures.width ∙ c.loop-next.invariant.width;
      members = need-step c.args.table.now c.args.at c.args.of c.args.own.now.members c.neighbours-next-items.result.now c.loop-next.next-index next at c.loop-next.row.members c.loop-next.invariant.members
          c.insert_all.new.self.members c.row.result.now.members c.if-next-at.false (ap (λ (z : Numbers). z.members) c.row.ensures) c.insert_all.ensures.members;
    }

pub loop-next-preserved-then-next-at : goal.loop-next-preserved-then-next-at
loop-next-preserved-then-next-at c =
    let next = get_or c.neighbours-next-items.result.now c.loop-next.next-index 0 in
    let at = slice_get-get_or c.neighbours-next-items.result.now c.loop-next.next-index 0 c.loop-next-test.true in
    record {
      width = c.loop-next.invariant.width;
      members = need-skip c.args.table.now c.args.at c.args.of c.args.own.now.members c.neighbours-next-items.result.now c.loop-next.next-index next at c.loop-next.row.members c.loop-next.invariant.members c.if-next-at.true;
    }

pub returns-clause-members : goal.returns-clause-members
returns-clause-members c =
    need-end c.args.table.now c.args.at c.args.of c.args.own.now.members c.args.tree.now c.neighbours-next-items.result.now c.loop-next.row.members c.loop-next.next-index c.loop-next-test.false c.neighbours-next-items.ensures.value c.loop-next.invariant.members
