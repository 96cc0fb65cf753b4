use Rattle.std.proofs.Common.{◌≡◌, true, false, sym, subst, ◌∙◌, arith, add-one}
use Rattle.base.specs.Sets.{Has}
use Rattle.thread_cell.proofs.Rows.{lanes-begun, lanes-ended, lanes-skipped, lanes-joined}
use Rattle.thread_cell.proofs.lanes.join_higher.Goals as goal
use Rattle.thread_cell.proofs.lanes.join_higher.Goals.{then-is_among+in_ok-join, else-is_among}

pub loop-other-init : goal.loop-other-init
loop-other-init c = rw add-one (lanes-begun c.args.tree.now c.lemma_laws.ensures c.args.server _ c.requires.lanes)

pub loop-other-preserved : goal.loop-other-preserved
loop-other-preserved c = rw add-one (elim c.if-is_among.branch [
  | then-is_among+in_ok-join w ↦ rw w.rows-is
      (lanes-joined c.args.tree.now c.lemma_laws.ensures c.args.server c.loop-other.other _ _ c.requires.server.0 (omega arith) (subst (Has c.loop-other.other) c.neighbours.ensures.value (c.is_among.ensures.0 w.if-is_among.true)) c.loop-other.invariant w.in_ok-join.ensures.joined)
  | else-is_among w ↦ rw w.rows-is (lanes-skipped c.args.tree.now c.lemma_laws.ensures c.args.server c.loop-other.other _ (λ h. (let t = c.is_among.ensures.1 (subst (Has c.loop-other.other) (sym c.neighbours.ensures.value) h) in let e : true ≡ false = sym t ∙ w.if-is_among.false in absurd cc)) c.loop-other.invariant)
])

pub returns : goal.returns
returns c = record { lanes = lanes-ended c.args.tree.now c.lemma_laws.ensures c.args.server c.loop-other.other _ (let v = c.servers-other-end.ensures.value in omega (arith, v)) c.loop-other.invariant }
