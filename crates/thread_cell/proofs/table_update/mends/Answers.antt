use Rattle.std.proofs.Common.{List, take, get_or, ◌+◌, sym, subst}
use Rattle.base.specs.Sets.{Has}
use Rattle.base.proofs.Sets.{get_or-has}
use Rattle.match_routes.specs.declared.table_change.TableChange.{TableChange}
use Rattle.match_routes.specs.declared.table_change.TableChange.TheVariants.{Put}
use Rattle.thread_cell.specs.Versions.{IsTouched, AreTouched, IsOfHeld}
use Rattle.thread_cell.proofs.HandOver.{touched_more, touched_put, each-put}
use Rattle.thread_cell.proofs.table_update.mends.Goals as goal
use Rattle.thread_cell.proofs.table_update.mends.Goals.{then-not-is_touched+in_ok-mend+in_ok-push, else-not-is_touched}

pub held_change-requires : goal.held_change-requires
held_change-requires c =
    record { numbered = c.requires.numbered (get_or c.args.changes.now c.loop-change.change-index (Put 0 0)) (get_or-has c.args.changes.now c.loop-change.change-index (Put 0 0) c.loop-change-test.true) }

pub loop-change-preserved : goal.loop-change-preserved
loop-change-preserved c =
    let k = c.loop-change.change-index in
    let changes = c.args.changes.now in
    let one = get_or changes k (Put 0 0) in
    let old = c.loop-change.mends.items in
    elim c.if-not-is_touched.branch [
      | then-not-is_touched+in_ok-mend+in_ok-push w ↦ rw w.mends-is (record {
        touched = subst (λ (l : List TableChange). AreTouched l (take (k + 1) changes)) (sym w.in_ok-push.ensures.items) (touched_put old changes k (Put 0 0) w.in_ok-mend.mend c.loop-change-test.true c.loop-change.invariant.touched w.in_ok-mend.ensures.pair);
        same = subst (λ (l : List TableChange). AreTouched changes l) (sym w.in_ok-push.ensures.items) (each-put (IsTouched changes) old w.in_ok-mend.mend c.loop-change.invariant.same (one, get_or-has changes k (Put 0 0) c.loop-change-test.true, w.in_ok-mend.ensures.pair));
        held = subst (λ (l : List TableChange). (mend : TableChange) → Has mend l → IsOfHeld c.args.core.now mend) (sym w.in_ok-push.ensures.items) (each-put (IsOfHeld c.args.core.now) old w.in_ok-mend.mend c.loop-change.invariant.held w.in_ok-mend.ensures.held);
      })
      | else-not-is_touched w ↦ rw w.mends-is (record {
        touched = touched_more old changes k (Put 0 0) c.loop-change-test.true c.loop-change.invariant.touched (subst (λ (l : List TableChange). IsTouched l one) c.deref.ensures.value (c.is_touched.ensures w.if-not-is_touched.false));
        same = c.loop-change.invariant.same;
        held = c.loop-change.invariant.held;
      })
    ]
