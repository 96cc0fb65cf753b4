use Rattle.std.proofs.Common.{◌≡◌, ◌<◌, inl, inr, length, slice_get, Some, get_or, sym, subst, ◌∙◌, arith}
use Rattle.thread_cell.specs.Together.{AreTogether, sights}
use Rattle.thread_cell.specs.InHand.{IsReceivedInOrder}
use Rattle.thread_cell.proofs.Places.{found, split}
use Rattle.thread_cell.proofs.Emptied.{as-many-links, same-roots, same-count, roots-count}
use Rattle.thread_cell.proofs.Settled.{all-settled, settle-order}
use Rattle.thread_cell.proofs.finish.settle_one.Goals as goal

pub giver_of-giver-requires-clause-from : goal.giver_of-giver-requires-clause-from
giver_of-giver-requires-clause-from c = λ b e.
    let at = found c.args.cells.now c.args.k c.index-cells-k.result c.requires.k in
    let n = as-many-links c.args.cells.now c.args.k (get_or c.args.cells.now c.args.k c.index-cells-k.result) at c.lemma_kept.ensures b (subst (λ l. slice_get l c.args.k ≡ Some b) c.loop-from.invariant.roots e) in
    let h = c.neighbours-from-end.ensures in
    omega arith

pub loop-from-preserved : goal.loop-from-preserved
loop-from-preserved c =
    let n = same-count _ _ c.settle_two.ensures.sights in
    let m = roots-count _ _ c.loop-from.invariant.roots in
    let lt : c.args.k < length c.settle_two.new.all = omega (arith, n, m, c.requires.k) in
    let within : c.giver_of-giver.result.0 < length c.settle_two.new.all = omega (arith, n, c.giver_of-giver.ensures.within) in
    record {
      seen = c.settle_two.ensures.sights ∙ c.loop-from.invariant.seen;
      roots = same-roots _ _ c.settle_two.ensures.sights ∙ c.loop-from.invariant.roots;
      order = λ p lt-p. elim (split p c.loop-from.from lt-p) [
        | inl a ↦ subst (λ l. IsReceivedInOrder l c.args.k p) (sym c.settle_two.ensures.sights) (c.loop-from.invariant.order p a)
        | inr e ↦ subst (λ q. IsReceivedInOrder (sights c.settle_two.new.all) c.args.k q) (sym e)
            (settle-order c.loop-from.cells c.settle_two.new.all c.giver_of-giver.result.0 c.giver_of-giver.result.1 c.args.k c.loop-from.from c.giver_of-giver.ensures c.settle_two.ensures.sights
            (get_or c.settle_two.new.all c.giver_of-giver.result.0 c.index-cells-giver.result) (get_or c.settle_two.new.all c.args.k c.index-cells-k-in-loop-from.result)
            (found c.settle_two.new.all c.giver_of-giver.result.0 c.index-cells-giver.result within) (found c.settle_two.new.all c.args.k c.index-cells-k-in-loop-from.result lt) c.lemma_kept-in-loop-from.ensures c.lemma_kept-in-loop-from-2.ensures c.in_ok-settle_two.ensures.settled)
      ];
    }

pub returns-clause-order : goal.returns-clause-order
returns-clause-order c =
    all-settled c.loop-from.cells c.args.k c.loop-from.from (λ b e.
    let at = found c.args.cells.now c.args.k c.index-cells-k.result c.requires.k in
    let n = as-many-links c.args.cells.now c.args.k (get_or c.args.cells.now c.args.k c.index-cells-k.result) at c.lemma_kept.ensures b (subst (λ l. slice_get l c.args.k ≡ Some b) c.loop-from.invariant.roots e) in
    let h = c.neighbours-from-end.ensures in
    omega arith) c.loop-from.invariant.order

pub giver_of-giver-requires-clause-together : goal.giver_of-giver-requires-clause-together
giver_of-giver-requires-clause-together c = (c.requires.together.0, c.requires.together.1, subst (AreTogether c.requires.together.0 c.requires.together.1) (sym c.loop-from.invariant.roots) c.requires.together.2)

pub returns-in_err-settle_two-clause-sights : goal.returns-in_err-settle_two-clause-sights
returns-in_err-settle_two-clause-sights c = c.settle_two.ensures.sights ∙ c.loop-from.invariant.seen

pub returns-clause-sights : goal.returns-clause-sights
returns-clause-sights c = c.loop-from.invariant.seen
