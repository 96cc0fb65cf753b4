use Rattle.std.proofs.Common.{◌<◌, length, inl, inr, sym, subst, ◌∙◌, arith}
use Rattle.std.proofs.lemmas.List.{length-map}
use Rattle.thread_cell.specs.Together.{AreTogether, sight, sights}
use Rattle.thread_cell.specs.InHand.{IsReceivedInOrder}
use Rattle.thread_cell.proofs.Places.{split}
use Rattle.thread_cell.proofs.Emptied.{roots-count, same-roots}
use Rattle.thread_cell.proofs.finish.settle_all.Goals as goal

pub loop-k-preserved : goal.loop-k-preserved
loop-k-preserved c = record {
  seen = c.settle_one.ensures.sights ∙ c.loop-k.invariant.seen;
  roots = same-roots _ _ c.settle_one.ensures.sights ∙ c.loop-k.invariant.roots;
  order = λ k p lt. elim (split k c.loop-k.k lt) [
    | inl a ↦ subst (λ l. IsReceivedInOrder l k p) (sym c.settle_one.ensures.sights) (c.loop-k.invariant.order k p a)
    | inr e ↦ subst (λ n. IsReceivedInOrder (sights c.settle_one.new.cells) n p) (sym e) (c.in_ok-settle_one.ensures.order p)
  ];
}

pub settle_one-requires-clause-together : goal.settle_one-requires-clause-together
settle_one-requires-clause-together c = (c.requires.0, c.requires.1, subst (AreTogether c.requires.0 c.requires.1) (sym c.loop-k.invariant.roots) c.requires.2)

pub returns-in_err-settle_one-clause-sights : goal.returns-in_err-settle_one-clause-sights
returns-in_err-settle_one-clause-sights c = c.settle_one.ensures.sights ∙ c.loop-k.invariant.seen

pub returns-clause-sights : goal.returns-clause-sights
returns-clause-sights c = c.loop-k.invariant.seen

pub returns-clause-order : goal.returns-clause-order
returns-clause-order c = λ k p lt.
    let seen : k < length (sights c.loop-k.cells) = lt in
    let many = length-map c.loop-k.cells sight in
    let same = roots-count c.loop-k.cells c.args.cells.now c.loop-k.invariant.roots in
    c.loop-k.invariant.order k p (omega arith)
