use Rattle.std.proofs.Common.{◌≡◌, slice_get, Some, get_or, subst, arith}
use Rattle.thread_cell.proofs.Places.{found}
use Rattle.thread_cell.proofs.Emptied.{as-many-links, all-tried}
use Rattle.thread_cell.proofs.Growing.{grown-on, grown-same}
use Rattle.std.proofs.Common.{true, false, inl, inr, refl, sym, ◌∙◌}
use Rattle.thread_cell.specs.Together.{IsTakenUp, sights}
use Rattle.thread_cell.proofs.Places.{split}
use Rattle.thread_cell.proofs.finish.walk_links.Goals.{then-branch, else-branch}
use Rattle.thread_cell.proofs.finish.walk_links.Goals as goal

pub take_settled-requires-clause-from : goal.take_settled-requires-clause-from
take_settled-requires-clause-from g c = λ b e.
    let at = found c.args.cells.now c.args.k c.index-cells-k.result c.requires.k in
    let n = as-many-links c.args.cells.now c.args.k (get_or c.args.cells.now c.args.k c.index-cells-k.result) at c.lemma_kept.ensures b (subst (λ l. slice_get l c.args.k ≡ Some b) c.loop-from.invariant.roots e) in
    let h = c.neighbours-from-end.ensures in
    omega arith

pub returns-clause-idle : goal.returns-clause-idle
returns-clause-idle g c = λ q.
    let i = c.loop-from.invariant.idle q in (
      i.0,
      all-tried c.loop-from.cells c.args.k c.loop-from.from (λ b e.
          let at = found c.args.cells.now c.args.k c.index-cells-k.result c.requires.k in
          let n = as-many-links c.args.cells.now c.args.k (get_or c.args.cells.now c.args.k c.index-cells-k.result) at c.lemma_kept.ensures b (subst (λ l. slice_get l c.args.k ≡ Some b) c.loop-from.invariant.roots e) in
          let h = c.neighbours-from-end.ensures in
          omega arith) i.1,
    )

pub returns-in_err-take_settled-clause-grown : goal.returns-in_err-take_settled-clause-grown
returns-in_err-take_settled-clause-grown g c = grown-on c.args.cells.now c.loop-from.cells c.take_settled.new.cells c.loop-from.invariant.grown c.take_settled.ensures.grown

pub loop-from-init : goal.loop-from-init
loop-from-init g c = record { roots = refl; grown = grown-same c.args.cells.now; idle = λ e. (refl, λ p lt. absurd (omega (arith, lt))) }

pub loop-from-preserved : goal.loop-from-preserved
loop-from-preserved g c = record {
  roots = c.take_settled.ensures.roots ∙ c.loop-from.invariant.roots;
  grown = grown-on c.args.cells.now c.loop-from.cells c.take_settled.new.cells c.loop-from.invariant.grown c.take_settled.ensures.grown;
  idle = elim c.if-branch.branch [
    | then-branch w ↦ λ q. absurd (let e : true ≡ false = sym w.made-is ∙ q in cc)
    | else-branch w ↦ λ q. (
        let i = c.in_ok-take_settled.ensures.idle w.if-branch.false in
        let b = c.loop-from.invariant.idle (sym w.made-is ∙ q) in (
          i.0 ∙ b.0,
          λ p lt. elim (split p c.loop-from.from lt) [
            | inl a ↦ subst (λ l. IsTakenUp l c.args.k p) (sym i.0) (b.1 p a)
            | inr e ↦ subst (λ n. IsTakenUp (sights c.take_settled.new.cells) c.args.k n) (sym e) i.1
          ],
        ))
  ];
}
