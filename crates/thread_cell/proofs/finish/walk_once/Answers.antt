use Rattle.std.proofs.Common.{◌≡◌, inl, inr, true, false, sym, subst, ◌∙◌}
use Rattle.thread_cell.specs.Together.{IsCellDone, sights}
use Rattle.thread_cell.proofs.Places.{split}
use Rattle.thread_cell.proofs.Growing.{grown-on, grown-same}
use Rattle.std.proofs.Common.{refl, arith}
use Rattle.thread_cell.proofs.finish.walk_once.Goals as goal
use Rattle.thread_cell.proofs.finish.walk_once.Goals.{then-branch, else-branch}

pub loop-k-preserved : goal.loop-k-preserved
loop-k-preserved g c = record {
  roots = c.walk_cell.ensures.roots ∙ c.loop-k.invariant.roots;
  grown = grown-on c.args.cells.now c.loop-k.cells c.walk_cell.new.cells c.loop-k.invariant.grown c.walk_cell.ensures.grown;
  idle = elim c.if-branch.branch [
    | then-branch w ↦ λ q. absurd (let e : true ≡ false = sym w.made-is ∙ q in cc)
    | else-branch w ↦ λ q k lt.
        let i = c.in_ok-walk_cell.ensures.idle w.if-branch.false in
        elim (split k c.loop-k.k lt) [ inl a ↦ subst (λ l. IsCellDone l k) (sym i.0) (c.loop-k.invariant.idle (sym w.made-is ∙ q) k a) | inr e ↦ subst (λ n. IsCellDone (sights c.walk_cell.new.cells) n) (sym e) i.1 ]
  ];
}

pub returns-in_err-walk_cell-clause-grown : goal.returns-in_err-walk_cell-clause-grown
returns-in_err-walk_cell-clause-grown g c = grown-on c.args.cells.now c.loop-k.cells c.walk_cell.new.cells c.loop-k.invariant.grown c.walk_cell.ensures.grown

pub loop-k-init : goal.loop-k-init
loop-k-init g c = record { roots = refl; grown = grown-same c.args.cells.now; idle = λ e k lt. absurd (omega (arith, lt)) }
