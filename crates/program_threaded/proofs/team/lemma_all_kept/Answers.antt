use Rattle.std.proofs.Common.{inl, inr, sym, ap, subst, ◌∙◌, slice_get, arith}
use Rattle.std.proofs.lemmas.Option.{same_Some}
use Rattle.thread_cell.specs.Cell.{CellParts, IsKept}
use Rattle.thread_cell.proofs.Places.{split, below-found}
use Rattle.program_threaded.proofs.team.lemma_all_kept.Goals as goal
use Rattle.base.proofs.Lists.{get-get_or}

pub loop-cell-preserved : goal.loop-cell-preserved
loop-cell-preserved c = λ k hand lt e. elim (split k c.loop-cell.cell-index lt) [
  | inl a ↦ c.loop-cell.invariant k hand a e
  | inr q ↦ (let at = get-get_or c.args.cells.now c.loop-cell.cell-index c.cell-item.result (omega arith) c.cell-item.is in
      subst (λ (h : CellParts). IsKept h.root.net.value h.root h.journal h.held) (same_Some c.cell-item.result hand (sym at ∙ ap (λ n. slice_get c.args.cells.now n) (sym q) ∙ e)) c.lemma_kept.ensures)
]

pub returns : goal.returns
returns c = λ k hand e. let lt = below-found k c.args.cells.now hand e in c.loop-cell.invariant k hand (omega arith) e
