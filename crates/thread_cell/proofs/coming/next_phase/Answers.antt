use Rattle.std.specs.Prelude.{IfSome}
use Rattle.std.proofs.Common.{◌≡◌, ◌<◌, ℕ, Some, slice_get, subst, arith}
use Rattle.thread_cell.specs.Cell.{CellParts}
use Rattle.thread_cell.specs.Coming.{AreFrom, HaveCommand}
use Rattle.thread_cell.proofs.Comings.{servers-more, none-all}
use Rattle.thread_cell.proofs.Places.{below-found}
use Rattle.thread_cell.proofs.coming.next_phase.Goals as goal
use Rattle.base.proofs.Lists.{get-get_or}

pub loop-cell-preserved : goal.loop-cell-preserved
loop-cell-preserved c =
    subst (λ n. ((k : ℕ) (cell : CellParts) → k < n → slice_get c.args.cells.now k ≡ Some cell → AreFrom c.earlier-least.result cell.held.core.clients) × IfSome c.earlier-least.result (HaveCommand c.args.cells.now)) (omega arith)
    (servers-more c.loop-cell.cell-index c.args.cells.now c.cell-item.result c.loop-cell.least c.next_phase.result c.earlier-least.result
    (get-get_or c.args.cells.now c.loop-cell.cell-index c.cell-item.result (omega arith) c.cell-item.is) c.loop-cell.invariant.0 c.loop-cell.invariant.1
    c.earlier-least.ensures.one c.earlier-least.ensures.other c.earlier-least.ensures.either c.next_phase.ensures.from c.next_phase.ensures.own)

pub returns-clause-none : goal.returns-clause-none
returns-clause-none c = (none-all c.args.cells.now c.loop-cell.least (λ k cell e. let lt = below-found k c.args.cells.now cell e in c.loop-cell.invariant.0 k cell (omega (arith, lt, c.loop-cell-test.false, c.loop-cell.auto.cell-index-end)) e)).0

pub returns-clause-some : goal.returns-clause-some
returns-clause-some c = (none-all c.args.cells.now c.loop-cell.least (λ k cell e. let lt = below-found k c.args.cells.now cell e in c.loop-cell.invariant.0 k cell (omega (arith, lt, c.loop-cell-test.false, c.loop-cell.auto.cell-index-end)) e)).1
