use Rattle.std.proofs.Common.{◌∙◌, arith}
use Rattle.std.proofs.lemmas.Grind.{common_steps}
use Rattle.thread_cell.specs.Cell.{CellParts}
use Rattle.thread_cell.proofs.Splits.{map-set}
use Rattle.thread_cell.proofs.Emptied.{cell-done, roots-count, worn-here}
use Rattle.std.proofs.Common.{set}
use Rattle.thread_cell.proofs.Growing.{grown-on, grown-set}
use Rattle.thread_cell.proofs.finish.walk_cell.Goals as goal

pub returns-in_err-did-clause-roots : goal.returns-in_err-did-clause-roots
returns-in_err-did-clause-roots g c =
    let n = roots-count c.walk_links.new.cells c.args.cells.now c.walk_links.ensures.roots in
    map-set (λ (h : CellParts). h.root) c.walk_links.new.cells c.args.k c.index-cells-k.result c.walk_tasks.new.self (omega (arith, n, c.requires.k)) c.walk_tasks.ensures.root ∙ c.walk_links.ensures.roots

pub returns-then-took-clause-roots : goal.returns-then-took-clause-roots
returns-then-took-clause-roots g c =
    let n = roots-count c.walk_links.new.cells c.args.cells.now c.walk_links.ensures.roots in
    map-set (λ (h : CellParts). h.root) c.walk_links.new.cells c.args.k c.index-cells-k.result c.walk_tasks.new.self (omega (arith, n, c.requires.k)) c.walk_tasks.ensures.root ∙ c.walk_links.ensures.roots

pub returns-else-took-clause-roots : goal.returns-else-took-clause-roots
returns-else-took-clause-roots g c =
    let n = roots-count c.walk_links.new.cells c.args.cells.now c.walk_links.ensures.roots in
    map-set (λ (h : CellParts). h.root) c.walk_links.new.cells c.args.k c.index-cells-k.result c.walk_tasks.new.self (omega (arith, n, c.requires.k)) c.walk_tasks.ensures.root ∙ c.walk_links.ensures.roots

pub returns-else-took-clause-idle : goal.returns-else-took-clause-idle
returns-else-took-clause-idle g c = λ q.
    let n = roots-count c.walk_links.new.cells c.args.cells.now c.walk_links.ensures.roots in
    let l = c.in_ok-took.ensures.idle c.if-took.false in
    let t = c.in_ok-did.ensures.idle q in
    cell-done c.args.cells.now c.walk_links.new.cells c.args.k c.index-cells-k.result c.walk_tasks.new.self (omega (arith, n, c.requires.k)) l.0 l.1 t.0 t.1 t.2

pub returns-in_err-did-clause-worn : goal.returns-in_err-did-clause-worn
returns-in_err-did-clause-worn g c s e =
    let n = roots-count c.walk_links.new.cells c.args.cells.now c.walk_links.ensures.roots in
    worn-here c.walk_links.new.cells c.args.k s c.walk_tasks.new.self (omega (arith, n, c.requires.k)) (c.in_err-did.ensures.worn s (grind (arith, common_steps, e, c.from_residual-in_err-did.ensures.1)))

pub returns-in_err-did-clause-grown : goal.returns-in_err-did-clause-grown
returns-in_err-did-clause-grown g c =
    let n = roots-count c.walk_links.new.cells c.args.cells.now c.walk_links.ensures.roots in
    grown-on c.args.cells.now c.walk_links.new.cells (set c.walk_links.new.cells c.args.k c.walk_tasks.new.self) c.walk_links.ensures.grown
    (grown-set c.walk_links.new.cells c.args.k c.index-cells-k.result c.walk_tasks.new.self (omega (arith, n, c.requires.k)) c.walk_tasks.ensures.grown)

pub returns-then-took-clause-grown : goal.returns-then-took-clause-grown
returns-then-took-clause-grown g c =
    let n = roots-count c.walk_links.new.cells c.args.cells.now c.walk_links.ensures.roots in
    grown-on c.args.cells.now c.walk_links.new.cells (set c.walk_links.new.cells c.args.k c.walk_tasks.new.self) c.walk_links.ensures.grown
    (grown-set c.walk_links.new.cells c.args.k c.index-cells-k.result c.walk_tasks.new.self (omega (arith, n, c.requires.k)) c.walk_tasks.ensures.grown)

pub returns-else-took-clause-grown : goal.returns-else-took-clause-grown
returns-else-took-clause-grown g c =
    let n = roots-count c.walk_links.new.cells c.args.cells.now c.walk_links.ensures.roots in
    grown-on c.args.cells.now c.walk_links.new.cells (set c.walk_links.new.cells c.args.k c.walk_tasks.new.self) c.walk_links.ensures.grown
    (grown-set c.walk_links.new.cells c.args.k c.index-cells-k.result c.walk_tasks.new.self (omega (arith, n, c.requires.k)) c.walk_tasks.ensures.grown)
