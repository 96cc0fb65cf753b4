use Rattle.std.proofs.Common.{◌∙◌, arith}
use Rattle.std.proofs.lemmas.Grind.{common_steps}
use Rattle.thread_cell.specs.Cell.{CellParts}
use Rattle.thread_cell.proofs.Splits.{map-set}
use Rattle.thread_cell.proofs.Emptied.{roots-count, worn-here}
use Rattle.std.proofs.Common.{set, refl}
use Rattle.thread_cell.proofs.Growing.{grown-on, grown-set, grown-same}
use Rattle.thread_cell.proofs.finish.walk_commands.Goals as goal

pub loop-k-preserved : goal.loop-k-preserved
loop-k-preserved g c =
    let n = roots-count c.loop-k.cells c.args.cells.now c.loop-k.invariant.roots in
    record {
      roots = map-set (λ (h : CellParts). h.root) c.loop-k.cells c.loop-k.k c.index-cells-k.result c.take_commands.new.self (omega (arith, n, c.loop-k.auto, c.loop-k-test.true)) c.take_commands.ensures.root ∙ c.loop-k.invariant.roots;
      grown = grown-on c.args.cells.now c.loop-k.cells (set c.loop-k.cells c.loop-k.k c.take_commands.new.self) c.loop-k.invariant.grown
          (grown-set c.loop-k.cells c.loop-k.k c.index-cells-k.result c.take_commands.new.self (omega (arith, n, c.loop-k.auto, c.loop-k-test.true)) c.take_commands.ensures.grown);
    }

pub returns-in_err-take_commands-clause-roots : goal.returns-in_err-take_commands-clause-roots
returns-in_err-take_commands-clause-roots g c =
    let n = roots-count c.loop-k.cells c.args.cells.now c.loop-k.invariant.roots in
    map-set (λ (h : CellParts). h.root) c.loop-k.cells c.loop-k.k c.index-cells-k.result c.take_commands.new.self (omega (arith, n, c.loop-k.auto, c.loop-k-test.true)) c.take_commands.ensures.root ∙ c.loop-k.invariant.roots

pub returns-in_err-take_commands-clause-worn : goal.returns-in_err-take_commands-clause-worn
returns-in_err-take_commands-clause-worn g c s e =
    let n = roots-count c.loop-k.cells c.args.cells.now c.loop-k.invariant.roots in
    worn-here c.loop-k.cells c.loop-k.k s c.take_commands.new.self (omega (arith, n, c.loop-k.auto, c.loop-k-test.true)) (c.in_err-take_commands.ensures.worn s (grind (arith, common_steps, e, c.from_residual.ensures.1)))

pub loop-k-init : goal.loop-k-init
loop-k-init g c = record { roots = refl; grown = grown-same c.args.cells.now }

pub returns-in_err-take_commands-clause-grown : goal.returns-in_err-take_commands-clause-grown
returns-in_err-take_commands-clause-grown g c =
    let n = roots-count c.loop-k.cells c.args.cells.now c.loop-k.invariant.roots in
    grown-on c.args.cells.now c.loop-k.cells (set c.loop-k.cells c.loop-k.k c.take_commands.new.self) c.loop-k.invariant.grown
    (grown-set c.loop-k.cells c.loop-k.k c.index-cells-k.result c.take_commands.new.self (omega (arith, n, c.loop-k.auto, c.loop-k-test.true)) c.take_commands.ensures.grown)
