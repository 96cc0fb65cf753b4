use Rattle.std.proofs.Common.{◌≡◌, ◌∙◌, sym, ap, arith}
use Rattle.base_bits.specs.Words.{bit}
use Rattle.match_cells.specs.Cells.{lost_in}
use Rattle.match_cells.proofs.Places.{cell-misses}
use Rattle.match_cells.proofs.row.read_row.Goals as goal

pub returns-clause-bits : goal.returns-clause-bits
returns-clause-bits g c span groups e are k =
    let told = (are.told c.cell_of-cell.result (omega (arith, c.cell_of-cell.ensures.within, c.requires.ends))).1 k in
    let same : lost_in k groups c.cell_of-cell.result ≡ _ = cell-misses g.K.LineKey.order (g.Q.Sought.meant c.args.x) k c.args.cuts.now groups c.cell_of-cell.result e c.cell_of-cell.ensures.cell in
    (λ b. let t = told.0 (ap (λ w. bit w k) (sym c.read.ensures) ∙ b) in (t.0, sym same ∙ t.1), λ b. ap (λ w. bit w k) c.read.ensures ∙ told.1 (b.0, same ∙ b.1))
