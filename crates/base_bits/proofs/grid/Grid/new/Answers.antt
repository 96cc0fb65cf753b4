use Rattle.std.proofs.Common.{◌*◌, sym, ap, subst, ◌∙◌, arith}
use Rattle.base_bits.specs.Grid.{each_below, row_at, IsGrid}
use Rattle.base_bits.proofs.Grids.{zeros-grid, zeros-rows}
use Rattle.base_bits.proofs.grid.Grid.new.Goals as goal

pub invariant_of-result : goal.invariant_of-result
invariant_of-result c =
    subst (λ z. IsGrid z c.div_ceil-span.result c.args.rows c.args.width) (sym (c.in_ok-words.ensures.items_if_clones_equal (λ y e. e)))
    (zeros-grid c.div_ceil-span.result c.args.rows c.args.width (omega (arith, c.div_ceil-span.ensures)) (omega arith) (omega arith))

pub returns-clause-rows : goal.returns-clause-rows
returns-clause-rows c =
    ap (λ z. each_below (row_at z c.args.rows c.args.width) c.args.rows) (c.in_ok-words.ensures.items_if_clones_equal (λ y e. e))
    ∙ zeros-rows (c.div_ceil-span.result * c.args.rows) c.args.rows c.args.width
