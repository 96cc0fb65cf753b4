use Rattle.std.proofs.Common.{ap, sym, subst, ◌∙◌, arith}
use Rattle.base.specs.Sets.{Has}
use Rattle.base_bits.specs.Rows.{Numbers}
use Rattle.base_order.specs.Columns.{column_row}
use Rattle.base_order.proofs.Rows.{row-at}
use Rattle.base_order.proofs.Narrowing.{kept}
use Rattle.base_order.proofs.columns.narrow.Goals as goal

pub keep_if-requires : goal.keep_if-requires
keep_if-requires c =
    let r = c.requires in
    let i = c.loop-bit.invariant in
    ap (λ (z : Numbers). z.width) (row-at (column_row c.args.signs.now) 64 c.args.columns.now c.loop-bit.bit c.index-columns-bit.result r.columns (omega (arith, c.loop-bit-test.true)) c.index-columns-bit.is) ∙ sym i.width

pub loop-bit-preserved : goal.loop-bit-preserved
loop-bit-preserved c =
    let r = c.requires in
    let i = c.loop-bit.invariant in
    let column = row-at (column_row c.args.signs.now) 64 c.args.columns.now c.loop-bit.bit c.index-columns-bit.result r.columns (omega (arith, c.loop-bit-test.true)) c.index-columns-bit.is in
    record {
      width = c.keep_if.ensures.width ∙ i.width;
      kept = λ j h l may. subst (Has j) (sym c.keep_if.ensures.members)
          (kept c.args.signs.now c.args.sign c.loop-bit.bit c.has_bit-holds.result c.loop-bit.row.members c.index-columns-bit.result j column c.has_bit-holds.ensures l may (i.kept j h l may));
    }
