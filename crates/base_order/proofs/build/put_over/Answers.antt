use Rattle.std.proofs.Common.{◌∙◌, ap}
use Rattle.base_bits.specs.Rows.{Numbers}
use Rattle.base_bits.proofs.Passing.{passing-step}
use Rattle.base_order.specs.Order.{stands_at}
use Rattle.base_order.proofs.Over.{over-more}
use Rattle.base_order.proofs.build.put_over.Goals as goal

pub returns : goal.returns
returns g c =
    let items = c.args.items.now in
    let r = c.requires in
    let now = c.put_if.ensures in
    over-more g.T.Cover.covering items c.args.i c.args.j c.stands_over-over.result c.put_if.new.row c.stands_over-over.ensures
    (now.width ∙ ap (λ (z : Numbers). z.width) r.row)
    (now.members ∙ passing-step (λ k. stands_at g.T.Cover.covering items k c.args.j) c.args.i c.stands_over-over.result c.args.row.now.members (ap (λ (z : Numbers). z.members) r.row) c.stands_over-over.ensures)
