use Rattle.std.proofs.Common.{◌<◌, length, ap, ◌∙◌, arith}
use Rattle.std.proofs.lemmas.List.{length-map}
use Rattle.server_stock.specs.Sides.{announced_of}
use Rattle.server_stock.specs.Stock.{Stocked}
use Rattle.server_stock.proofs.Turns.{side-read}
use Rattle.server_stock.proofs.stock.Stock.added.Goals as goal

pub returns-clause-width : goal.returns-clause-width
returns-clause-width g c =
    let t = c.self.inside in
    let k = ap (λ (z : Stocked g.row.T.Denot). length z.announced) c.self.view_is in
    let there : c.args.place < length t.sides.items = omega (arith, c.requires, k, length-map t.sides.items announced_of) in
    (side-read g.T.Cover.covering t.order.now t.held t.sides.items c.args.place c.index.result.now c.self.invariant.links there c.index.ensures).wide.added
    ∙ ap (λ (z : Stocked g.row.T.Denot). length z.items) c.self.view_is
