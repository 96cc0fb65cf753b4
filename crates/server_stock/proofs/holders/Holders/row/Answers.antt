use Rattle.std.proofs.Common.{length, ap, sym, subst, ◌∙◌, arith}
use Rattle.base.specs.Sets.{Has}
use Rattle.server_stock.specs.Held.{Held}
use Rattle.server_stock.proofs.Counts.{has-get}
use Rattle.server_stock.proofs.holders.Holders.row.Goals as goal

pub returns-clause-width : goal.returns-clause-width
returns-clause-width c =
    let v = ap (λ (z : Held). length z.rows) c.self.view_is in
    let u = ap (λ (z : Held). z.width) c.self.view_is in
    c.self.invariant.wide c.index.result.now (subst (λ z. Has z c.self.inside.rows.items) (sym c.index.ensures) (has-get c.self.inside.rows.items c.args.place c.index.result.now (omega (arith, v, c.requires)))) ∙ u
