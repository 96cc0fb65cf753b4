use Rattle.std.proofs.Common.{nat_lt, length, ap, sym, ◌∙◌, arith}
use Rattle.base.specs.Numbers.{count}
use Rattle.server_stock.specs.Held.{Held, needs, row_at}
use Rattle.server_stock.proofs.Counts.{is-needed, same-read}
use Rattle.server_stock.proofs.holders.Holders.is_needed.Goals as goal

pub returns : goal.returns
returns c =
    let r = c.requires in
    let v = ap (λ (z : Held). length z.rows) c.self.view_is in
    let u = ap (λ (z : Held). z.width) c.self.view_is in
    let rows = c.self.inside.rows.items in
    let own = c.row.result.now in
    let e = c.row.ensures.value ∙ sym (ap (λ (z : Held). row_at z.rows c.args.place) c.self.view_is) in
    ap (λ b. nat_lt b c.index.result.now) (c.as_count.ensures ∙ ap count c.has-own.ensures)
    ∙ (is-needed c.self.invariant c.args.place c.args.i own (omega (arith, v, r.place)) (omega (arith, u, r.number))
    (same-read rows c.args.place own _ e (omega (arith, v, r.place))) c.index.result.now c.index.ensures
    ∙ ap (λ (z : Held). needs z.rows c.args.place c.args.i) c.self.view_is)
