use Rattle.std.proofs.Common.{subst}
use Rattle.base.specs.Sets.{Has}
use Rattle.server_stock.specs.Held.{row_at}
use Rattle.server_stock.specs.Stock.{Stocked, Holding}
use Rattle.server_stock.proofs.Shown.{pairs-at, picked-has}
use Rattle.server_stock.proofs.stock.Stock.lemma_sound.Goals as goal
use Rattle.base.proofs.Sets.{get-has}

pub returns-clause-held : goal.returns-clause-held
returns-clause-held g c =
    let t = c.self.inside in
    subst (λ (z : Stocked g.row.T.Denot). (h : Holding g.row.T.Denot) → Has h z.holdings → Has h.item z.items) c.self.view_is
    (λ h m.
    let a = pairs-at t.order.now t.interfaces.items t.held.rows h m in
    let k = picked-has t.order.now (row_at t.held.rows a.0).members h.item a.2 in
    get-has t.order.now k.0 h.item k.2)

pub returns-clause-held_from : goal.returns-clause-held_from
returns-clause-held_from g c =
    let t = c.self.inside in
    subst (λ (z : Stocked g.row.T.Denot). (h : Holding g.row.T.Denot) → Has h z.holdings → Has h.interface z.interfaces) c.self.view_is
    (λ h m.
    let a = pairs-at t.order.now t.interfaces.items t.held.rows h m in
    get-has t.interfaces.items a.0 h.interface a.1)
