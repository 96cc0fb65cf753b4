use Rattle.std.proofs.Common.{subst}
use Rattle.net_model.specs.Parts.{NetParts}
use Rattle.net_tables.specs.Found.{publication_at}
use Rattle.hierarchy_network.specs.Acting.{IsSpreadUp}
use Rattle.hierarchy_network.proofs.acting.spread_up.Goals as goal

pub returns-clause-spread : goal.returns-clause-spread
returns-clause-spread c =
    let number = c.args.outgoing.number in
    let route = c.args.outgoing.route.now in
    let before = c.args.clients.now.sessions in
    let after = c.spread.new.clients.sessions in
    let sent = c.in_ok-sent.sent.items in
    subst (λ (z : NetParts). IsSpreadUp z c.args.master c.args.from (publication_at z number).id.publisher (publication_at z number).id.ordinal (publication_at z number).notice route c.args.ledger.now.control.links before after sent) c.tables-tables.ensures
    (subst (λ z. IsSpreadUp c.tables-tables.result.now c.args.master c.args.from (publication_at c.tables-tables.result.now number).id.publisher (publication_at c.tables-tables.result.now number).id.ordinal (publication_at c.tables-tables.result.now number).notice route z before after sent) c.links.ensures
    (record { inboxes = c.in_ok-spread.ensures.spread.inboxes; sent_are = c.in_ok-sent.ensures }))
