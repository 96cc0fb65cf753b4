use Rattle.std.proofs.Common.{IfOk, sym, subst}
use Rattle.net_model.specs.Parts.{NetParts}
use Rattle.net_tables.specs.Found.{IsFound, publication_at}
use Rattle.server_core.specs.Core.{installed_from}
use Rattle.server_core.specs.Routed.{IsRoute}
use Rattle.server_core.proofs.RoutesByPairs.{route-answered}
use Rattle.sequential_network.proofs.routing.routed.Goals as goal

pub returns : goal.returns
returns c = λ core net place.
    let found = c.matched.result in
    let is : IsFound core.net (publication_at core.net c.args.number) found = subst (λ (n : NetParts). IsFound n (publication_at n c.args.number) found) (sym net) c.matched.ensures in
    subst (λ (n : NetParts). IfOk c.route.result (IsRoute (publication_at n c.args.number).notice (installed_from core))) net
    (route-answered core c.args.forwarding.now.pairs place.pairs place.known (publication_at core.net c.args.number) found is c.route.result c.route.ensures)
