use Rattle.std.proofs.Common.{subst}
use Rattle.net_tables.specs.Found.{IsFound, publication_at}
use Rattle.thread_versions.specs.Ends.{installed}
use Rattle.thread_versions.specs.Pairs.{pairs_after}
use Rattle.server_core.proofs.RoutesByPairs.{route-answered}
use Rattle.thread_cell.proofs.routing.routed.Goals as goal

pub returns : goal.returns
returns c =
    let is = subst (λ n. IsFound n (publication_at n c.args.number) c.matched.result) c.tables.ensures c.matched.ensures in
    route-answered c.args.core.now (pairs_after (installed c.args.publisher.now)) c.requires.installed.pairs.pairs_are c.requires.installed.pairs.known (publication_at c.args.core.now.net c.args.number) c.matched.result is c.route.result c.route.ensures
