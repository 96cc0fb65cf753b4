use Rattle.std.proofs.Common.{◌≡◌, eqb, ◌∙◌}
use Rattle.std.specs.List.{list_any}
use Rattle.law_routing.specs.Server.{is_among}
use Rattle.server_core.proofs.Going.{any-among}
use Rattle.hierarchy_network.proofs.CoreSent.{goes-other}
use Rattle.hierarchy_network.proofs.acting.goes_on.Goals as goal

pub returns-else-link-master : goal.returns-else-link-master
returns-else-link-master c =
    let a : c.contains.result ≡ list_any (λ y. eqb y c.args.link) c.args.route.now = c.contains.ensures.value in
    goes-other c.args.master c.args.from c.args.link c.contains.result (is_among c.args.link c.args.route.now) c.if-link-from.true c.if-link-master.false (a ∙ any-among c.args.link c.args.route.now)
