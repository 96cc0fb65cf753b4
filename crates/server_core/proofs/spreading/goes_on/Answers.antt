use Rattle.std.proofs.Common.{◌≡◌, eqb, ◌∙◌}
use Rattle.std.specs.List.{list_any}
use Rattle.server_core.proofs.Going.{any-among, goes-one, low-link}
use Rattle.law_routing.specs.Server.{is_among}
use Rattle.server_core.proofs.spreading.goes_on.Goals as goal

pub returns-then-interface-from : goal.returns-then-interface-from
returns-then-interface-from c =
    let a : c.contains.result ≡ list_any (λ y. eqb y c.args.interface) c.args.links.now = c.contains.ensures.value in
    goes-one c.args.interface c.args.from c.contains.result (is_among c.args.interface c.args.links.now) (low-link c.is_link.result c.args.interface c.is_link.ensures c.if-interface-from.true.0) c.if-interface-from.true.1 (a ∙ any-among c.args.interface c.args.links.now)
