use Rattle.std.proofs.Common.{◌≡◌, ◌<◌, length, Some, sym, subst, ap, ◌∙◌}
use Rattle.base.specs.Sets.{Has}
use Rattle.law_machine.specs.Machine.{Does}
use Rattle.law_routing.specs.Step.{NextCommand}
use Rattle.net_model.specs.Parts.{NetParts}
use Rattle.net_tables.specs.Known.{known_filters, known_publications}
use Rattle.net_tables.specs.Found.{publication_at}
use Rattle.server_spec.specs.declared.planned.Planned.TheVariants as plans
use Rattle.server_spec.specs.Session.{SessionParts}
use Rattle.server_spec.specs.Plan.{next_plan}
use Rattle.server_core.specs.Core.{installed_from}
use Rattle.hierarchy_network.specs.Core.{HierarchyParts}
use Rattle.server_core.specs.Routed.{IsRoute}
use Rattle.server_core.specs.Step.{last_stamp}
use Rattle.sequential_network.proofs.Placed.{not_exhausted}
use Rattle.hierarchy_network.proofs.Placed.{placed_after}
use Rattle.hierarchy_network.proofs.forwarding_server.ForwardingServer.publish.Goals as goal

pub take_publish-requires-clause-known : goal.take_publish-requires-clause-known
take_publish-requires-clause-known c = subst (λ (z : HierarchyParts). c.args.number < length (known_publications 1 z.core.net.clients)) (sym c.self.view_is) c.requires.known

pub take_publish-requires-clause-publish : goal.take_publish-requires-clause-publish
take_publish-requires-clause-publish c = subst (λ (z : HierarchyParts). (s : SessionParts) → Has s z.core.clients → s.client ≡ c.args.client
    → next_plan s ≡ Some (plans.Publish (publication_at z.core.net c.args.number).id (publication_at z.core.net c.args.number).notice)) (sym c.self.view_is) c.requires.publish

pub routed-requires-clause-number : goal.routed-requires-clause-number
routed-requires-clause-number c = subst (λ (n : NetParts). c.args.number < length (known_publications 1 n.clients)) (sym (c.tables-tables.ensures ∙ ap (λ (z : HierarchyParts). z.core.net) c.self.view_is)) c.requires.known

pub routed-requires-clause-wide : goal.routed-requires-clause-wide
routed-requires-clause-wide c = subst (λ (n : NetParts). c.self.inside.forwarding.width ≡ length (known_filters n.clients)) (sym c.tables-tables.ensures) c.self.invariant.width

pub take_publish-requires-clause-route : goal.take_publish-requires-clause-route
take_publish-requires-clause-route c =
    let core = c.self.inside.core.core in
    subst (IsRoute (publication_at core.net c.args.number).notice (installed_from core)) (sym c.interfaces.ensures)
    (subst (λ (n : NetParts). IsRoute (publication_at n c.args.number).notice (installed_from core) c.in_ok-route.route) c.tables-tables.ensures
    (c.in_ok-route.ensures core (sym c.tables-tables.ensures) c.self.invariant))

pub unexhausted-requires : goal.unexhausted-requires
unexhausted-requires c = not_exhausted c.take_publish.result c.self.inside.core.core.clock (subst (λ (z : HierarchyParts). z.core.clock < last_stamp) (sym c.self.view_is) c.requires.low) c.take_publish.ensures.exhausted

pub invariant_of-self : goal.invariant_of-self
invariant_of-self c =
    placed_after c.self.inside.core c.take_publish.new.self c.self.inside.forwarding (Does (NextCommand c.args.client)) 0 c.take_publish.result
    (λ s. s.stamp) (λ s. s.sent.items) c.take_publish.ensures.step c.take_publish.ensures.interfaces c.take_publish.ensures.installed c.take_publish.ensures.err c.self.invariant
