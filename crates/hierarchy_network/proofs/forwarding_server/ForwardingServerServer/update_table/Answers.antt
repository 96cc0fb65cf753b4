use Rattle.std.proofs.Common.{◌≡◌, ◌<◌, sym, subst}
use Rattle.server_spec.specs.Control.{subs}
use Rattle.match_routes.specs.Installed.{AreKnown, all_changed}
use Rattle.server_core.specs.Core.{installed_from}
use Rattle.hierarchy_network.specs.Core.{HierarchyParts}
use Rattle.server_core.specs.Step.{last_stamp}
use Rattle.server_core.proofs.Stamps.{never_publishes}
use Rattle.sequential_network.proofs.Placed.{pending_known}
use Rattle.hierarchy_network.proofs.Placed.{placed_after_update}
use Rattle.hierarchy_network.proofs.forwarding_server.ForwardingServerServer.update_table.Goals as goal

pub apply-requires : goal.apply-requires
apply-requires c =
    let core = c.self.inside.core.core in
    subst (AreKnown c.self.inside.forwarding) (sym c.pending.ensures.changes)
    (pending_known core.net core.interfaces (installed_from core) (subs core.control) core.pending c.self.inside.forwarding c.self.invariant c.pending.ensures.pending)

pub unreachable-requires : goal.unreachable-requires
unreachable-requires c =
    never_publishes c.publish.result c.in-Err.field-0 c.in-Err.is c.self.inside.core.core.clock (subst (λ (z : HierarchyParts). z.core.clock < last_stamp) (sym c.self.view_is) c.requires.low)
    c.publish.ensures.exhausted c.publish.ensures.memory

pub invariant_of-self : goal.invariant_of-self
invariant_of-self c =
    placed_after_update c.self.inside.core c.publish.new.self c.self.inside.forwarding c.apply.new.self c.in-Ok.ensures.step.same_net c.in-Ok.ensures.interfaces c.in-Ok.ensures.installed
    c.pending.ensures.pending c.lemma_sound.ensures c.apply.ensures.same
    (subst (λ z. c.apply.new.self.pairs ≡ all_changed z c.self.inside.forwarding.pairs) c.pending.ensures.changes c.apply.ensures.pairs) c.self.invariant
