use Rattle.std.proofs.Common.{◌≡◌, ◌+◌, suc, max, map, sym, subst}
use Rattle.base.specs.Sets.{Has}
use Rattle.law_machine.specs.Machine.{Receives}
use Rattle.server_message.specs.Message.{IsLoad, represented}
use Rattle.server_core.specs.Clients.{bare}
use Rattle.server_core.specs.Core.{core_parts}
use Rattle.server_core.specs.Routed.{RoutesMessage}
use Rattle.server_core.proofs.Stamps.{next-is, exhausted-of}
use Rattle.server_core.proofs.Made.{routed-message}
use Rattle.server_core.proofs.Keeping.{adds-rise}
use Rattle.hierarchy_network.specs.Core.{HierarchyParts, hierarchy_parts}
use Rattle.hierarchy_network.specs.Step.{MakesHierarchyStep}
use Rattle.hierarchy_network.proofs.Keeping.{plainly-kept, keeps}
use Rattle.hierarchy_network.proofs.Receptions.{taken-made, taken-kept, taken-net, taken-semantics, taken-links, taken-all, taken-numbers, taken-installed}
use Rattle.hierarchy_network.proofs.server.HierarchyCore.receive_load.Goals as goal

pub returns-in-Err-clause-exhausted : goal.returns-in-Err-clause-exhausted
returns-in-Err-clause-exhausted c = λ s. exhausted-of c.in-Err.fault s (c.in-Err.ensures.exhausted s)

pub act-requires-clause-from : goal.act-requires-clause-from
act-requires-clause-from c = c.self.invariant.linked c.args.from (subst (λ (z : HierarchyParts). Has c.args.from z.core.control.links) (sym c.self.view_is) c.requires.from)

pub act-requires-clause-load : goal.act-requires-clause-load
act-requires-clause-load c = subst (λ (z : HierarchyParts). IsLoad z.core.net c.args.load.now) (sym c.self.view_is) c.requires.load

pub act-requires-clause-routed : goal.act-requires-clause-routed
act-requires-clause-routed c =
    let route = subst (λ (z : HierarchyParts). RoutesMessage z.core (represented z.core.net c.args.load.now) c.args.route.now) (sym c.self.view_is) c.requires.route in
    let core = core_parts c.self.inside.server c.self.inside.ledger (map bare c.self.inside.clients.sessions) c.self.inside.clock in
    routed-message core (represented core.net c.args.load.now) c.args.route.now route

pub invariant_of-self-2 : goal.invariant_of-self-2
invariant_of-self-2 c =
    let server = c.self.inside.server in
    let clock = c.self.inside.clock in
    let master = c.self.inside.master in
    let old = c.self.inside.ledger in
    let new = c.act.new.ledger in
    let before = c.self.inside.clients.sessions in
    let after = c.act.new.clients.sessions in
    let inv = c.self.invariant in
    let m = represented old.net c.args.load.now in
    let acted = c.in_ok-sent.ensures.acted in
    let kept = plainly-kept server clock old before c.self.inside.ledger.interfaces c.self.inside.clients.net inv in
    let low = inv.kept.links_small c.args.from (subst (λ (z : HierarchyParts). Has c.args.from z.core.control.links) (sym c.self.view_is) c.requires.from) in
    keeps server clock c.in-Ok.stamp old new before after c.self.inside.clients.net c.act.new.clients.net inv
    (taken-kept server clock c.in-Ok.stamp master c.args.from old new before after c.args.route.now c.in_ok-sent.sent.items kept m acted low c.in-Ok.ensures.ok.1)
    (taken-all server clock c.in-Ok.stamp master c.args.from old new before after c.args.route.now c.in_ok-sent.sent.items kept m acted inv.sessions)
    c.in_ok-sent.ensures.interfaces (taken-net server clock c.in-Ok.stamp master c.args.from old new before after c.args.route.now c.in_ok-sent.sent.items kept m acted) c.in_ok-sent.ensures.net
    (taken-semantics server clock c.in-Ok.stamp master c.args.from old new before after c.args.route.now c.in_ok-sent.sent.items kept m acted)
    (taken-links server clock c.in-Ok.stamp master c.args.from old new before after c.args.route.now c.in_ok-sent.sent.items kept m acted)
    (taken-numbers server clock c.in-Ok.stamp master c.args.from old new before after c.args.route.now c.in_ok-sent.sent.items kept m acted)

pub returns-clause-step : goal.returns-clause-step
returns-clause-step c =
    let server = c.self.inside.server in
    let clock = c.self.inside.clock in
    let master = c.self.inside.master in
    let old = c.self.inside.ledger in
    let new = c.act.new.ledger in
    let before = c.self.inside.clients.sessions in
    let after = c.act.new.clients.sessions in
    let m = represented old.net c.args.load.now in
    let kept = plainly-kept server clock old before c.self.inside.ledger.interfaces c.self.inside.clients.net c.self.invariant in
    let load : IsLoad old.net c.args.load.now = subst (λ (z : HierarchyParts). IsLoad z.core.net c.args.load.now) (sym c.self.view_is) c.requires.load in
    let from = subst (λ (z : HierarchyParts). Has c.args.from z.core.control.links) (sym c.self.view_is) c.requires.from in
    let route = subst (λ (z : HierarchyParts). RoutesMessage z.core (represented z.core.net c.args.load.now) c.args.route.now) (sym c.self.view_is) c.requires.route in
    let stamp : c.in-Ok.stamp ≡ suc (max clock c.args.stamp) = next-is c.in-Ok.stamp (max clock c.args.stamp) (subst (λ (z : HierarchyParts). c.in-Ok.stamp ≡ 1 + max z.core.clock c.args.stamp) (sym c.self.view_is) c.in-Ok.ensures.ok.0) in
    subst (λ (z : HierarchyParts). MakesHierarchyStep (Receives c.args.from (represented z.core.net c.args.load.now)) c.args.stamp z (hierarchy_parts (core_parts server new (map bare after) c.in-Ok.stamp) master) c.in-Ok.stamp c.in_ok-sent.sent.items) c.self.view_is
    (taken-made server clock c.in-Ok.stamp master c.args.from old new before after c.args.route.now c.in_ok-sent.sent.items kept m c.args.stamp c.in_ok-sent.ensures.acted
    (adds-rise old.net c.args.load.now load) from route stamp)

pub returns-clause-installed : goal.returns-clause-installed
returns-clause-installed c =
    let server = c.self.inside.server in
    let clock = c.self.inside.clock in
    let old = c.self.inside.ledger in
    let new = c.act.new.ledger in
    let before = c.self.inside.clients.sessions in
    let kept = plainly-kept server clock old before c.self.inside.ledger.interfaces c.self.inside.clients.net c.self.invariant in
    subst (λ (z : HierarchyParts). new.installed ≡ z.core.installed) c.self.view_is
    (taken-installed server clock c.in-Ok.stamp c.self.inside.master c.args.from old new before c.act.new.clients.sessions c.args.route.now c.in_ok-sent.sent.items kept (represented old.net c.args.load.now) c.in_ok-sent.ensures.acted)
