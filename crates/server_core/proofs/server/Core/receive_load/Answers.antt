use Rattle.std.proofs.Common.{◌≡◌, ◌+◌, suc, max, map, sym, subst}
use Rattle.base.specs.Sets.{Has}
use Rattle.server_core.specs.Clients.{bare}
use Rattle.server_core.specs.Core.{CoreParts, core_parts}
use Rattle.server_core.specs.Step.{MakesStep}
use Rattle.server_core.proofs.Stamps.{next-is, exhausted-of}
use Rattle.law_machine.specs.Machine.{Receives}
use Rattle.server_core.specs.Routed.{RoutesMessage}
use Rattle.server_message.specs.Message.{IsLoad, represented}
use Rattle.server_core.proofs.Made.{message-made, message-kept, routed-message}
use Rattle.server_core.proofs.Keeping.{keeps, acted-net, acted-links, acted-semantics, adds-rise, numbers-left}
use Rattle.server_core.proofs.server.Core.receive_load.Goals as goal

pub returns-in-Err-clause-exhausted : goal.returns-in-Err-clause-exhausted
returns-in-Err-clause-exhausted c = λ s. exhausted-of c.in-Err.fault s (c.in-Err.ensures.exhausted s)

pub act-requires-clause-from : goal.act-requires-clause-from
act-requires-clause-from c = c.self.invariant.linked c.args.from (subst (λ (z : CoreParts). Has c.args.from z.control.links) (sym c.self.view_is) c.requires.from)

pub act-requires-clause-semantics : goal.act-requires-clause-semantics
act-requires-clause-semantics c = c.self.invariant.of_semantics

pub act-requires-clause-load : goal.act-requires-clause-load
act-requires-clause-load c = subst (λ (z : CoreParts). IsLoad z.net c.args.load.now) (sym c.self.view_is) c.requires.load

pub act-requires-clause-routed : goal.act-requires-clause-routed
act-requires-clause-routed c =
    let route = subst (λ (z : CoreParts). RoutesMessage z (represented z.net c.args.load.now) c.args.route.now) (sym c.self.view_is) c.requires.route in
    let core = core_parts c.self.inside.server c.self.inside.ledger (map bare c.self.inside.clients.sessions) c.self.inside.clock in
    routed-message core (represented core.net c.args.load.now) c.args.route.now route

pub invariant_of-self-2 : goal.invariant_of-self-2
invariant_of-self-2 c =
    let server = c.self.inside.server in
    let clock = c.self.inside.clock in
    let old = c.self.inside.ledger in
    let new = c.act.new.ledger in
    let before = c.self.inside.clients.sessions in
    let after = c.act.new.clients.sessions in
    let inv = c.self.invariant in
    let m = represented old.net c.args.load.now in
    let load : IsLoad old.net c.args.load.now = subst (λ (z : CoreParts). IsLoad z.net c.args.load.now) (sym c.self.view_is) c.requires.load in
    let acted = c.in_ok-sent.ensures.acted in
    let low = inv.kept.links_small c.args.from (subst (λ (z : CoreParts). Has c.args.from z.control.links) (sym c.self.view_is) c.requires.from) in
    keeps server clock c.in-Ok.stamp old new (map bare before) (map bare after) c.self.inside.clients.net c.act.new.clients.net inv
    (message-kept server clock c.in-Ok.stamp c.args.from old new before after c.args.route.now c.in_ok-sent.sent.items inv.kept m acted low c.in-Ok.ensures.ok.1)
    c.in_ok-sent.ensures.interfaces (acted-net c.args.from old new before after c.args.route.now c.in_ok-sent.sent.items m acted) c.in_ok-sent.ensures.net
    (acted-semantics c.args.from old new before after c.args.route.now c.in_ok-sent.sent.items m acted) (acted-links c.args.from old new before after c.args.route.now c.in_ok-sent.sent.items m acted) (numbers-left c.args.from old new before after c.args.route.now c.in_ok-sent.sent.items m acted)

pub returns-clause-step : goal.returns-clause-step
returns-clause-step c =
    let server = c.self.inside.server in
    let clock = c.self.inside.clock in
    let old = c.self.inside.ledger in
    let new = c.act.new.ledger in
    let before = c.self.inside.clients.sessions in
    let after = c.act.new.clients.sessions in
    let m = represented old.net c.args.load.now in
    let load : IsLoad old.net c.args.load.now = subst (λ (z : CoreParts). IsLoad z.net c.args.load.now) (sym c.self.view_is) c.requires.load in
    let from = subst (λ (z : CoreParts). Has c.args.from z.control.links) (sym c.self.view_is) c.requires.from in
    let route = subst (λ (z : CoreParts). RoutesMessage z (represented z.net c.args.load.now) c.args.route.now) (sym c.self.view_is) c.requires.route in
    let stamp : c.in-Ok.stamp ≡ suc (max clock c.args.stamp) = next-is c.in-Ok.stamp (max clock c.args.stamp) (subst (λ (z : CoreParts). c.in-Ok.stamp ≡ 1 + max z.clock c.args.stamp) (sym c.self.view_is) c.in-Ok.ensures.ok.0) in
    subst (λ (z : CoreParts). MakesStep (Receives c.args.from (represented z.net c.args.load.now)) c.args.stamp z (core_parts server new (map bare after) c.in-Ok.stamp) c.in-Ok.stamp c.in_ok-sent.sent.items) c.self.view_is
    (message-made server clock c.in-Ok.stamp c.args.from old new before after c.args.route.now c.in_ok-sent.sent.items c.self.invariant.kept m c.args.stamp c.in_ok-sent.ensures.acted
    (adds-rise old.net c.args.load.now load) from route stamp)
