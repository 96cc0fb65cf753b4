use Rattle.std.proofs.Common.{◌<◌, sym, subst, IfOk, ◌≡◌, length, ap, ◌∙◌}
use Rattle.server_core.specs.Core.{CoreParts}
use Rattle.server_core.specs.Step.{last_stamp}
use Rattle.sequential_network.specs.Stepping.{IsSome, peers, GoesOn}
use Rattle.sequential_network.specs.Links.{StampedMessageParts}
use Rattle.sequential_network.proofs.Placed.{not_exhausted_reception, placed_after_reception}
use Rattle.sequential_network.proofs.Sent.{handed, sends}
use Rattle.law_machine.specs.Machine.{Receives}
use Rattle.net_model.specs.Parts.{NetParts}
use Rattle.net_tables.specs.Known.{known_filters}
use Rattle.server_message.specs.Message.{represented}
use Rattle.server_core.specs.Routed.{RoutesMessage}
use Rattle.sequential_network.proofs.forwarding_server.ForwardingServerServer.take.Goals as goal

pub unexhausted-requires : goal.unexhausted-requires
unexhausted-requires c =
    not_exhausted_reception c.receive_message.result c.self.inside.core.clock c.waiting.inside.stamp
    (subst (λ (z : CoreParts). z.clock < last_stamp) (sym c.self.view_is) c.requires.low.0, subst (λ (z : StampedMessageParts). z.stamp < last_stamp) (sym c.waiting.view_is) c.requires.low.1)
    c.receive_message.ensures.exhausted

pub invariant_of-self : goal.invariant_of-self
invariant_of-self c =
    placed_after_reception c.self.inside.core c.receive_message.new.self c.self.inside.forwarding c.args.from c.waiting.inside.message.message c.waiting.inside.stamp
    (subst (IsSome peers) (sym c.self.view_is) c.requires.stands) c.receive_message.result (λ s. s.stamp) (λ s. s.sent.items) c.receive_message.ensures.step c.receive_message.ensures.interfaces
    c.receive_message.ensures.err c.self.invariant

pub returns-clause-sends : goal.returns-clause-sends
returns-clause-sends c =
    subst (λ (z : CoreParts). IfOk c.unexhausted.result (λ s. GoesOn z.control.links s.stamp s.sent.items)) c.self.view_is
    (sends c.self.inside.core (subst (IsSome peers) (sym c.self.view_is) c.requires.stands) (subst (λ (z : CoreParts). z.clock < last_stamp) (sym c.self.view_is) c.requires.low.0) (Receives c.args.from c.waiting.inside.message.message) c.waiting.inside.stamp (subst (λ (z : StampedMessageParts). z.stamp < last_stamp) (sym c.waiting.view_is) c.requires.low.1)
    c.receive_message.new.self c.unexhausted.result (λ s. s.stamp) (λ s. s.sent.items) (handed _ c.receive_message.result c.unexhausted.result c.receive_message.ensures.step c.unexhausted.ensures.ok))

pub route-requires-clause-wide : goal.route-requires-clause-wide
route-requires-clause-wide c = subst (λ (n : NetParts). c.self.inside.forwarding.width ≡ length (known_filters n.clients)) (sym c.tables-tables.ensures) c.self.invariant.width

pub receive_message-requires-clause-route : goal.receive_message-requires-clause-route
receive_message-requires-clause-route c =
    let core = c.self.inside.core in
    let load = c.load-load.result.now in
    let net-same = ap (λ (z : StampedMessageParts). z.sent.net) c.waiting.view_is ∙ (c.requires.run ∙ (sym (ap (λ (z : CoreParts). z.net) c.self.view_is) ∙ sym c.tables-tables.ensures)) in
    let routes : RoutesMessage core (represented c.tables-tables.result.now load) c.in_ok-route.route = c.in_ok-route.ensures core (sym c.tables-tables.ensures) c.self.invariant in
    subst (RoutesMessage core c.waiting.inside.message.message) (sym c.interfaces.ensures)
    (subst (λ m. RoutesMessage core m c.in_ok-route.route) (sym c.load-load.ensures.represents) (subst (λ (n : NetParts). RoutesMessage core (represented n load) c.in_ok-route.route) (sym net-same) routes))
