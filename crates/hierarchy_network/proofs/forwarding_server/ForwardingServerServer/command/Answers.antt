use Rattle.std.proofs.Common.{◌<◌, sym, subst, IfOk, arith}
use Rattle.law_machine.specs.Machine.{Does}
use Rattle.law_routing.specs.Step.{NextCommand}
use Rattle.hierarchy_network.specs.Core.{HierarchyParts}
use Rattle.server_core.specs.Step.{last_stamp}
use Rattle.sequential_network.proofs.Placed.{not_exhausted}
use Rattle.hierarchy_network.proofs.Placed.{placed_after}
use Rattle.sequential_network.specs.Stepping.{IsSome, GoesOn}
use Rattle.hierarchy_network.specs.Stepping.{hierarchy}
use Rattle.sequential_network.proofs.Sent.{handed}
use Rattle.hierarchy_network.proofs.Sent.{sends}
use Rattle.hierarchy_network.proofs.forwarding_server.ForwardingServerServer.command.Goals as goal

pub unexhausted-requires : goal.unexhausted-requires
unexhausted-requires c = not_exhausted c.take_command.result c.self.inside.core.core.clock (subst (λ (z : HierarchyParts). z.core.clock < last_stamp) (sym c.self.view_is) c.requires.low) c.take_command.ensures.exhausted

pub invariant_of-self : goal.invariant_of-self
invariant_of-self c =
    placed_after c.self.inside.core c.take_command.new.self c.self.inside.forwarding (Does (NextCommand c.args.client)) 0 c.take_command.result
    (λ s. s.stamp) (λ s. s.sent.items) c.take_command.ensures.step c.take_command.ensures.interfaces c.take_command.ensures.installed c.take_command.ensures.err c.self.invariant

pub returns-in-Some-clause-sends : goal.returns-in-Some-clause-sends
returns-in-Some-clause-sends c =
    sends c.args.self.now c.requires.stands c.requires.low (Does (NextCommand c.args.client)) 0 (omega arith) c.publish.new.self c.publish.result (λ s. s.stamp) (λ s. s.sent.items) c.publish.ensures.step

pub returns-in-None-clause-sends : goal.returns-in-None-clause-sends
returns-in-None-clause-sends c =
    subst (λ (z : HierarchyParts). IfOk c.unexhausted.result (λ s. GoesOn z.core.control.links s.stamp s.sent.items)) c.self.view_is
    (sends c.self.inside.core (subst (IsSome hierarchy) (sym c.self.view_is) c.requires.stands) (subst (λ (z : HierarchyParts). z.core.clock < last_stamp) (sym c.self.view_is) c.requires.low) (Does (NextCommand c.args.client)) 0 (omega arith)
    c.take_command.new.self c.unexhausted.result (λ s. s.stamp) (λ s. s.sent.items) (handed _ c.take_command.result c.unexhausted.result c.take_command.ensures.step c.unexhausted.ensures.ok))
