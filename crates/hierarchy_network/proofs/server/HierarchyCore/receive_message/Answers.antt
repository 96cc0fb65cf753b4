use Rattle.std.proofs.Common.{◌≡◌, IfOk, sym, ap, subst, ◌∙◌}
use Rattle.law_machine.specs.Machine.{Receives}
use Rattle.net_model.specs.Parts.{NetParts}
use Rattle.server_message.specs.Message.{IsLoad, represented}
use Rattle.server_core.specs.Routed.{RoutesMessage}
use Rattle.hierarchy_network.specs.Step.{MakesHierarchyStep}
use Rattle.hierarchy_network.proofs.server.HierarchyCore.receive_message.Goals as goal

pub receive_load-requires-clause-load : goal.receive_load-requires-clause-load
receive_load-requires-clause-load c = subst (λ (n : NetParts). IsLoad n c.load.result.now) c.requires.net c.load.ensures.load

pub receive_load-requires-clause-route : goal.receive_load-requires-clause-route
receive_load-requires-clause-route c =
    let is : c.args.message.now.message ≡ represented c.args.self.now.core.net c.load.result.now = c.load.ensures.represents ∙ ap (λ (n : NetParts). represented n c.load.result.now) c.requires.net in
    subst (λ m. RoutesMessage c.args.self.now.core m c.args.route.now) is c.requires.route

pub returns-clause-step : goal.returns-clause-step
returns-clause-step c =
    let is : c.args.message.now.message ≡ represented c.args.self.now.core.net c.load.result.now = c.load.ensures.represents ∙ ap (λ (n : NetParts). represented n c.load.result.now) c.requires.net in
    subst (λ m. IfOk c.receive_load.result (λ s. MakesHierarchyStep (Receives c.args.from m) c.args.stamp c.args.self.now c.receive_load.new.self s.stamp s.sent.items)) (sym is) c.receive_load.ensures.step
