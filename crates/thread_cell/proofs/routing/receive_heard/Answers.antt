use Rattle.std.proofs.Common.{Bor, IfOk, IfSome, sym, subst, ◌∙◌, arith}
use Rattle.law_machine.specs.Machine.{Receives}
use Rattle.net_model.specs.Parts.{NetParts}
use Rattle.match_routes.specs.declared.route.Route.{Route}
use Rattle.server_message.specs.Message.{IsLoad}
use Rattle.server_core.specs.Routed.{RoutesMessage}
use Rattle.server_core.specs.Step.{MakesStep}
use Rattle.thread_cell.proofs.Heard.{heard-of, heard-other}
use Rattle.thread_cell.proofs.routing.receive_heard.Goals as goal

pub receive_load-requires-clause-known : goal.receive_load-requires-clause-known
receive_load-requires-clause-known c =
    let is = subst (λ (n : NetParts). IsLoad n c.args.load.now) c.tables.ensures (c.is_of.ensures.0 c.if-is_of.true) in
    subst (λ m. IfSome c.args.known (λ (r : Bor Route). RoutesMessage c.args.core.now m r.now)) (heard-of c.args.core.now.net c.args.load.now is) c.requires.known

pub returns-then-is_of-clause-step : goal.returns-then-is_of-clause-step
returns-then-is_of-clause-step c =
    let is = subst (λ (n : NetParts). IsLoad n c.args.load.now) c.tables.ensures (c.is_of.ensures.0 c.if-is_of.true) in
    subst (λ m. IfOk c.receive_load.result (λ s. MakesStep (Receives c.args.from m) c.args.stamp c.args.core.now c.receive_load.new.core s.stamp s.sent.items))
    (sym (heard-of c.args.core.now.net c.args.load.now is)) c.receive_load.ensures.step

pub receive_load-requires-2-clause-load : goal.receive_load-requires-2-clause-load
receive_load-requires-2-clause-load c = c.in_ok-nothing.ensures.load c.args.core.now.net

pub returns-clause-step : goal.returns-clause-step
returns-clause-step c =
    let is = heard-other c.args.core.now.net c.args.load.now (λ h. let t = c.is_of.ensures.1 (subst (λ (n : NetParts). IsLoad n c.args.load.now) (sym c.tables.ensures) h) in let f = c.if-is_of.false in absurd (grind (arith, t, f))) in
    subst (λ m. IfOk c.receive_load-2.result (λ s. MakesStep (Receives c.args.from m) c.args.stamp c.args.core.now c.receive_load-2.new.core s.stamp s.sent.items))
    (c.in_ok-nothing.ensures.none c.args.core.now.net ∙ sym is) c.receive_load-2.ensures.step
