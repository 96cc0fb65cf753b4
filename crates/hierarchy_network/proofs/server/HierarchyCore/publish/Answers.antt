use Rattle.std.proofs.Common.{◌≡◌, ◌+◌, suc, max, [], map, sym, ap, subst, ◌∙◌}
use Rattle.law_machine.specs.Machine.{Does}
use Rattle.law_routing.specs.Step.{TableUpdate}
use Rattle.base.specs.Sets.{Has}
use Rattle.server_spec.specs.Control.{Controlled}
use Rattle.net_model.specs.Parts.{NetParts}
use Rattle.server_core.specs.Clients.{bare, client_numbers}
use Rattle.server_core.specs.Core.{core_parts}
use Rattle.server_core.specs.Linked.{interfaces_on}
use Rattle.server_core.proofs.Stamps.{max-none, next-is}
use Rattle.hierarchy_network.specs.Core.{HierarchyParts, hierarchy_parts}
use Rattle.hierarchy_network.specs.Step.{MakesHierarchyStep}
use Rattle.hierarchy_network.proofs.Versions.{update_table-up, update_table-up-kept}
use Rattle.hierarchy_network.proofs.server.HierarchyCore.publish.Goals as goal

pub returns-in-Err-clause-exhausted : goal.returns-in-Err-clause-exhausted
returns-in-Err-clause-exhausted c = λ s.
    let told = c.in-Err.ensures.exhausted s in
    (λ e. let r = told.0 e in (sym (max-none c.args.self.now.core.clock) ∙ r.0, r.1), λ r. told.1 (max-none c.args.self.now.core.clock ∙ r.0, r.1))

pub invariant_of-self : goal.invariant_of-self
invariant_of-self c =
    let e = c.publish.ensures in
    let i = c.self.invariant in
    record {
      kept = update_table-up-kept c.self.inside.server c.self.inside.clock c.in-Ok.stamp c.self.inside.ledger c.publish.new.self c.self.inside.clients.sessions e.net e.control e.installed e.pending i.kept c.in-Ok.ensures.ok.1;
      plainly = ap (λ (z : Controlled). z.semantics) e.control ∙ i.plainly;
      sessions = λ s h. i.sessions s h ∙ ap (λ (z : NetParts). z.semantics) (sym e.net);
      of_net = i.of_net ∙ sym e.net;
      whole = e.interfaces ∙ (i.whole ∙ ap (λ (z : Controlled). interfaces_on z.links (client_numbers (map bare c.self.inside.clients.sessions))) (sym e.control));
      linked = λ l h. subst (Has l) (sym e.interfaces) (i.linked l (subst (λ (z : Controlled). Has l z.links) e.control h));
      reached = λ s h. subst (Has (64 + s.client)) (sym e.interfaces) (i.reached s h);
    }

pub returns-clause-step : goal.returns-clause-step
returns-clause-step c =
    let e = c.publish.ensures in
    let some = subst (λ (z : HierarchyParts). z.core.pending ≡ [] → ⊥) (sym c.self.view_is) c.requires in
    let stamp : c.in-Ok.stamp ≡ suc (max c.self.inside.clock 0) = next-is c.in-Ok.stamp (max c.self.inside.clock 0) (subst (λ (z : HierarchyParts). c.in-Ok.stamp ≡ 1 + max z.core.clock 0) (sym c.self.view_is) c.in-Ok.ensures.ok.0) in
    subst (λ z. MakesHierarchyStep (Does TableUpdate) 0 z (hierarchy_parts (core_parts c.self.inside.server c.publish.new.self (map bare c.self.inside.clients.sessions) c.in-Ok.stamp) c.self.inside.master) c.in-Ok.stamp []) c.self.view_is
    (update_table-up c.self.inside.server c.self.inside.clock c.in-Ok.stamp c.self.inside.master c.self.inside.ledger c.publish.new.self c.self.inside.clients.sessions e.net e.control e.installed e.pending some stamp)
