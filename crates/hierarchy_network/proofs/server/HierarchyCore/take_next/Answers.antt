use Rattle.std.proofs.Common.{◌≡◌, ◌+◌, ◌<◌, suc, max, length, map, sym, ap, subst, ◌∙◌, arith}
use Rattle.law_machine.specs.Machine.{Does}
use Rattle.law_routing.specs.Step.{NextCommand}
use Rattle.base.specs.Sets.{Has}
use Rattle.net_model.specs.Parts.{NetParts}
use Rattle.server_spec.specs.Session.{SessionParts}
use Rattle.server_session.specs.Session.{PlansNext}
use Rattle.server_core.specs.Clients.{ClientsParts, bare, client_numbers, at_client, stepped}
use Rattle.server_core.specs.Core.{core_parts}
use Rattle.server_core.specs.Kept.{IsCore}
use Rattle.server_core.specs.Next.{GoesOut}
use Rattle.server_core.proofs.Commands.{bare-stepped, numbers-stepped, numbers-bare}
use Rattle.server_core.proofs.Keeping.{plans-later}
use Rattle.server_core.proofs.Stamps.{next-is, exhausted-of, exhausted-none}
use Rattle.hierarchy_network.specs.Core.{HierarchyParts, hierarchy_parts}
use Rattle.hierarchy_network.specs.Step.{MakesHierarchyStep}
use Rattle.hierarchy_network.specs.CoreKept.{plain}
use Rattle.hierarchy_network.proofs.Keeping.{keeps, mid-kept, mid-rises}
use Rattle.hierarchy_network.proofs.Nexts.{IsMade, can-go, gone-made}
use Rattle.hierarchy_network.proofs.Plain.{AllOf, all-stepped}
use Rattle.hierarchy_network.proofs.server.HierarchyCore.take_next.Goals as goal
use Rattle.base.proofs.Sets.{map-has, has-map}
use Rattle.base.proofs.Results.{on-err}

pub returns-in-Err-clause-exhausted : goal.returns-in-Err-clause-exhausted
returns-in-Err-clause-exhausted c = λ s. exhausted-of c.in-Err.fault s (exhausted-none c.args.self.now.core.clock s c.in-Err.fault (c.in-Err.ensures.exhausted s))

pub plan-requires-clause-lives : goal.plan-requires-clause-lives
plan-requires-clause-lives c = subst (Has c.args.client) (numbers-bare c.self.inside.clients.sessions) (subst (λ (z : HierarchyParts). Has c.args.client (client_numbers z.core.clients)) (sym c.self.view_is) c.requires.lives)

pub plan-requires-clause-left : goal.plan-requires-clause-left
plan-requires-clause-left c = λ s m e. subst (λ (z : HierarchyParts). (s : SessionParts) → Has s z.core.clients → s.client ≡ c.args.client → s.taken < length s.script) (sym c.self.view_is) c.requires.left (bare s) (map-has bare c.self.inside.clients.sessions s m) e

pub interface_of-requires : goal.interface_of-requires
interface_of-requires c =
    let lives = subst (λ (z : HierarchyParts). Has c.args.client (client_numbers z.core.clients)) (sym c.self.view_is) c.requires.lives in
    let r = has-map (λ (s : SessionParts). s.client) (map bare c.self.inside.clients.sessions) c.args.client lives in
    let high = (c.self.invariant.kept.ids (plain r.0) (map-has plain (map bare c.self.inside.clients.sessions) r.0 r.1)).1 in
    let same = r.2 in
    omega (arith, high, same)

pub act_next-requires-clause-from : goal.act_next-requires-clause-from
act_next-requires-clause-from c =
    let lives = subst (λ (z : HierarchyParts). Has c.args.client (client_numbers z.core.clients)) (sym c.self.view_is) c.requires.lives in
    let r = has-map (λ (s : SessionParts). s.client) (map bare c.self.inside.clients.sessions) c.args.client lives in
    subst (λ z. Has z c.self.inside.ledger.interfaces) (sym c.interface_of.ensures) (subst (λ z. Has (64 + z) c.self.inside.ledger.interfaces) (sym r.2) (c.self.invariant.reached r.0 r.1))

pub act_next-requires-clause-can : goal.act_next-requires-clause-can
act_next-requires-clause-can c =
    let server = c.self.inside.server in
    let clock = c.self.inside.clock in
    let master = c.self.inside.master in
    let old = c.self.inside.ledger in
    let before = c.self.inside.clients.sessions in
    let mid = c.plan.new.self.sessions in
    let inv = c.self.invariant in
    let plan = c.in_ok-plan.plan in
    let same : map bare mid ≡ map bare before = c.in_ok-plan.ensures.bare in
    let kept = mid-kept server clock old before mid old.interfaces c.self.inside.clients.net inv same in
    let all-of : AllOf old.net.semantics (map bare mid) = subst (AllOf old.net.semantics) (sym same) inv.sessions in
    let lives : Has c.args.client (client_numbers (map bare mid)) = subst (λ z. Has c.args.client (client_numbers z)) (sym same) (subst (λ (z : HierarchyParts). Has c.args.client (client_numbers z.core.clients)) (sym c.self.view_is) c.requires.lives) in
    let some-left : (s : SessionParts) → Has s (map bare mid) → s.client ≡ c.args.client → s.taken < length s.script =
    subst (λ z. (s : SessionParts) → Has s z → s.client ≡ c.args.client → s.taken < length s.script) (sym same)
    (subst (λ (z : HierarchyParts). (s : SessionParts) → Has s z.core.clients → s.client ≡ c.args.client → s.taken < length s.script) (sym c.self.view_is) c.requires.left) in
    let rises = mid-rises before mid same c.lemma_sorted.ensures in
    let plans-are : (s : SessionParts) → Has s mid → s.client ≡ c.args.client → PlansNext old.net s plan =
    plans-later old.net c.args.client plan before mid same (subst (λ (z : NetParts). (s : SessionParts) → Has s before → s.client ≡ c.args.client → PlansNext z s plan) inv.of_net c.in_ok-plan.ensures.plan) in
    let goes = subst (λ (z : HierarchyParts). GoesOut z.core c.args.client c.args.outgoing) (sym c.self.view_is) c.requires.goes in
    can-go server clock c.in-Ok.stamp c.args.client master old before mid kept inv.plainly same all-of lives some-left rises plan plans-are c.args.outgoing goes

pub returns-in_err-sent-clause-err : goal.returns-in_err-sent-clause-err
returns-in_err-sent-clause-err c =
    on-err _ (ap (λ z. hierarchy_parts (core_parts c.self.inside.server z (map bare c.act_next.new.clients.sessions) c.self.inside.clock) c.self.inside.master) c.in_err-sent.ensures.err.0
    ∙ ap (λ z. hierarchy_parts (core_parts c.self.inside.server c.self.inside.ledger z c.self.inside.clock) c.self.inside.master) (c.in_err-sent.ensures.err.1 ∙ c.in_ok-plan.ensures.bare) ∙ c.self.view_is)

pub commit-requires-clause-planned : goal.commit-requires-clause-planned
commit-requires-clause-planned c = λ s m e. let r = c.in_ok-sent.ensures.planned s m in sym r.3 ∙ c.in_ok-plan.ensures.planned r.0 r.1 (r.2 ∙ e)

pub commit-requires-clause-plan : goal.commit-requires-clause-plan
commit-requires-clause-plan c =
    let server = c.self.inside.server in
    let clock = c.self.inside.clock in
    let master = c.self.inside.master in
    let old = c.self.inside.ledger in
    let before = c.self.inside.clients.sessions in
    let mid = c.plan.new.self.sessions in
    let inv = c.self.invariant in
    let plan = c.in_ok-plan.plan in
    let same : map bare mid ≡ map bare before = c.in_ok-plan.ensures.bare in
    let kept = mid-kept server clock old before mid old.interfaces c.self.inside.clients.net inv same in
    let all-of : AllOf old.net.semantics (map bare mid) = subst (AllOf old.net.semantics) (sym same) inv.sessions in
    let lives : Has c.args.client (client_numbers (map bare mid)) = subst (λ z. Has c.args.client (client_numbers z)) (sym same) (subst (λ (z : HierarchyParts). Has c.args.client (client_numbers z.core.clients)) (sym c.self.view_is) c.requires.lives) in
    let some-left : (s : SessionParts) → Has s (map bare mid) → s.client ≡ c.args.client → s.taken < length s.script =
    subst (λ z. (s : SessionParts) → Has s z → s.client ≡ c.args.client → s.taken < length s.script) (sym same)
    (subst (λ (z : HierarchyParts). (s : SessionParts) → Has s z.core.clients → s.client ≡ c.args.client → s.taken < length s.script) (sym c.self.view_is) c.requires.left) in
    let rises = mid-rises before mid same c.lemma_sorted.ensures in
    let plans-are : (s : SessionParts) → Has s mid → s.client ≡ c.args.client → PlansNext old.net s plan =
    plans-later old.net c.args.client plan before mid same (subst (λ (z : NetParts). (s : SessionParts) → Has s before → s.client ≡ c.args.client → PlansNext z s plan) inv.of_net c.in_ok-plan.ensures.plan) in
    let goes = subst (λ (z : HierarchyParts). GoesOut z.core c.args.client c.args.outgoing) (sym c.self.view_is) c.requires.goes in
    let new = c.act_next.new.ledger in
    let after = c.act_next.new.clients.sessions in
    let sent = c.in_ok-sent.sent.items in
    let stamp : c.in-Ok.stamp ≡ suc (max clock 0) = next-is c.in-Ok.stamp (max clock 0) (subst (λ (z : HierarchyParts). c.in-Ok.stamp ≡ 1 + max z.core.clock 0) (sym c.self.view_is) c.in-Ok.ensures.ok.0) in
    let m : IsMade server clock c.in-Ok.stamp c.args.client master old before mid kept inv.plainly same all-of lives some-left rises plan plans-are new after sent =
    gone-made server clock c.in-Ok.stamp c.args.client master old before mid kept inv.plainly same all-of lives some-left rises plan plans-are new after sent stamp c.in-Ok.ensures.ok.1 c.args.outgoing goes (rw c.interface_of.ensures at c.in_ok-sent.ensures.gone) in
    subst (λ (z : NetParts). (s : SessionParts) → Has s after → s.client ≡ c.args.client → PlansNext z s plan) (sym (c.in_ok-sent.ensures.net ∙ (c.in_ok-plan.ensures.net ∙ inv.of_net))) m.plans-then

pub invariant_of-self-2 : goal.invariant_of-self-2
invariant_of-self-2 c =
    let server = c.self.inside.server in
    let clock = c.self.inside.clock in
    let master = c.self.inside.master in
    let old = c.self.inside.ledger in
    let before = c.self.inside.clients.sessions in
    let mid = c.plan.new.self.sessions in
    let inv = c.self.invariant in
    let plan = c.in_ok-plan.plan in
    let same : map bare mid ≡ map bare before = c.in_ok-plan.ensures.bare in
    let kept = mid-kept server clock old before mid old.interfaces c.self.inside.clients.net inv same in
    let all-of : AllOf old.net.semantics (map bare mid) = subst (AllOf old.net.semantics) (sym same) inv.sessions in
    let lives : Has c.args.client (client_numbers (map bare mid)) = subst (λ z. Has c.args.client (client_numbers z)) (sym same) (subst (λ (z : HierarchyParts). Has c.args.client (client_numbers z.core.clients)) (sym c.self.view_is) c.requires.lives) in
    let some-left : (s : SessionParts) → Has s (map bare mid) → s.client ≡ c.args.client → s.taken < length s.script =
    subst (λ z. (s : SessionParts) → Has s z → s.client ≡ c.args.client → s.taken < length s.script) (sym same)
    (subst (λ (z : HierarchyParts). (s : SessionParts) → Has s z.core.clients → s.client ≡ c.args.client → s.taken < length s.script) (sym c.self.view_is) c.requires.left) in
    let rises = mid-rises before mid same c.lemma_sorted.ensures in
    let plans-are : (s : SessionParts) → Has s mid → s.client ≡ c.args.client → PlansNext old.net s plan =
    plans-later old.net c.args.client plan before mid same (subst (λ (z : NetParts). (s : SessionParts) → Has s before → s.client ≡ c.args.client → PlansNext z s plan) inv.of_net c.in_ok-plan.ensures.plan) in
    let goes = subst (λ (z : HierarchyParts). GoesOut z.core c.args.client c.args.outgoing) (sym c.self.view_is) c.requires.goes in
    let new = c.act_next.new.ledger in
    let after = c.act_next.new.clients.sessions in
    let sent = c.in_ok-sent.sent.items in
    let stamp : c.in-Ok.stamp ≡ suc (max clock 0) = next-is c.in-Ok.stamp (max clock 0) (subst (λ (z : HierarchyParts). c.in-Ok.stamp ≡ 1 + max z.core.clock 0) (sym c.self.view_is) c.in-Ok.ensures.ok.0) in
    let m : IsMade server clock c.in-Ok.stamp c.args.client master old before mid kept inv.plainly same all-of lives some-left rises plan plans-are new after sent =
    gone-made server clock c.in-Ok.stamp c.args.client master old before mid kept inv.plainly same all-of lives some-left rises plan plans-are new after sent stamp c.in-Ok.ensures.ok.1 c.args.outgoing goes (rw c.interface_of.ensures at c.in_ok-sent.ensures.gone) in
    let stepped-are : c.commit.new.self.sessions ≡ at_client c.args.client stepped after = ap (λ (z : ClientsParts). z.sessions) c.commit.ensures in
    keeps server clock c.in-Ok.stamp old new before c.commit.new.self.sessions c.self.inside.clients.net c.commit.new.self.net inv
    (subst (λ z. IsCore (core_parts server new (map bare (map plain z)) c.in-Ok.stamp)) (sym stepped-are) m.kept-then)
    (subst (AllOf old.net.semantics) (sym (ap (map bare) stepped-are ∙ bare-stepped c.args.client after)) (all-stepped old.net.semantics c.args.client (map bare after) m.all-then))
    c.in_ok-sent.ensures.interfaces m.net (ap (λ (z : ClientsParts). z.net) c.commit.ensures ∙ (c.in_ok-sent.ensures.net ∙ c.in_ok-plan.ensures.net)) m.semantics m.links
    (ap (λ z. client_numbers (map bare z)) stepped-are ∙ (ap client_numbers (bare-stepped c.args.client after) ∙ (numbers-stepped c.args.client (map bare after) ∙ (m.numbers ∙ ap client_numbers same))))

pub returns-clause-step : goal.returns-clause-step
returns-clause-step c =
    let server = c.self.inside.server in
    let clock = c.self.inside.clock in
    let master = c.self.inside.master in
    let old = c.self.inside.ledger in
    let before = c.self.inside.clients.sessions in
    let mid = c.plan.new.self.sessions in
    let inv = c.self.invariant in
    let plan = c.in_ok-plan.plan in
    let same : map bare mid ≡ map bare before = c.in_ok-plan.ensures.bare in
    let kept = mid-kept server clock old before mid old.interfaces c.self.inside.clients.net inv same in
    let all-of : AllOf old.net.semantics (map bare mid) = subst (AllOf old.net.semantics) (sym same) inv.sessions in
    let lives : Has c.args.client (client_numbers (map bare mid)) = subst (λ z. Has c.args.client (client_numbers z)) (sym same) (subst (λ (z : HierarchyParts). Has c.args.client (client_numbers z.core.clients)) (sym c.self.view_is) c.requires.lives) in
    let some-left : (s : SessionParts) → Has s (map bare mid) → s.client ≡ c.args.client → s.taken < length s.script =
    subst (λ z. (s : SessionParts) → Has s z → s.client ≡ c.args.client → s.taken < length s.script) (sym same)
    (subst (λ (z : HierarchyParts). (s : SessionParts) → Has s z.core.clients → s.client ≡ c.args.client → s.taken < length s.script) (sym c.self.view_is) c.requires.left) in
    let rises = mid-rises before mid same c.lemma_sorted.ensures in
    let plans-are : (s : SessionParts) → Has s mid → s.client ≡ c.args.client → PlansNext old.net s plan =
    plans-later old.net c.args.client plan before mid same (subst (λ (z : NetParts). (s : SessionParts) → Has s before → s.client ≡ c.args.client → PlansNext z s plan) inv.of_net c.in_ok-plan.ensures.plan) in
    let goes = subst (λ (z : HierarchyParts). GoesOut z.core c.args.client c.args.outgoing) (sym c.self.view_is) c.requires.goes in
    let new = c.act_next.new.ledger in
    let after = c.act_next.new.clients.sessions in
    let sent = c.in_ok-sent.sent.items in
    let stamp : c.in-Ok.stamp ≡ suc (max clock 0) = next-is c.in-Ok.stamp (max clock 0) (subst (λ (z : HierarchyParts). c.in-Ok.stamp ≡ 1 + max z.core.clock 0) (sym c.self.view_is) c.in-Ok.ensures.ok.0) in
    let m : IsMade server clock c.in-Ok.stamp c.args.client master old before mid kept inv.plainly same all-of lives some-left rises plan plans-are new after sent =
    gone-made server clock c.in-Ok.stamp c.args.client master old before mid kept inv.plainly same all-of lives some-left rises plan plans-are new after sent stamp c.in-Ok.ensures.ok.1 c.args.outgoing goes (rw c.interface_of.ensures at c.in_ok-sent.ensures.gone) in
    let stepped-are : c.commit.new.self.sessions ≡ at_client c.args.client stepped after = ap (λ (z : ClientsParts). z.sessions) c.commit.ensures in
    let then = hierarchy_parts (core_parts server new (map bare c.commit.new.self.sessions) c.in-Ok.stamp) master in
    subst (λ z. MakesHierarchyStep (Does (NextCommand c.args.client)) 0 z then c.in-Ok.stamp sent) c.self.view_is
    (subst (λ z. MakesHierarchyStep (Does (NextCommand c.args.client)) 0 (hierarchy_parts (core_parts server old z clock) master) then c.in-Ok.stamp sent) same
    (subst (λ z. MakesHierarchyStep (Does (NextCommand c.args.client)) 0 (hierarchy_parts (core_parts server old (map bare mid) clock) master) (hierarchy_parts (core_parts server new (map bare z) c.in-Ok.stamp) master) c.in-Ok.stamp sent) (sym stepped-are)
    m.made))

pub returns-clause-installed : goal.returns-clause-installed
returns-clause-installed c =
    let server = c.self.inside.server in
    let clock = c.self.inside.clock in
    let master = c.self.inside.master in
    let old = c.self.inside.ledger in
    let before = c.self.inside.clients.sessions in
    let mid = c.plan.new.self.sessions in
    let inv = c.self.invariant in
    let plan = c.in_ok-plan.plan in
    let same : map bare mid ≡ map bare before = c.in_ok-plan.ensures.bare in
    let kept = mid-kept server clock old before mid old.interfaces c.self.inside.clients.net inv same in
    let all-of : AllOf old.net.semantics (map bare mid) = subst (AllOf old.net.semantics) (sym same) inv.sessions in
    let lives : Has c.args.client (client_numbers (map bare mid)) = subst (λ z. Has c.args.client (client_numbers z)) (sym same) (subst (λ (z : HierarchyParts). Has c.args.client (client_numbers z.core.clients)) (sym c.self.view_is) c.requires.lives) in
    let some-left : (s : SessionParts) → Has s (map bare mid) → s.client ≡ c.args.client → s.taken < length s.script =
    subst (λ z. (s : SessionParts) → Has s z → s.client ≡ c.args.client → s.taken < length s.script) (sym same)
    (subst (λ (z : HierarchyParts). (s : SessionParts) → Has s z.core.clients → s.client ≡ c.args.client → s.taken < length s.script) (sym c.self.view_is) c.requires.left) in
    let rises = mid-rises before mid same c.lemma_sorted.ensures in
    let plans-are : (s : SessionParts) → Has s mid → s.client ≡ c.args.client → PlansNext old.net s plan =
    plans-later old.net c.args.client plan before mid same (subst (λ (z : NetParts). (s : SessionParts) → Has s before → s.client ≡ c.args.client → PlansNext z s plan) inv.of_net c.in_ok-plan.ensures.plan) in
    let goes = subst (λ (z : HierarchyParts). GoesOut z.core c.args.client c.args.outgoing) (sym c.self.view_is) c.requires.goes in
    let new = c.act_next.new.ledger in
    let after = c.act_next.new.clients.sessions in
    let sent = c.in_ok-sent.sent.items in
    let stamp : c.in-Ok.stamp ≡ suc (max clock 0) = next-is c.in-Ok.stamp (max clock 0) (subst (λ (z : HierarchyParts). c.in-Ok.stamp ≡ 1 + max z.core.clock 0) (sym c.self.view_is) c.in-Ok.ensures.ok.0) in
    let m : IsMade server clock c.in-Ok.stamp c.args.client master old before mid kept inv.plainly same all-of lives some-left rises plan plans-are new after sent =
    gone-made server clock c.in-Ok.stamp c.args.client master old before mid kept inv.plainly same all-of lives some-left rises plan plans-are new after sent stamp c.in-Ok.ensures.ok.1 c.args.outgoing goes (rw c.interface_of.ensures at c.in_ok-sent.ensures.gone) in
    subst (λ (z : HierarchyParts). new.installed ≡ z.core.installed) c.self.view_is m.installed
