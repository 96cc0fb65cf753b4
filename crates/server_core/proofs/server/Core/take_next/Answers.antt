use Rattle.std.proofs.Common.{◌≡◌, ◌+◌, ◌<◌, suc, max, length, map, sym, ap, subst, ◌∙◌, arith}
use Rattle.law_machine.specs.Machine.{Does}
use Rattle.law_routing.specs.Step.{NextCommand}
use Rattle.base.specs.Sets.{Has}
use Rattle.net_model.specs.Parts.{NetParts}
use Rattle.server_spec.specs.Session.{SessionParts}
use Rattle.server_session.specs.Session.{PlansNext}
use Rattle.server_core.specs.Clients.{ClientsParts, bare, client_numbers, at_client, stepped}
use Rattle.server_core.specs.Core.{CoreParts, core_parts}
use Rattle.server_core.specs.Kept.{IsCore}
use Rattle.server_core.specs.Next.{GoesOut}
use Rattle.server_core.specs.Step.{MakesStep}
use Rattle.server_core.proofs.Commands.{command-made, command-kept, bare-stepped, numbers-stepped, numbers-bare}
use Rattle.server_core.proofs.Plans.{kept-mid}
use Rattle.server_core.proofs.Keeping.{keeps}
use Rattle.server_core.proofs.Nexts.{IsDone, can-go, gone-done}
use Rattle.server_core.proofs.Stamps.{next-is, exhausted-of, exhausted-none}
use Rattle.server_core.proofs.server.Core.take_next.Goals as goal
use Rattle.base.proofs.Sets.{map-has, has-map}
use Rattle.base.proofs.Results.{on-err}

pub returns-in-Err-clause-exhausted : goal.returns-in-Err-clause-exhausted
returns-in-Err-clause-exhausted c = λ s. exhausted-of c.in-Err.fault s (exhausted-none c.args.self.now.clock s c.in-Err.fault (c.in-Err.ensures.exhausted s))

pub plan-requires-clause-lives : goal.plan-requires-clause-lives
plan-requires-clause-lives c = subst (Has c.args.client) (numbers-bare c.self.inside.clients.sessions) (subst (λ (z : CoreParts). Has c.args.client (client_numbers z.clients)) (sym c.self.view_is) c.requires.lives)

pub plan-requires-clause-left : goal.plan-requires-clause-left
plan-requires-clause-left c = λ s m e. subst (λ (z : CoreParts). (s : SessionParts) → Has s z.clients → s.client ≡ c.args.client → s.taken < length s.script) (sym c.self.view_is) c.requires.left (bare s) (map-has bare c.self.inside.clients.sessions s m) e

pub interface_of-requires : goal.interface_of-requires
interface_of-requires c =
    let lives = subst (λ (z : CoreParts). Has c.args.client (client_numbers z.clients)) (sym c.self.view_is) c.requires.lives in
    let r = has-map (λ (s : SessionParts). s.client) (map bare c.self.inside.clients.sessions) c.args.client lives in
    let high = (c.self.invariant.kept.ids r.0 r.1).1 in
    let same = r.2 in
    omega (arith, high, same)

pub act_next-requires-clause-from : goal.act_next-requires-clause-from
act_next-requires-clause-from c =
    let lives = subst (λ (z : CoreParts). Has c.args.client (client_numbers z.clients)) (sym c.self.view_is) c.requires.lives in
    let r = has-map (λ (s : SessionParts). s.client) (map bare c.self.inside.clients.sessions) c.args.client lives in
    subst (λ z. Has z c.self.inside.ledger.interfaces) (sym c.interface_of.ensures) (subst (λ z. Has (64 + z) c.self.inside.ledger.interfaces) (sym r.2) (c.self.invariant.reached r.0 r.1))

pub act_next-requires-clause-can : goal.act_next-requires-clause-can
act_next-requires-clause-can c =
    let server = c.self.inside.server in
    let clock = c.self.inside.clock in
    let old = c.self.inside.ledger in
    let before = c.self.inside.clients.sessions in
    let lives : Has c.args.client (client_numbers before) =
    subst (Has c.args.client) (numbers-bare before) (subst (λ (z : CoreParts). Has c.args.client (client_numbers z.clients)) (sym c.self.view_is) c.requires.lives) in
    let plans-are : (s : SessionParts) → Has s before → s.client ≡ c.args.client → PlansNext old.net s c.in_ok-plan.plan =
    subst (λ (z : NetParts). (s : SessionParts) → Has s before → s.client ≡ c.args.client → PlansNext z s c.in_ok-plan.plan) c.self.invariant.of_net c.in_ok-plan.ensures.plan in
    can-go server clock c.args.client old before c.plan.new.self.sessions c.self.invariant.kept c.in_ok-plan.ensures.bare c.lemma_sorted.ensures lives c.in_ok-plan.plan plans-are c.args.outgoing
    (subst (λ z. GoesOut z c.args.client c.args.outgoing) (sym c.self.view_is) c.requires.goes)

pub returns-in_err-sent-clause-err : goal.returns-in_err-sent-clause-err
returns-in_err-sent-clause-err c =
    on-err _ (ap (λ z. core_parts c.self.inside.server z (map bare c.act_next.new.clients.sessions) c.self.inside.clock) c.in_err-sent.ensures.err.0
    ∙ ap (λ z. core_parts c.self.inside.server c.self.inside.ledger z c.self.inside.clock) (c.in_err-sent.ensures.err.1 ∙ c.in_ok-plan.ensures.bare) ∙ c.self.view_is)

pub commit-requires-clause-planned : goal.commit-requires-clause-planned
commit-requires-clause-planned c = λ s m e. let r = c.in_ok-sent.ensures.planned s m in sym r.3 ∙ c.in_ok-plan.ensures.planned r.0 r.1 (r.2 ∙ e)

pub commit-requires-clause-plan : goal.commit-requires-clause-plan
commit-requires-clause-plan c =
    let server = c.self.inside.server in
    let clock = c.self.inside.clock in
    let old = c.self.inside.ledger in
    let new = c.act_next.new.ledger in
    let before = c.self.inside.clients.sessions in
    let mid = c.plan.new.self.sessions in
    let after = c.act_next.new.clients.sessions in
    let sent = c.in_ok-sent.sent.items in
    let plan = c.in_ok-plan.plan in
    let inv = c.self.invariant in
    let lives : Has c.args.client (client_numbers before) =
    subst (Has c.args.client) (numbers-bare before) (subst (λ (z : CoreParts). Has c.args.client (client_numbers z.clients)) (sym c.self.view_is) c.requires.lives) in
    let plans-are : (s : SessionParts) → Has s before → s.client ≡ c.args.client → PlansNext old.net s plan =
    subst (λ (z : NetParts). (s : SessionParts) → Has s before → s.client ≡ c.args.client → PlansNext z s plan) inv.of_net c.in_ok-plan.ensures.plan in
    let d : IsDone server clock c.args.client old before mid inv.kept c.in_ok-plan.ensures.bare c.lemma_sorted.ensures lives plan plans-are new after sent =
    gone-done server clock c.args.client old before mid inv.kept c.in_ok-plan.ensures.bare c.lemma_sorted.ensures lives plan plans-are new after sent c.args.outgoing
    (subst (λ z. GoesOut z c.args.client c.args.outgoing) (sym c.self.view_is) c.requires.goes) (rw c.interface_of.ensures at c.in_ok-sent.ensures.gone) in
    subst (λ (z : NetParts). (s : SessionParts) → Has s after → s.client ≡ c.args.client → PlansNext z s plan) (sym (c.in_ok-sent.ensures.net ∙ (c.in_ok-plan.ensures.net ∙ inv.of_net))) d.plans-then

pub invariant_of-self-2 : goal.invariant_of-self-2
invariant_of-self-2 c =
    let server = c.self.inside.server in
    let clock = c.self.inside.clock in
    let old = c.self.inside.ledger in
    let new = c.act_next.new.ledger in
    let before = c.self.inside.clients.sessions in
    let mid = c.plan.new.self.sessions in
    let after = c.act_next.new.clients.sessions in
    let sent = c.in_ok-sent.sent.items in
    let plan = c.in_ok-plan.plan in
    let inv = c.self.invariant in
    let same : map bare mid ≡ map bare before = c.in_ok-plan.ensures.bare in
    let lives : Has c.args.client (client_numbers before) =
    subst (Has c.args.client) (numbers-bare before) (subst (λ (z : CoreParts). Has c.args.client (client_numbers z.clients)) (sym c.self.view_is) c.requires.lives) in
    let plans-are : (s : SessionParts) → Has s before → s.client ≡ c.args.client → PlansNext old.net s plan =
    subst (λ (z : NetParts). (s : SessionParts) → Has s before → s.client ≡ c.args.client → PlansNext z s plan) inv.of_net c.in_ok-plan.ensures.plan in
    let d : IsDone server clock c.args.client old before mid inv.kept same c.lemma_sorted.ensures lives plan plans-are new after sent =
    gone-done server clock c.args.client old before mid inv.kept same c.lemma_sorted.ensures lives plan plans-are new after sent c.args.outgoing
    (subst (λ z. GoesOut z c.args.client c.args.outgoing) (sym c.self.view_is) c.requires.goes) (rw c.interface_of.ensures at c.in_ok-sent.ensures.gone) in
    let kept-then : IsCore (core_parts server old (map bare mid) clock) = kept-mid server clock c.args.client old before mid inv.kept same c.lemma_sorted.ensures lives in
    let some-left : (s : SessionParts) → Has s (map bare mid) → s.client ≡ c.args.client → s.taken < length s.script =
    subst (λ z. (s : SessionParts) → Has s z → s.client ≡ c.args.client → s.taken < length s.script) (sym same)
    (subst (λ (z : CoreParts). (s : SessionParts) → Has s z.clients → s.client ≡ c.args.client → s.taken < length s.script) (sym c.self.view_is) c.requires.left) in
    let stepped-are : c.commit.new.self.sessions ≡ at_client c.args.client stepped after = ap (λ (z : ClientsParts). z.sessions) c.commit.ensures in
    keeps server clock c.in-Ok.stamp old new (map bare before) (map bare c.commit.new.self.sessions) c.self.inside.clients.net c.commit.new.self.net inv
    (subst (λ z. IsCore (core_parts server new (map bare z) c.in-Ok.stamp)) (sym stepped-are)
    (command-kept server clock c.in-Ok.stamp c.args.client old new mid after d.route sent kept-then d.plan-is d.planned some-left d.done c.in-Ok.ensures.ok.1))
    c.in_ok-sent.ensures.interfaces d.net (ap (λ (z : ClientsParts). z.net) c.commit.ensures ∙ (c.in_ok-sent.ensures.net ∙ c.in_ok-plan.ensures.net)) d.semantics d.links
    (ap (λ z. client_numbers (map bare z)) stepped-are ∙ (ap client_numbers (bare-stepped c.args.client after) ∙ (numbers-stepped c.args.client (map bare after) ∙ (d.numbers ∙ ap client_numbers same))))

pub returns-clause-step : goal.returns-clause-step
returns-clause-step c =
    let server = c.self.inside.server in
    let clock = c.self.inside.clock in
    let old = c.self.inside.ledger in
    let new = c.act_next.new.ledger in
    let before = c.self.inside.clients.sessions in
    let mid = c.plan.new.self.sessions in
    let after = c.act_next.new.clients.sessions in
    let sent = c.in_ok-sent.sent.items in
    let plan = c.in_ok-plan.plan in
    let inv = c.self.invariant in
    let same : map bare mid ≡ map bare before = c.in_ok-plan.ensures.bare in
    let lives : Has c.args.client (client_numbers before) =
    subst (Has c.args.client) (numbers-bare before) (subst (λ (z : CoreParts). Has c.args.client (client_numbers z.clients)) (sym c.self.view_is) c.requires.lives) in
    let plans-are : (s : SessionParts) → Has s before → s.client ≡ c.args.client → PlansNext old.net s plan =
    subst (λ (z : NetParts). (s : SessionParts) → Has s before → s.client ≡ c.args.client → PlansNext z s plan) inv.of_net c.in_ok-plan.ensures.plan in
    let d : IsDone server clock c.args.client old before mid inv.kept same c.lemma_sorted.ensures lives plan plans-are new after sent =
    gone-done server clock c.args.client old before mid inv.kept same c.lemma_sorted.ensures lives plan plans-are new after sent c.args.outgoing
    (subst (λ z. GoesOut z c.args.client c.args.outgoing) (sym c.self.view_is) c.requires.goes) (rw c.interface_of.ensures at c.in_ok-sent.ensures.gone) in
    let kept-then : IsCore (core_parts server old (map bare mid) clock) = kept-mid server clock c.args.client old before mid inv.kept same c.lemma_sorted.ensures lives in
    let some-left : (s : SessionParts) → Has s (map bare mid) → s.client ≡ c.args.client → s.taken < length s.script =
    subst (λ z. (s : SessionParts) → Has s z → s.client ≡ c.args.client → s.taken < length s.script) (sym same)
    (subst (λ (z : CoreParts). (s : SessionParts) → Has s z.clients → s.client ≡ c.args.client → s.taken < length s.script) (sym c.self.view_is) c.requires.left) in
    let lives-mid : Has c.args.client (client_numbers (map bare mid)) = subst (λ z. Has c.args.client (client_numbers z)) (sym same) (subst (λ (z : CoreParts). Has c.args.client (client_numbers z.clients)) (sym c.self.view_is) c.requires.lives) in
    let stepped-are : c.commit.new.self.sessions ≡ at_client c.args.client stepped after = ap (λ (z : ClientsParts). z.sessions) c.commit.ensures in
    let stamp : c.in-Ok.stamp ≡ suc (max clock 0) = next-is c.in-Ok.stamp (max clock 0) (subst (λ (z : CoreParts). c.in-Ok.stamp ≡ 1 + max z.clock 0) (sym c.self.view_is) c.in-Ok.ensures.ok.0) in
    let then = core_parts server new (map bare c.commit.new.self.sessions) c.in-Ok.stamp in
    subst (λ z. MakesStep (Does (NextCommand c.args.client)) 0 z then c.in-Ok.stamp sent) c.self.view_is
    (subst (λ z. MakesStep (Does (NextCommand c.args.client)) 0 (core_parts server old z clock) then c.in-Ok.stamp sent) same
    (subst (λ z. MakesStep (Does (NextCommand c.args.client)) 0 (core_parts server old (map bare mid) clock) (core_parts server new (map bare z) c.in-Ok.stamp) c.in-Ok.stamp sent) (sym stepped-are)
    (command-made server clock c.in-Ok.stamp c.args.client old new mid after d.route sent kept-then d.plan-is d.planned some-left d.done lives-mid d.routes stamp)))
