use Rattle.std.proofs.Common.{sym, ap, subst, ◌∙◌}
use Rattle.server_session.specs.Session.{NetSession, PlansNext}
use Rattle.server_core.specs.Clients.{ClientsParts, clients_parts, stepped, at_client}
use Rattle.server_core.proofs.Sessions.{IsPlace, absent-at, is-there, its-client, its-net, changed, kept-numbers, kept-net}
use Rattle.server_core.proofs.clients.Clients.commit.Goals as goal

pub returns-in_default : goal.returns-in_default
returns-in_default c = ap (clients_parts c.args.self.now.net) (sym (absent-at c.args.client stepped c.args.self.now.sessions c.in_default.ensures.none))

pub commit-requires-clause-planned : goal.commit-requires-clause-planned
commit-requires-clause-planned c =
    let p : IsPlace c.self.inside.tables.now c.self.inside.sessions.items c.args.self.now.sessions c.self.inside.numbers.items c.in-Some.place c.args.client c.index_mut.result.now = record { view = ap (λ (z : ClientsParts). z.sessions) c.self.view_is; numbered = c.self.invariant.0; rising = c.self.invariant.1; of = c.self.invariant.2; within = c.in-Some.ensures.some; client = c.in-Some.ensures.session; read = c.index_mut.ensures.value } in
    c.requires.planned c.index_mut.result.now.session (is-there p) (its-client p)

pub commit-requires-clause-plan : goal.commit-requires-clause-plan
commit-requires-clause-plan c =
    let p : IsPlace c.self.inside.tables.now c.self.inside.sessions.items c.args.self.now.sessions c.self.inside.numbers.items c.in-Some.place c.args.client c.index_mut.result.now = record { view = ap (λ (z : ClientsParts). z.sessions) c.self.view_is; numbered = c.self.invariant.0; rising = c.self.invariant.1; of = c.self.invariant.2; within = c.in-Some.ensures.some; client = c.in-Some.ensures.session; read = c.index_mut.ensures.value } in
    subst (λ z. PlansNext z c.index_mut.result.now.session c.args.p.now) (sym (its-net p ∙ ap (λ (z : ClientsParts). z.net) c.self.view_is))
    (c.requires.plan c.index_mut.result.now.session (is-there p) (its-client p))

pub invariant_of-self : goal.invariant_of-self
invariant_of-self c =
    let p : IsPlace c.self.inside.tables.now c.self.inside.sessions.items c.args.self.now.sessions c.self.inside.numbers.items c.in-Some.place c.args.client c.index_mut.result.now = record { view = ap (λ (z : ClientsParts). z.sessions) c.self.view_is; numbered = c.self.invariant.0; rising = c.self.invariant.1; of = c.self.invariant.2; within = c.in-Some.ensures.some; client = c.in-Some.ensures.session; read = c.index_mut.ensures.value } in
    (kept-numbers p c.commit.new.self (ap (λ (z : NetSession). z.session.client) c.commit.ensures), c.self.invariant.1, kept-net p c.commit.new.self (ap (λ (z : NetSession). z.net) c.commit.ensures))

pub returns : goal.returns
returns c =
    let p : IsPlace c.self.inside.tables.now c.self.inside.sessions.items c.args.self.now.sessions c.self.inside.numbers.items c.in-Some.place c.args.client c.index_mut.result.now = record { view = ap (λ (z : ClientsParts). z.sessions) c.self.view_is; numbered = c.self.invariant.0; rising = c.self.invariant.1; of = c.self.invariant.2; within = c.in-Some.ensures.some; client = c.in-Some.ensures.session; read = c.index_mut.ensures.value } in
    ap (clients_parts c.self.inside.tables.now) (changed p stepped c.commit.new.self (ap (λ (z : NetSession). z.session) c.commit.ensures))
    ∙ ap (λ (z : ClientsParts). clients_parts z.net (at_client c.args.client stepped c.args.self.now.sessions)) c.self.view_is
