use Rattle.std.proofs.Common.{◌≡◌, ◌<◌, true, length, Some, slice_get, Result, Ok, Err, IfSome, IfOk, OnOk, set, sym, ap, subst, ◌∙◌}
use Rattle.base.specs.declared.memory.NoMemory.{NoMemory}
use Rattle.base.specs.Sets.{Has}
use Rattle.server_spec.specs.Session.{SessionParts}
use Rattle.server_session.specs.declared.planned.Planned.{Planned}
use Rattle.server_session.specs.Session.{PlansNext}
use Rattle.server_core.specs.Clients.{ClientsParts, sessions_in, bare}
use Rattle.server_core.proofs.Sessions.{IsPlace, is-there, its-client, its-net, kept-numbers, kept-net, kept-bare, the-one, the-new, planned-or, planned-of, counted-of}
use Rattle.server_core.proofs.clients.Clients.plan.Goals as goal

here : (c : goal.After-index_mut) → IsPlace c.self.inside.tables.now c.self.inside.sessions.items c.args.self.now.sessions c.self.inside.numbers.items c.unwrap-place.result c.args.client c.index_mut.result.now
here c =
    let within : c.unwrap-place.result < length c.args.self.now.sessions = subst (λ o. IfSome o (λ i. i < length c.args.self.now.sessions)) c.unwrap-place.ensures c.place.ensures.some in
    let named : (s : SessionParts) → slice_get c.args.self.now.sessions c.unwrap-place.result ≡ Some s → s.client ≡ c.args.client = subst (λ o. IfSome o (λ i. (s : SessionParts) → slice_get c.args.self.now.sessions i ≡ Some s → s.client ≡ c.args.client)) c.unwrap-place.ensures c.place.ensures.session in
    record { view = ap (λ (z : ClientsParts). z.sessions) c.self.view_is; numbered = c.self.invariant.0; rising = c.self.invariant.1; of = c.self.invariant.2; within = within; client = named; read = c.index_mut.ensures.value }

later : (c : goal.After-self-1) → IsPlace c.self.inside.tables.now c.self.inside.sessions.items c.args.self.now.sessions c.self.inside.numbers.items c.unwrap-place.result c.args.client c.index_mut.result.now
later c =
    let within : c.unwrap-place.result < length c.args.self.now.sessions = subst (λ o. IfSome o (λ i. i < length c.args.self.now.sessions)) c.unwrap-place.ensures c.place.ensures.some in
    let named : (s : SessionParts) → slice_get c.args.self.now.sessions c.unwrap-place.result ≡ Some s → s.client ≡ c.args.client = subst (λ o. IfSome o (λ i. (s : SessionParts) → slice_get c.args.self.now.sessions i ≡ Some s → s.client ≡ c.args.client)) c.unwrap-place.ensures c.place.ensures.session in
    record { view = ap (λ (z : ClientsParts). z.sessions) c.self.view_is; numbered = c.self.invariant.0; rising = c.self.invariant.1; of = c.self.invariant.2; within = within; client = named; read = c.index_mut.ensures.value }

same-bare : (c : goal.After-self-1) → bare c.plan.new.self.session ≡ bare c.index_mut.result.now.session
same-bare c = planned-or c.plan.result c.index_mut.result.now c.plan.new.self c.plan.ensures.ok c.plan.ensures.err

same-client : (c : goal.After-self-1) → c.plan.new.self.session.client ≡ c.index_mut.result.now.session.client
same-client c = ap (λ z. z.client) (same-bare c)

pub plan-requires : goal.plan-requires
plan-requires c = c.requires.left c.index_mut.result.now.session (is-there (here c)) (its-client (here c))

pub invariant_of-self : goal.invariant_of-self
invariant_of-self c = (kept-numbers (later c) c.plan.new.self (same-client c), c.self.invariant.1, kept-net (later c) c.plan.new.self c.plan.ensures.net)

pub returns-clause-plan : goal.returns-clause-plan
returns-clause-plan c =
    let of = planned-of c.plan.result c.args.self.now.net c.index_mut.result.now c.plan.new.self c.plan.ensures.plan
    (c.plan.ensures.net ∙ (its-net (later c) ∙ ap (λ (z : ClientsParts). z.net) c.self.view_is)) c.plan.ensures.ok in
    go c.plan.result of
  where
    go : (r : Result Planned NoMemory) → IfOk r (λ p. PlansNext c.args.self.now.net c.index_mut.result.now.session p)
        → IfOk r (λ p. (s : SessionParts) → Has s c.args.self.now.sessions → s.client ≡ c.args.client → PlansNext c.args.self.now.net s p)
    go (Ok p) e = λ s m q. subst (λ z. PlansNext c.args.self.now.net z p) (sym (the-one (later c) s m q)) e
    go (Err x) e = tt

pub returns-clause-counted : goal.returns-clause-counted
returns-clause-counted c = counted-of c.plan.result c.args.client c.plan.new.self c.plan.ensures.counted (same-client c ∙ its-client (later c))

pub returns-clause-planned : goal.returns-clause-planned
returns-clause-planned c = go c.plan.result c.plan.ensures.ok
  where
    go : (r : Result Planned NoMemory) → OnOk r (c.plan.new.self.session ≡ record c.index_mut.result.now.session { planned = true })
        → OnOk r ((s : SessionParts) → Has s (sessions_in (set c.self.inside.sessions.items c.unwrap-place.result c.plan.new.self)) → s.client ≡ c.args.client → s.planned ≡ true)
    go (Ok p) e = λ s m q. ap (λ z. z.planned) (the-new (later c) c.plan.new.self s (same-client c) m q) ∙ ap (λ z. z.planned) e
    go (Err x) e = tt

pub returns-clause-net : goal.returns-clause-net
returns-clause-net c = ap (λ (z : ClientsParts). z.net) c.self.view_is

pub returns-clause-bare : goal.returns-clause-bare
returns-clause-bare c = kept-bare (later c) c.plan.new.self (same-bare c)
