use Rattle.std.proofs.Common.{◌≡◌, ◌≤◌, Result, Ok, Err, OnOk, inl, inr, set, refl, sym, ap, subst, ◌∙◌, arith}
use Rattle.base.specs.declared.memory.NoMemory.{NoMemory}
use Rattle.base.specs.Sets.{Has}
use Rattle.server_spec.specs.Session.{SessionParts}
use Rattle.server_core.specs.Clients.{ClientsParts, sessions_in, bare, client_numbers}
use Rattle.server_core.proofs.Sessions.{IsPlace, put-in-has, is-there, kept-numbers, kept-net, kept-bare, the-new}
use Rattle.server_core.proofs.clients.Clients.make_room.Goals as goal
use Rattle.base.proofs.Sets.{map-has}

pub returns-in_default-clause-room : goal.returns-in_default-clause-room
returns-in_default-clause-room c = λ s m e. absurd (c.in_default.ensures.none (subst (λ z. Has z (client_numbers c.args.self.now.sessions)) e (map-has (λ z. z.client) c.args.self.now.sessions s m)))

pub invariant_of-self : goal.invariant_of-self
invariant_of-self c =
    let p : IsPlace c.self.inside.tables.now c.self.inside.sessions.items c.args.self.now.sessions c.self.inside.numbers.items c.in-Some.place c.args.client c.index_mut.result.now = record { view = ap (λ (z : ClientsParts). z.sessions) c.self.view_is; numbered = c.self.invariant.0; rising = c.self.invariant.1; of = c.self.invariant.2; within = c.in-Some.ensures.some; client = c.in-Some.ensures.session; read = c.index_mut.ensures.value } in
    (kept-numbers p c.room.new.self (ap (λ z. z.client) c.room.ensures.same), c.self.invariant.1, kept-net p c.room.new.self c.room.ensures.net)

pub returns-clause-room : goal.returns-clause-room
returns-clause-room c =
    let p : IsPlace c.self.inside.tables.now c.self.inside.sessions.items c.args.self.now.sessions c.self.inside.numbers.items c.in-Some.place c.args.client c.index_mut.result.now = record { view = ap (λ (z : ClientsParts). z.sessions) c.self.view_is; numbered = c.self.invariant.0; rising = c.self.invariant.1; of = c.self.invariant.2; within = c.in-Some.ensures.some; client = c.in-Some.ensures.session; read = c.index_mut.ensures.value } in
    go p c.room.result c.room.ensures.ok
  where
    go : IsPlace c.self.inside.tables.now c.self.inside.sessions.items c.args.self.now.sessions c.self.inside.numbers.items c.in-Some.place c.args.client c.index_mut.result.now → (r : Result (Unit {0}) NoMemory) → OnOk r (1 ≤ c.room.new.self.session.room)
        → OnOk r ((s : SessionParts) → Has s (sessions_in (set c.self.inside.sessions.items c.in-Some.place c.room.new.self)) → s.client ≡ c.args.client → 1 ≤ s.room)
    go p (Ok u) room = λ s m e. subst (λ (z : SessionParts). 1 ≤ z.room) (sym (the-new p c.room.new.self s (ap (λ z. z.client) c.room.ensures.same) m e)) room
    go p (Err e) room = tt

pub returns-clause-more : goal.returns-clause-more
returns-clause-more c =
    let p : IsPlace c.self.inside.tables.now c.self.inside.sessions.items c.args.self.now.sessions c.self.inside.numbers.items c.in-Some.place c.args.client c.index_mut.result.now = record { view = ap (λ (z : ClientsParts). z.sessions) c.self.view_is; numbered = c.self.invariant.0; rising = c.self.invariant.1; of = c.self.invariant.2; within = c.in-Some.ensures.some; client = c.in-Some.ensures.session; read = c.index_mut.ensures.value } in
    λ s m. elim (put-in-has p c.room.new.self s m) [
      | inl q ↦ (c.index_mut.result.now.session, is-there p, ap (λ z. z.client) (sym c.room.ensures.same) ∙ ap (λ z. z.client) (sym q), subst (λ (z : SessionParts). c.index_mut.result.now.session.room ≤ z.room) (sym q) c.room.ensures.more, ap (λ z. z.planned) (sym c.room.ensures.same) ∙ ap (λ z. z.planned) (sym q))
      | inr k ↦ (s, k, refl, omega arith, refl)
    ]

pub returns-clause-net : goal.returns-clause-net
returns-clause-net c = ap (λ (z : ClientsParts). z.net) c.self.view_is

pub returns-clause-bare : goal.returns-clause-bare
returns-clause-bare c =
    let p : IsPlace c.self.inside.tables.now c.self.inside.sessions.items c.args.self.now.sessions c.self.inside.numbers.items c.in-Some.place c.args.client c.index_mut.result.now = record { view = ap (λ (z : ClientsParts). z.sessions) c.self.view_is; numbered = c.self.invariant.0; rising = c.self.invariant.1; of = c.self.invariant.2; within = c.in-Some.ensures.some; client = c.in-Some.ensures.session; read = c.index_mut.ensures.value } in
    kept-bare p c.room.new.self (ap bare c.room.ensures.same)
