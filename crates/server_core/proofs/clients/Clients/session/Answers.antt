use Rattle.std.proofs.Common.{ap, ◌∙◌}
use Rattle.server_core.specs.Clients.{ClientsParts}
use Rattle.server_core.proofs.Sessions.{IsPlace, is-there, its-client, its-net}
use Rattle.server_core.proofs.clients.Clients.session.Goals as goal

pub returns-clause-session : goal.returns-clause-session
returns-clause-session c =
    let p : IsPlace c.self.inside.tables.now c.self.inside.sessions.items c.args.self.now.sessions c.self.inside.numbers.items c.in_ok-place.place c.args.client c.index.result.now = record { view = ap (λ (z : ClientsParts). z.sessions) c.self.view_is; numbered = c.self.invariant.0; rising = c.self.invariant.1; of = c.self.invariant.2; within = c.in_ok-place.ensures.some; client = c.in_ok-place.ensures.session; read = c.index.ensures } in
    (is-there p, its-client p)

pub returns-clause-net : goal.returns-clause-net
returns-clause-net c =
    let p : IsPlace c.self.inside.tables.now c.self.inside.sessions.items c.args.self.now.sessions c.self.inside.numbers.items c.in_ok-place.place c.args.client c.index.result.now = record { view = ap (λ (z : ClientsParts). z.sessions) c.self.view_is; numbered = c.self.invariant.0; rising = c.self.invariant.1; of = c.self.invariant.2; within = c.in_ok-place.ensures.some; client = c.in_ok-place.ensures.session; read = c.index.ensures } in
    its-net p ∙ ap (λ (z : ClientsParts). z.net) c.self.view_is
