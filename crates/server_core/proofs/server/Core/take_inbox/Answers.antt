use Rattle.std.proofs.Common.{◌≡◌, map, refl, sym, ap, subst, ◌∙◌}
use Rattle.base.specs.Sets.{Has}
use Rattle.net_inbox.specs.Inbox.{at_numbers}
use Rattle.net_tables.specs.Found.{known_deliveries}
use Rattle.server_spec.specs.Session.{SessionParts}
use Rattle.server_core.specs.Clients.{ClientsParts, bare, client_numbers, at_client, emptied}
use Rattle.server_core.specs.Core.{CoreParts, core_parts, without_inbox}
use Rattle.server_core.specs.Kept.{IsCore}
use Rattle.server_core.proofs.Commands.{numbers-bare}
use Rattle.server_core.proofs.Emptied.{emptied-kept, emptied-bare, numbers-emptied}
use Rattle.server_core.proofs.Keeping.{keeps}
use Rattle.server_core.proofs.server.Core.take_inbox.Goals as goal
use Rattle.base.proofs.Sets.{has-map}

pub take_inbox-requires : goal.take_inbox-requires
take_inbox-requires c = subst (Has c.args.client) (numbers-bare c.self.inside.clients.sessions) (subst (λ (z : CoreParts). Has c.args.client (client_numbers z.clients)) (sym c.self.view_is) c.requires)

pub invariant_of-self : goal.invariant_of-self
invariant_of-self c =
    let inv = c.self.invariant in
    let ledger = c.self.inside.ledger in
    let before = map bare c.self.inside.clients.sessions in
    let same : map bare c.take_inbox.new.self.sessions ≡ at_client c.args.client emptied before =
    ap (λ (z : ClientsParts). map bare z.sessions) c.take_inbox.ensures.emptied ∙ emptied-bare c.args.client c.self.inside.clients.sessions in
    keeps c.self.inside.server c.self.inside.clock c.self.inside.clock ledger ledger before (map bare c.take_inbox.new.self.sessions) c.self.inside.clients.net c.take_inbox.new.self.net inv
    (subst (λ z. IsCore (core_parts c.self.inside.server ledger z c.self.inside.clock)) (sym same)
    (emptied-kept c.self.inside.server c.self.inside.clock c.args.client ledger before inv.kept))
    refl refl (ap (λ (z : ClientsParts). z.net) c.take_inbox.ensures.emptied) refl refl (ap client_numbers same ∙ numbers-emptied c.args.client before)

pub returns-clause-inbox : goal.returns-clause-inbox
returns-clause-inbox c = λ s m e.
    let r = has-map bare c.self.inside.clients.sessions s (subst (λ (z : CoreParts). Has s z.clients) (sym c.self.view_is) m) in
    let net = c.self.invariant.of_net ∙ ap (λ (z : CoreParts). z.net) c.self.view_is in
    ap (λ z. at_numbers (known_deliveries z.clients) c.take_inbox.result.items) (sym net)
    ∙ c.take_inbox.ensures.inbox r.0 r.1 (ap (λ (z : SessionParts). z.client) (sym r.2) ∙ e) ∙ ap (λ (z : SessionParts). z.inbox) (sym r.2)

pub returns-clause-emptied : goal.returns-clause-emptied
returns-clause-emptied c =
    ap (λ (z : ClientsParts). core_parts c.self.inside.server c.self.inside.ledger (map bare z.sessions) c.self.inside.clock) c.take_inbox.ensures.emptied
    ∙ ap (λ z. core_parts c.self.inside.server c.self.inside.ledger z c.self.inside.clock) (emptied-bare c.args.client c.self.inside.clients.sessions)
    ∙ ap (without_inbox c.args.client) c.self.view_is
