use Rattle.std.proofs.Common.{◌≡◌, map, refl, sym, ap, subst, ◌∙◌}
use Rattle.base.specs.Sets.{Has}
use Rattle.net_inbox.specs.Inbox.{at_numbers}
use Rattle.net_tables.specs.Found.{known_deliveries}
use Rattle.server_spec.specs.Session.{SessionParts}
use Rattle.server_core.specs.Clients.{ClientsParts, bare, client_numbers, at_client, emptied}
use Rattle.server_core.specs.Core.{core_parts, without_inbox}
use Rattle.server_core.specs.Kept.{IsCore}
use Rattle.server_core.proofs.Commands.{numbers-bare}
use Rattle.server_core.proofs.Emptied.{emptied-kept, emptied-bare, numbers-emptied}
use Rattle.hierarchy_network.specs.Core.{HierarchyParts, hierarchy_parts}
use Rattle.hierarchy_network.specs.CoreKept.{plain}
use Rattle.hierarchy_network.proofs.Keeping.{plainly-kept, keeps}
use Rattle.hierarchy_network.proofs.Plain.{AllOf, plain-bare, plain-emptied, all-emptied}
use Rattle.hierarchy_network.proofs.server.HierarchyCore.take_inbox.Goals as goal
use Rattle.base.proofs.Sets.{has-map}

pub take_inbox-requires : goal.take_inbox-requires
take_inbox-requires c = subst (Has c.args.client) (numbers-bare c.self.inside.clients.sessions) (subst (λ (z : HierarchyParts). Has c.args.client (client_numbers z.core.clients)) (sym c.self.view_is) c.requires)

pub invariant_of-self : goal.invariant_of-self
invariant_of-self c =
    let inv = c.self.invariant in
    let ledger = c.self.inside.ledger in
    let server = c.self.inside.server in
    let clock = c.self.inside.clock in
    let before = c.self.inside.clients.sessions in
    let after = c.take_inbox.new.self.sessions in
    let same : map bare after ≡ at_client c.args.client emptied (map bare before) =
    ap (λ (z : ClientsParts). map bare z.sessions) c.take_inbox.ensures.emptied ∙ emptied-bare c.args.client before in
    let plainly : at_client c.args.client emptied (map bare (map plain before)) ≡ map bare (map plain after) =
    ap (at_client c.args.client emptied) (plain-bare before) ∙ (plain-emptied c.args.client (map bare before) ∙ (ap (map plain) (sym same) ∙ sym (plain-bare after))) in
    keeps server clock clock ledger ledger before after c.self.inside.clients.net c.take_inbox.new.self.net inv
    (subst (λ z. IsCore (core_parts server ledger z clock)) plainly
    (emptied-kept server clock c.args.client ledger (map bare (map plain before)) (plainly-kept server clock ledger before ledger.interfaces c.self.inside.clients.net inv)))
    (subst (AllOf ledger.net.semantics) (sym same) (all-emptied ledger.net.semantics c.args.client (map bare before) inv.sessions))
    refl refl (ap (λ (z : ClientsParts). z.net) c.take_inbox.ensures.emptied) refl refl (ap client_numbers same ∙ numbers-emptied c.args.client (map bare before))

pub returns-clause-inbox : goal.returns-clause-inbox
returns-clause-inbox c = λ s m e.
    let r = has-map bare c.self.inside.clients.sessions s (subst (λ (z : HierarchyParts). Has s z.core.clients) (sym c.self.view_is) m) in
    let net = c.self.invariant.of_net ∙ ap (λ (z : HierarchyParts). z.core.net) c.self.view_is in
    ap (λ z. at_numbers (known_deliveries z.clients) c.take_inbox.result.items) (sym net)
    ∙ c.take_inbox.ensures.inbox r.0 r.1 (ap (λ (z : SessionParts). z.client) (sym r.2) ∙ e) ∙ ap (λ (z : SessionParts). z.inbox) (sym r.2)

pub returns-clause-emptied : goal.returns-clause-emptied
returns-clause-emptied c =
    ap (λ (z : ClientsParts). hierarchy_parts (core_parts c.self.inside.server c.self.inside.ledger (map bare z.sessions) c.self.inside.clock) c.self.inside.master) c.take_inbox.ensures.emptied
    ∙ ap (λ z. hierarchy_parts (core_parts c.self.inside.server c.self.inside.ledger z c.self.inside.clock) c.self.inside.master) (emptied-bare c.args.client c.self.inside.clients.sessions)
    ∙ ap (λ (z : HierarchyParts). hierarchy_parts (without_inbox c.args.client z.core) z.master) c.self.view_is
