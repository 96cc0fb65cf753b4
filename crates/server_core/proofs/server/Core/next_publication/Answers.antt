use Rattle.std.proofs.Common.{◌≡◌, ◌∙◌, ◌<◌, List, length, slice_get, Some, IfSome, IfNone, map, sym, ap, subst}
use Rattle.filter_types.specs.Notice.{Attribute}
use Rattle.base.specs.Sets.{Has}
use Rattle.filter_text.specs.declared.id.Id.{Id}
use Rattle.net_model.specs.Parts.{NetParts}
use Rattle.net_tables.specs.Known.{PublicationParts, known_publications}
use Rattle.net_tables.specs.Found.{publication_at}
use Rattle.server_spec.specs.declared.planned.Planned.TheVariants as plans
use Rattle.server_spec.specs.Session.{SessionParts}
use Rattle.server_spec.specs.Plan.{next_plan}
use Rattle.server_core.specs.Clients.{bare}
use Rattle.server_core.specs.Core.{CoreParts}
use Rattle.server_core.proofs.Keeping.{next-known, next-some, next-none}
use Rattle.server_core.proofs.server.Core.next_publication.Goals as goal

pub returns-clause-known : goal.returns-clause-known
returns-clause-known c =
    let before = c.self.inside.clients.sessions in
    let t = c.session.result.now.session in
    let there : Has (bare t) (map bare before) = subst (λ (z : CoreParts). Has (bare t) z.clients) (sym c.self.view_is) c.session.ensures.session in
    subst (λ (n : NetParts). IfSome c.next_publication.result (λ k. k < length (known_publications 1 n.clients))) c.session.ensures.net
    (next-known before c.lemma_sorted.ensures c.args.client t there c.session.ensures.client c.session.result.now.net c.next_publication.result c.next_publication.ensures.publish)

pub returns-clause-publish : goal.returns-clause-publish
returns-clause-publish c =
    let before = c.self.inside.clients.sessions in
    let t = c.session.result.now.session in
    let there : Has (bare t) (map bare before) = subst (λ (z : CoreParts). Has (bare t) z.clients) (sym c.self.view_is) c.session.ensures.session in
    subst (λ (z : CoreParts). IfSome c.next_publication.result (λ k. (s : SessionParts) → Has s z.clients → s.client ≡ c.args.client
    → next_plan s ≡ Some (plans.Publish (publication_at z.net k).id (publication_at z.net k).notice))) c.self.view_is
    (next-some before c.lemma_sorted.ensures c.args.client t there c.session.ensures.client c.self.inside.ledger.net c.next_publication.result
    (subst (λ (z : NetParts). IfSome c.next_publication.result (λ k. (p : PublicationParts) × (slice_get (known_publications 1 z.clients) k ≡ Some p) × (next_plan t ≡ Some (plans.Publish p.id p.notice))))
    (c.session.ensures.net ∙ sym (ap (λ (z : CoreParts). z.net) c.self.view_is)) c.next_publication.ensures.publish))

pub returns-clause-none : goal.returns-clause-none
returns-clause-none c =
    let before = c.self.inside.clients.sessions in
    let t = c.session.result.now.session in
    let there : Has (bare t) (map bare before) = subst (λ (z : CoreParts). Has (bare t) z.clients) (sym c.self.view_is) c.session.ensures.session in
    subst (λ (z : CoreParts). IfNone c.next_publication.result ((s : SessionParts) (id : Id) (n : List Attribute) → Has s z.clients → s.client ≡ c.args.client → next_plan s ≡ Some (plans.Publish id n) → ⊥)) c.self.view_is
    (next-none before c.lemma_sorted.ensures c.args.client t there c.session.ensures.client c.next_publication.result c.next_publication.ensures.none)
