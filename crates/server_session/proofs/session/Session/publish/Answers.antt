use Rattle.std.proofs.Common.{◌≡◌, ◌≤◌, ◌+◌, List, slice_get, refl, sym, ap, subst, ◌∙◌, arith}
use Rattle.std.specs.Int.{IsInRange}
use Rattle.filter_text.specs.declared.id.Id.{Id}
use Rattle.net_model.specs.Parts.{NetParts}
use Rattle.server_spec.proofs.Sessions.{publishes-few}
use Rattle.net_tables.specs.Known.{PublicationParts, known_publications}
use Rattle.server_session.specs.Session.{NetSession, PlansNext}
use Rattle.server_session.specs.declared.planned.Planned.TheVariants.{Publish, Refused}
use Rattle.server_session.proofs.Keeping.{next-inside, plan-outside, known-publication, counted-publication, accepted-inside, known-read, plans-publish, plans-refused}
use Rattle.server_session.proofs.session.Session.publish.Goals as goal

pub overflow_add-ordinal : goal.overflow_add-ordinal
overflow_add-ordinal c =
    let few : c.self.inside.own.publishes ≤ 100000 = publishes-few _ _ _ _ _ c.self.invariant.0.kept in
    omega (arith, few)

pub returns-then-accepts-clause-plan : goal.returns-then-accepts-clause-plan
returns-then-accepts-clause-plan c =
    let v = c.self.view_is in
    let n = next-inside _ _ _ v _ c.requires in
    let q = known-publication _ _ c.args.publication n in
    let outside = ap (λ (z : NetSession). known_publications 1 z.net.clients) v in
    let all = c.publications.ensures ∙ ap (λ (z : NetParts). known_publications 1 z.clients) c.catalogue.ensures in
    let same : c.known.inside.id ≡ q.0.id =
    ap (λ (z : PublicationParts). z.id) (c.known.view_is ∙ known-read c.publications.result.now (known_publications 1 c.self.inside.tables.now.clients) c.args.publication
    c.index-publications-publication.result q.0 all q.2 c.index-publications-publication.is q.1) in
    let a = accepted-inside _ _ _ v q.0 _ (c.if-accepts.ensures q.0 (ap (λ (z : List PublicationParts). slice_get z c.args.publication) (sym outside) ∙ q.1)) in
    subst (λ (z : Id). PlansNext c.args.self.now.net c.args.self.now.session (Publish z c.args.publication)) (sym same)
    (plan-outside _ _ _ v (Publish q.0.id c.args.publication) (plans-publish _ _ c.args.publication q.0 n q.1 a))

pub returns-else-accepts-clause-plan : goal.returns-else-accepts-clause-plan
returns-else-accepts-clause-plan c =
    let v = c.self.view_is in
    let n = next-inside _ _ _ v _ c.requires in
    let q = known-publication _ _ c.args.publication n in
    let outside = ap (λ (z : NetSession). known_publications 1 z.net.clients) v in
    let a = accepted-inside _ _ _ v q.0 _ (c.if-accepts.ensures q.0 (ap (λ (z : List PublicationParts). slice_get z c.args.publication) (sym outside) ∙ q.1)) in
    plan-outside _ _ _ v (Refused (c.self.inside.own.publishes + 1)) (plans-refused _ _ _ _ _ _ _ c.self.invariant.0 c.args.publication (c.self.inside.own.publishes + 1) q.0 n q.1 refl a)

pub returns-then-accepts-clause-counted : goal.returns-then-accepts-clause-counted
returns-then-accepts-clause-counted c =
    let v = c.self.view_is in
    let n = next-inside _ _ _ v _ c.requires in
    let q = known-publication _ _ c.args.publication n in
    let all = c.publications.ensures ∙ ap (λ (z : NetParts). known_publications 1 z.clients) c.catalogue.ensures in
    let same =
    ap (λ (z : PublicationParts). z.id) (c.known.view_is ∙ known-read c.publications.result.now (known_publications 1 c.self.inside.tables.now.clients) c.args.publication
    c.index-publications-publication.result q.0 all q.2 c.index-publications-publication.is q.1) ∙ q.3 in
    let counted = counted-publication _ _ _ _ _ _ _ c.self.invariant.0 c.args.publication n in
    (ap (λ (z : Id). z.publisher) same ∙ ap (λ (z : NetSession). z.session.client) v, subst (λ (z : Id). IsInRange 1 100000 z.ordinal) (sym same) counted)
