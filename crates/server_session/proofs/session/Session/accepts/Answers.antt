use Rattle.std.proofs.Common.{◌≡◌, ap, ◌∙◌}
use Rattle.base_order.specs.Order.{picked}
use Rattle.filter_text.specs.Messages.{Lists}
use Rattle.filter_text.specs.declared.semantics.Semantics.{Semantics}
use Rattle.law_routing.specs.Clients.{accepts}
use Rattle.net_model.specs.Real.{real}
use Rattle.net_model.specs.Parts.{NetParts}
use Rattle.server_spec.specs.Session.{adverts_at, net_under}
use Rattle.net_tables.specs.Known.{PublicationParts, known_publications}
use Rattle.server_session.specs.Session.{NetSession}
use Rattle.server_session.proofs.Keeping.{accepts-by-row, known-read}
use Rattle.server_session.proofs.session.Session.accepts.Goals as goal

pub returns : goal.returns
returns c p e =
    let a = c.is_accepted.ensures in
    let row = c.self.inside.own.adverts.members in
    let all = c.publications.ensures ∙ (ap (λ (z : NetParts). known_publications 1 z.clients) c.catalogue.ensures ∙ ap (λ (z : NetSession). known_publications 1 z.net.clients) c.self.view_is) in
    let same : c.known.inside.notice ≡ p.notice =
    ap (λ (z : PublicationParts). z.notice) (c.known.view_is ∙ known-read c.publications.result.now (known_publications 1 c.args.self.now.net.clients) c.args.publication
    c.index-publications-publication.result p all c.requires c.index-publications-publication.is e) in
    a ∙ (ap (λ (z : Semantics). accepts real (net_under z) (picked c.advert_items.result.now row) c.known.inside.notice) c.semantics.ensures
    ∙ (ap (λ (z : Lists). accepts real (net_under c.self.inside.tables.now.semantics) (picked z row) c.known.inside.notice) c.advert_items.ensures
    ∙ (accepts-by-row _ _ _ _ _ _ _ c.self.invariant.0 c.known.inside.notice
    ∙ (ap (λ (z : NetSession). accepts real (net_under z.session.semantics) (adverts_at z.session z.session.taken) c.known.inside.notice) c.self.view_is
    ∙ ap (accepts real (net_under c.args.self.now.session.semantics) (adverts_at c.args.self.now.session c.args.self.now.session.taken)) same))))
