use Rattle.std.proofs.Common.{◌≡◌, ◌∙◌, [], get_or, sym, ap, subst}
use Rattle.std.proofs.lemmas.List.{get_or_default}
use Rattle.net_model.specs.Parts.{NetParts}
use Rattle.filter_text.specs.declared.message_text.MessageText.TheVariants as wires
use Rattle.filter_text.specs.MessageText.{IsId, message_text}
use Rattle.net_tables.specs.Known.{PublicationParts, publication, known_publications}
use Rattle.net_tables.specs.Found.{publication_at}
use Rattle.sequential_network.proofs.texts.publication_text.Goals as goal

pub of_message-requires : goal.of_message-requires
of_message-requires c =
    let net = c.args.tables.now in
    let known = known_publications 1 net.clients in
    let r = c.index-publications-number.result in
    let all = c.publications.ensures ∙ ap (λ (n : NetParts). known_publications 1 n.clients) c.catalogue.ensures in
    let read : publication c.publication.inside.id.publisher c.publication.inside.id.ordinal c.publication.inside.phase c.publication.inside.notice ≡ publication_at net c.args.number =
    c.publication.view_is ∙ (c.index-publications-number.is ∙ (ap (λ z. get_or z c.args.number r) all ∙ get_or_default known c.args.number r (publication 0 0 0 []) c.requires)) in
    subst IsId (sym (ap (λ (z : PublicationParts). z.id) read)) c.lemma_delivered.ensures.range

pub returns : goal.returns
returns c =
    let net = c.args.tables.now in
    let known = known_publications 1 net.clients in
    let p = publication_at net c.args.number in
    let r = c.index-publications-number.result in
    let all = c.publications.ensures ∙ ap (λ (n : NetParts). known_publications 1 n.clients) c.catalogue.ensures in
    let read : publication c.publication.inside.id.publisher c.publication.inside.id.ordinal c.publication.inside.phase c.publication.inside.notice ≡ p =
    c.publication.view_is ∙ (c.index-publications-number.is ∙ (ap (λ z. get_or z c.args.number r) all ∙ get_or_default known c.args.number r (publication 0 0 0 []) c.requires)) in
    let id = ap (λ (z : PublicationParts). z.id) read in
    let notice = c.in_ok-notice.ensures ∙ ap (λ (z : PublicationParts). z.notice) read in
    c.of_message.ensures.text ∙ (λ i. message_text (wires.Notice (id i) (notice i)))
