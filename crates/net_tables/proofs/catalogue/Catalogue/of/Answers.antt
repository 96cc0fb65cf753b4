use Rattle.std.proofs.Common.{◌≡◌, ap, ◌∙◌, arith}
use Rattle.net_tables.proofs.Counting.{known_filters_few, known_adverts_few, publications_count}
use Rattle.net_tables.proofs.catalogue.Catalogue.of.Goals as goal

pub filters-requires : goal.filters-requires
filters-requires c =
    let clients : c.deref.result.now ≡ c.args.net.now.clients = c.deref.ensures.value ∙ ap (λ n. n.clients) c.net.view_is in
    rw clients (omega (arith, known_filters_few c.args.net.now.clients c.requires.controls))

pub adverts-requires : goal.adverts-requires
adverts-requires c =
    let clients : c.deref-2.result.now ≡ c.args.net.now.clients = c.deref-2.ensures.value ∙ ap (λ n. n.clients) c.net.view_is in
    rw clients (omega (arith, known_adverts_few c.args.net.now.clients c.requires.controls))

pub number_all-requires-clause-few_publications : goal.number_all-requires-clause-few_publications
number_all-requires-clause-few_publications c =
    let clients : c.deref-5.result.now ≡ c.args.net.now.clients = c.deref-5.ensures.value ∙ ap (λ n. n.clients) c.net.view_is in
    rw clients (omega (arith, publications_count 1 c.args.net.now.clients, c.requires.publishes))
