use Rattle.std.proofs.Common.{◌<◌, length, sym, ap, subst, ◌∙◌}
use Rattle.base.specs.Sets.{Has}
use Rattle.base_order.specs.Order.{picked}
use Rattle.net_model.specs.Parts.{NetParts}
use Rattle.net_tables.specs.Known.{known_filters, known_adverts}
use Rattle.server_core.proofs.Putting.{puts-as}
use Rattle.server_core.proofs.ledger.Ledger.put.Goals as goal

pub put_adverts-requires-clause-interface : goal.put_adverts-requires-clause-interface
put_adverts-requires-clause-interface c = subst (λ z. Has z c.args.self.now.interfaces) (sym c.link-link.ensures) c.requires.interface

pub put_adverts-requires-clause-add : goal.put_adverts-requires-clause-add
put_adverts-requires-clause-add c i m =
    let wide = c.adverts-adverts.ensures.width ∙ ap (λ (z : NetParts). length (known_adverts z.clients)) c.requires.net in
    subst (λ z. i < z) wide (c.lemma_sorted.ensures.within i (subst (Has i) (c.deref.ensures.value ∙ c.in_ok-offered.ensures) m))

pub put_filters-requires-clause-interface : goal.put_filters-requires-clause-interface
put_filters-requires-clause-interface c =
    subst (λ z. Has z c.put_adverts.new.self.interfaces) (sym c.link-link.ensures) (subst (Has c.args.held.now.held.link) (sym c.in_ok-put_adverts.ensures.interfaces) c.requires.interface)

pub put_filters-requires-clause-add : goal.put_filters-requires-clause-add
put_filters-requires-clause-add c i m =
    let wide = c.filters-filters.ensures.width ∙ ap (λ (z : NetParts). length (known_filters z.clients)) (c.requires.net ∙ sym c.in_ok-put_adverts.ensures.net) in
    subst (λ z. i < z) wide (c.lemma_sorted-2.ensures.within i (subst (Has i) (c.deref-2.ensures.value ∙ c.in_ok-wanted.ensures) m))

pub returns : goal.returns
returns c =
    let ads = ap (picked (known_adverts c.args.self.now.net.clients)) (c.deref.ensures.value ∙ c.in_ok-offered.ensures) ∙ (ap (λ (z : NetParts). picked (known_adverts z.clients) c.adverts-adverts.result.now.members) (sym c.requires.net) ∙ c.adverts-adverts.ensures.represents) in
    let fs = ap (picked (known_filters c.put_adverts.new.self.net.clients)) (c.deref-2.ensures.value ∙ c.in_ok-wanted.ensures)
    ∙ (ap (λ (z : NetParts). picked (known_filters z.clients) c.filters-filters.result.now.members) (c.in_ok-put_adverts.ensures.net ∙ sym c.requires.net) ∙ c.filters-filters.ensures.represents) in
    puts-as c.args.held.now.held c.link-link.result _ _ c.args.self.now c.put_adverts.new.self c.put_filters.new.self c.link-link.ensures fs ads c.in_ok-put_adverts.ensures c.in_ok-put_filters.ensures
