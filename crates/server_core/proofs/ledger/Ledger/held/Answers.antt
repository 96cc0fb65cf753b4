use Rattle.std.proofs.Common.{length, sym, ap, ◌∙◌, List}
use Rattle.filter_constraints.specs.Constraint.{ConstraintParts}
use Rattle.base_order.specs.Order.{picked}
use Rattle.server_stock.specs.Stock.{Stocked, held_from}
use Rattle.filter_types.specs.Before.{list_before}
use Rattle.filter_text.specs.Messages.{Lists}
use Rattle.server_control.specs.Held.{NetHeld}
use Rattle.server_core.specs.Ledger.{LedgerParts}
use Rattle.server_core.specs.Putting.{held_by}
use Rattle.server_core.proofs.Shown.{IsKnown, subs-shown, advs-shown}
use Rattle.server_core.proofs.Changed.{known-from}
use Rattle.server_core.proofs.Putting.{links-same}
use Rattle.server_core.proofs.ledger.Ledger.held.Goals as goal

pub row_of-requires : goal.row_of-requires
row_of-requires c = c.count-width.ensures ∙ (ap length c.filters-2.ensures ∙ sym (ap (λ (z : Stocked (List ConstraintParts)). length z.items) c.filters-3.ensures ∙ ap length c.self.invariant.filter_items))

pub row_of-requires-2 : goal.row_of-requires-2
row_of-requires-2 c = c.count-width-2.ensures ∙ (ap length c.adverts-2.ensures ∙ sym (ap (λ (z : Stocked (List ConstraintParts)). length z.items) c.adverts-3.ensures ∙ ap length c.self.invariant.advert_items))

pub of-requires-clause-filters : goal.of-requires-clause-filters
of-requires-clause-filters c = c.in_ok-filters.ensures.width ∙ (ap (λ (z : Stocked (List ConstraintParts)). length z.items) c.filters-3.ensures ∙ ap length c.self.invariant.filter_items)

pub of-requires-clause-adverts : goal.of-requires-clause-adverts
of-requires-clause-adverts c = c.in_ok-adverts.ensures.width ∙ (ap (λ (z : Stocked (List ConstraintParts)). length z.items) c.adverts-3.ensures ∙ ap length c.self.invariant.advert_items)

pub returns-clause-held : goal.returns-clause-held
returns-clause-held c =
    let old = c.self.inside.control in
    let was : IsKnown old = known-from old c.filters.result.now c.adverts.result.now c.filters.ensures c.adverts.ensures c.lemma_sound.ensures.held_from c.lemma_sound-2.ensures.held_from in
    let fs = ap (λ (z : Lists). picked z c.in_ok-filters.filters.members) (sym c.self.invariant.filter_items)
    ∙ (ap (λ (z : Stocked (List ConstraintParts)). picked z.items c.in_ok-filters.filters.members) (sym c.filters-3.ensures) ∙ (c.in_ok-filters.ensures.held
    ∙ (ap (λ (z : Stocked (List ConstraintParts)). held_from list_before c.args.interface z.holdings) c.filters-3.ensures ∙ sym (subs-shown old was c.args.interface)))) in
    let os = ap (λ (z : Lists). picked z c.in_ok-adverts.adverts.members) (sym c.self.invariant.advert_items)
    ∙ (ap (λ (z : Stocked (List ConstraintParts)). picked z.items c.in_ok-adverts.adverts.members) (sym c.adverts-3.ensures) ∙ (c.in_ok-adverts.ensures.held
    ∙ (ap (λ (z : Stocked (List ConstraintParts)). held_from list_before c.args.interface z.holdings) c.adverts-3.ensures ∙ sym (advs-shown old was c.args.interface)))) in
    ap (λ (z : NetHeld). z.held) c.of.ensures ∙ (links-same c.args.interface _ _ _ _ fs os ∙ ap (λ (z : LedgerParts). held_by z.control c.args.interface) c.self.view_is)
