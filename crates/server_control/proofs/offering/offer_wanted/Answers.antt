use Rattle.std.proofs.Common.{◌≡◌, ◌≢◌, ◌<◌, inl, inr, length, slice_get, Some, refl, sym, ap, subst, ◌∙◌, arith}
use Rattle.std.proofs.lemmas.Bool.{cases_eq}
use Rattle.std.proofs.lemmas.Option.{same_Some}
use Rattle.std.specs.List.{list_any}
use Rattle.filter_covering.specs.Laws.{sub_laws}
use Rattle.filter_types.specs.Before.{list_before}
use Rattle.filter_types.specs.Cover.{filter_covers, overlaps}
use Rattle.base_order.specs.Order.{picked}
use Rattle.base_order.proofs.Over.{get-set-same, get-set-other}
use Rattle.filter_text.specs.declared.semantics.Semantics.TheVariants.{Advertisement}
use Rattle.filter_text.specs.Messages.{Lists}
use Rattle.server_stock.specs.Stock.{held_from, sent}
use Rattle.server_stock.proofs.Turns.{get-within}
use Rattle.server_stock.proofs.Shown.{one-number, one-place}
use Rattle.server_control.specs.Control.{Offers}
use Rattle.server_control.specs.Offering.{IsUnion}
use Rattle.server_control.proofs.Wanted.{overlap-widths, overlaps-long, union-offers}
use Rattle.server_control.proofs.Sent.{sent-is, announced-of-same}
use Rattle.server_control.proofs.offering.offer_wanted.Goals as goal

pub unite-requires-clause-held : goal.unite-requires-clause-held
unite-requires-clause-held c = let r = c.requires in c.in-Some-held.ensures.width ∙ sym (ap length r.rows ∙ overlaps-long c.args.filters.now.items c.args.adverts.now.items)

pub unite-requires-clause-width : goal.unite-requires-clause-width
unite-requires-clause-width c = let r = c.requires in
    λ a l. overlap-widths c.args.filters.now.items c.args.adverts.now.items c.args.overlaps.now r.rows a l ∙ sym (c.clear.ensures.width ∙ r.width)

pub returns-in-Some-held-clause-wanted : goal.returns-in-Some-held-clause-wanted
returns-in-Some-held-clause-wanted c p link offered e f =
    let old = c.args.filters.now in
    let place = c.in-Some.place in
    let here = c.in-Some.ensures.some in
    let now : Lists = picked old.items c.unite.new.row.members in
    let k = c.lemma_sound.ensures in
    let offers : Offers Advertisement (held_from list_before c.args.interface c.args.adverts.now.holdings) old.items now = λ f h.
    union-offers old.items c.args.adverts.now.items sub_laws (one-number sub_laws old.items k.items) c.in-Some-held.held.now.members c.unite.new.row.members
    (subst (λ z. IsUnion c.in-Some-held.held.now.members z c.unite.new.row.members) c.requires.rows c.unite.ensures.union) f h
    ∙ ap (list_any (overlaps f)) c.in-Some-held.ensures.some in
    let there : place < length old.offered = omega (arith, here.0, k.offered) in
    elim (cases_eq p place) [
      | inl q ↦
          let i : link ≡ c.args.interface = same_Some link c.args.interface (sym e ∙ (ap (slice_get old.interfaces) q ∙ here.1)) in
          let o : now ≡ offered = same_Some now offered (sym (get-set-same old.offered place now there) ∙ (ap (λ z. slice_get z place) (sym c.offer.ensures.offered) ∙ (ap (slice_get c.offer.new.self.offered) (sym q) ∙ f))) in
          subst (λ z. Offers Advertisement (held_from list_before z c.args.adverts.now.holdings) old.items offered) (sym i)
          (subst (Offers Advertisement (held_from list_before c.args.interface c.args.adverts.now.holdings) old.items) o offers)
      | inr d ↦
          let n : link ≢ c.args.interface = λ i. d (one-place old.interfaces k.interfaces p place c.args.interface (e ∙ ap Some i) here.1) in
          let was : slice_get old.offered p ≡ Some offered = sym (get-set-other old.offered place p now d) ∙ (ap (λ z. slice_get z p) (sym c.offer.ensures.offered) ∙ f) in
          c.requires.others p link offered e n was
    ]

pub returns-in-Some-held-clause-announced : goal.returns-in-Some-held-clause-announced
returns-in-Some-held-clause-announced c p before l e f =
    let old = c.args.filters.now in
    let place = c.in-Some.place in
    let here = c.in-Some.ensures.some in
    let k = c.lemma_sound.ensures in
    let q : p ≡ place = one-place old.interfaces k.interfaces p place c.args.interface e here.1 in
    let now : Lists = picked old.items c.unite.new.row.members in
    let offers : Offers Advertisement (held_from list_before c.args.interface c.args.adverts.now.holdings) old.items now = λ f h.
    union-offers old.items c.args.adverts.now.items sub_laws (one-number sub_laws old.items k.items) c.in-Some-held.held.now.members c.unite.new.row.members
    (subst (λ z. IsUnion c.in-Some-held.held.now.members z c.unite.new.row.members) c.requires.rows c.unite.ensures.union) f h
    ∙ ap (list_any (overlaps f)) c.in-Some-held.ensures.some in
    let t = c.offer.ensures.announced c.args.interface before here.1 (ap (slice_get old.offered) (sym q) ∙ f) in
    let is = sent-is Advertisement (held_from list_before c.args.interface c.args.adverts.now.holdings) old.items now c.args.interface old.holdings offers k.held in (
      t.0,
      ap (slice_get c.offer.new.self.announced) q ∙ t.1,
      announced-of-same old.items (sent filter_covers list_before before c.args.interface old.holdings)
          (sent filter_covers list_before now c.args.interface old.holdings) (sent filter_covers list_before before c.args.interface old.holdings) _ t.0 refl is t.2,
    )

pub returns-in_default-clause-wanted : goal.returns-in_default-clause-wanted
returns-in_default-clause-wanted c p link offered e f =
    let old = c.args.filters.now in
    let l : p < length old.announced = omega (arith, get-within old.offered p offered f, c.lemma_sound.ensures.offered) in
    c.requires.others p link offered e (λ i. c.in_default.ensures.none p l (e ∙ ap Some i)) f
