use Rattle.std.proofs.Common.{◌≡◌, ◌<◌, ℕ, length, slice_get, Some, sym, ap, subst, ◌∙◌, arith}
use Rattle.filter_types.specs.Before.{list_before}
use Rattle.filter_text.specs.declared.semantics.Semantics.{Semantics}
use Rattle.filter_text.specs.declared.semantics.Semantics.TheVariants.{Advertisement}
use Rattle.filter_text.specs.Messages.{Lists}
use Rattle.server_stock.specs.Sides.{Announced}
use Rattle.server_stock.specs.Stock.{IsAnnounced, held_from}
use Rattle.server_control.specs.Control.{Controlled, Offers, sent_filters}
use Rattle.server_control.proofs.Sent.{adverts-announced, filters-announced, kept-control}
use Rattle.server_control.proofs.control.Control.change_adverts.Goals as goal

pub change-requires-clause-out : goal.change-requires-clause-out
change-requires-clause-out c i h = let r = c.requires in omega (arith, r.out i h, ap (λ (z : Controlled). length z.adverts.items) c.self.view_is)

pub change-requires-clause-add : goal.change-requires-clause-add
change-requires-clause-add c i h = let r = c.requires in omega (arith, r.add i h, ap (λ (z : Controlled). length z.adverts.items) c.self.view_is)

pub offer_wanted-requires-clause-others : goal.offer_wanted-requires-clause-others
offer_wanted-requires-clause-others c p link offered e n f =
    let v = c.self.invariant in
    let items = c.self.inside.filters.items in
    let was = subst (λ (s : Semantics). Offers s (held_from list_before link c.self.inside.adverts.holdings) items offered) c.in-Advertisement.is (v.wanted p link offered e f) in
    subst (λ (z : Lists). Offers Advertisement z items offered) (sym (c.change.ensures.others link n)) was

pub invariant_of-self : goal.invariant_of-self
invariant_of-self c =
    let s = c.change.ensures in
    kept-control c.self.inside.semantics c.self.inside.overlaps.now c.self.inside.filters c.self.inside.adverts c.change.new.self c.self.inside.offered c.in-Subscription.is
    s.interfaces s.links s.items s.offered c.self.invariant

pub returns-in-Subscription-clause-announced : goal.returns-in-Subscription-clause-announced
returns-in-Subscription-clause-announced c =
    adverts-announced c.self.inside.semantics c.self.inside.filters c.self.inside.filters c.self.inside.adverts c.change.new.self c.args.self.now c.self.view_is
    c.self.invariant.all c.lemma_sound-2.ensures.offered c.lemma_sound-2.ensures.held c.lemma_sound-3.ensures.held c.change.ensures.items c.change.ensures.announced

pub returns-in-Advertisement-clause-announced : goal.returns-in-Advertisement-clause-announced
returns-in-Advertisement-clause-announced c =
    adverts-announced c.self.inside.semantics c.self.inside.filters c.offer_wanted.new.filters c.self.inside.adverts c.change.new.self c.args.self.now c.self.view_is
    c.self.invariant.all c.lemma_sound-2.ensures.offered c.lemma_sound-2.ensures.held c.lemma_sound-3.ensures.held c.change.ensures.items c.change.ensures.announced

pub returns-in-Advertisement-clause-filters_announced : goal.returns-in-Advertisement-clause-filters_announced
returns-in-Advertisement-clause-filters_announced c a =
    let semantics = c.self.inside.semantics in
    let old = c.self.inside.filters in
    let adverts = c.self.inside.adverts in
    let now = c.offer_wanted.ensures in
    let is = c.in-Advertisement.is in
    subst (λ (s : Semantics). (p : ℕ) → p < length c.args.self.now.filters.announced → slice_get c.args.self.now.filters.interfaces p ≡ Some c.args.interface
    → (t : Announced) × (slice_get c.offer_wanted.new.filters.announced p ≡ Some t) × IsAnnounced list_before c.args.self.now.filters.items (sent_filters c.args.self.now c.args.interface)
    (sent_filters (record { semantics = s; filters = c.offer_wanted.new.filters; adverts = c.change.new.self }) c.args.interface) t) (sym is)
    (filters-announced old c.offer_wanted.new.filters adverts c.change.new.self c.args.self.now c.args.interface
    (ap (λ (s : Semantics). record { semantics = s; filters = old; adverts = adverts }) (sym is) ∙ c.self.view_is)
    (subst (λ (s : Semantics). (p link : ℕ) (offered : Lists) → slice_get old.interfaces p ≡ Some link → slice_get old.offered p ≡ Some offered
    → Offers s (held_from list_before link adverts.holdings) old.items offered) is c.self.invariant.wanted)
    c.lemma_sound.ensures.offered c.lemma_sound.ensures.held now.holdings now.announced)
