use Rattle.std.proofs.Common.{◌≡◌, ◌<◌, ℕ, List, length, slice_get, Some, ap, subst, arith}
use Rattle.base.specs.Sets.{Has}
use Rattle.filter_constraints.specs.Constraint.{ConstraintParts}
use Rattle.filter_types.specs.Before.{list_before}
use Rattle.server_stock.specs.Sides.{Announced}
use Rattle.server_stock.specs.Stock.{Holding, IsAnnounced, held_from}
use Rattle.server_stock.proofs.Turns.{get-some}
use Rattle.server_control.specs.Control.{Controlled, sent_filters}
use Rattle.server_control.proofs.Sent.{sent-is, announced-of-same}
use Rattle.server_control.proofs.control.Control.change_filters.Goals as goal

pub change-requires-clause-out : goal.change-requires-clause-out
change-requires-clause-out c i h = let r = c.requires in omega (arith, r.out i h, ap (λ (z : Controlled). length z.filters.items) c.self.view_is)

pub change-requires-clause-add : goal.change-requires-clause-add
change-requires-clause-add c i h = let r = c.requires in omega (arith, r.add i h, ap (λ (z : Controlled). length z.filters.items) c.self.view_is)

pub returns-clause-announced : goal.returns-clause-announced
returns-clause-announced c =
    let old = c.self.inside.filters in
    let new = c.change.new.self in
    let adverts = c.self.inside.adverts in
    let semantics = c.self.inside.semantics in
    let v = c.self.invariant in
    subst (λ (z : Controlled). (p link : ℕ) → p < length z.filters.announced → slice_get z.filters.interfaces p ≡ Some link → (x : Announced) × (slice_get new.announced p ≡ Some x)
    × IsAnnounced list_before z.filters.items (sent_filters z link) (sent_filters (record { semantics = semantics; filters = new; adverts = adverts }) link) x) c.self.view_is
    (λ p link l e.
    let o = get-some old.offered p (omega (arith, l, c.lemma_sound.ensures.offered)) in
    let offers = v.wanted p link o.0 e o.1 in
    let advs = held_from list_before link adverts.holdings in
    let t = c.change.ensures.announced p link o.0 e o.1 in
    let was = sent-is semantics advs old.items o.0 link old.holdings offers c.lemma_sound.ensures.held in
    let now = sent-is semantics advs old.items o.0 link new.holdings offers (λ (h : Holding (List ConstraintParts)) m. subst (Has h.item) c.change.ensures.items (c.lemma_sound-2.ensures.held h m)) in (
      t.0,
      t.1,
      announced-of-same old.items _ _ (sent_filters (record { semantics = semantics; filters = old; adverts = adverts }) link)
          (sent_filters (record { semantics = semantics; filters = new; adverts = adverts }) link) t.0 was now t.2,
    ))
