-- What is sent on a link, where what is offered there is what is wanted.
use Rattle.std.proofs.Common.{◌≡◌, inl, inr, ℕ, ◌<◌, Bool, true, false, List, [], ◌∷◌, length, filter, slice_get, Some, refl, ap, subst, sym, ◌∙◌, arith}
use Rattle.base.specs.Sets.{Has, member, roots}
use Rattle.base.proofs.Sets.{member-iff}
use Rattle.filter_constraints.specs.Constraint.{ConstraintParts}
use Rattle.filter_types.specs.Cover.{filter_covers, advert_covers}
use Rattle.filter_types.specs.Before.{list_before}
use Rattle.filter_text.specs.declared.semantics.Semantics.{Semantics}
use Rattle.filter_text.specs.declared.semantics.Semantics.TheVariants.{Subscription, Advertisement}
use Rattle.filter_text.specs.Messages.{Lists}
use Rattle.filter_covering.specs.Laws.{sub_laws, ad_laws}
use Rattle.server_stock.specs.Sides.{Announced}
use Rattle.server_stock.specs.Stock.{Stocked, Holding, held_from, held_elsewhere, sent, IsAnnounced}
use Rattle.server_stock.proofs.Shown.{elsewhere-iff}
use Rattle.server_stock.proofs.Turns.{get-some}
use Rattle.base_bits.specs.Rows.{Numbers}
use Rattle.net_tables.specs.Related.{overlap_rows}
use Rattle.server_control.specs.Control.{Controlled, IsControl, is_wanted, Offers, sent_filters, sent_adverts}
use Rattle.base.proofs.Lists.{filter-same, filter-all}

-- what is held from elsewhere is among the items
elsewhere-known : (items : Lists) (link : ℕ) (holdings : List (Holding (List ConstraintParts))) → ((h : Holding (List ConstraintParts)) → Has h holdings → Has h.item items)
    → (x : List ConstraintParts) → Has x (held_elsewhere list_before link holdings) → Has x items
elsewhere-known items link holdings known x h =
    let r = (elsewhere-iff sub_laws link holdings x).0 h in
    known (record { interface = r.0; item = x }) r.2

pub sent-is : (semantics : Semantics) (adverts items offered : Lists) (link : ℕ) (holdings : List (Holding (List ConstraintParts))) → Offers semantics adverts items offered
    → ((h : Holding (List ConstraintParts)) → Has h holdings → Has h.item items)
    → sent filter_covers list_before offered link holdings ≡ roots filter_covers list_before (filter (is_wanted semantics adverts) (held_elsewhere list_before link holdings))
sent-is semantics adverts items offered link holdings offers known =
    ap (roots filter_covers list_before) (filter-same (λ x. member list_before x offered) (is_wanted semantics adverts) (held_elsewhere list_before link holdings)
    (λ x h. offers x (elsewhere-known items link holdings known x h)))

-- where all advertisements are offered
pub sent-all : (items offered : Lists) (link : ℕ) (holdings : List (Holding (List ConstraintParts))) → offered ≡ items
    → ((h : Holding (List ConstraintParts)) → Has h holdings → Has h.item items)
    → sent advert_covers list_before offered link holdings ≡ roots advert_covers list_before (held_elsewhere list_before link holdings)
sent-all items offered link holdings all known =
    ap (roots advert_covers list_before) (filter-all (λ x. member list_before x offered) (held_elsewhere list_before link holdings)
    (λ x h. (member-iff ad_laws x offered).1 (subst (Has x) (sym all) (elsewhere-known items link holdings known x h))))

-- what is announced of equal sets
pub announced-of-same : (items a b c d : Lists) (announced : Announced) → a ≡ c → b ≡ d → IsAnnounced list_before items a b announced → IsAnnounced list_before items c d announced
announced-of-same items a b c d announced p q is = subst (λ (x : Lists). IsAnnounced list_before items x d announced) p (subst (λ (y : Lists). IsAnnounced list_before items a y announced) q is)

-- what is announced of advertisements
pub adverts-announced : (semantics : Semantics) (filters then : Stocked (List ConstraintParts)) (old new : Stocked (List ConstraintParts)) (now : Controlled)
    → record { semantics = semantics; filters = filters; adverts = old } ≡ now
    → ((p : ℕ) (offered : Lists) → slice_get old.offered p ≡ Some offered → offered ≡ old.items) → length old.offered ≡ length old.announced
    → ((h : Holding (List ConstraintParts)) → Has h old.holdings → Has h.item old.items) → ((h : Holding (List ConstraintParts)) → Has h new.holdings → Has h.item new.items)
    → new.items ≡ old.items
    → ((p link : ℕ) (offered : Lists) → slice_get old.interfaces p ≡ Some link → slice_get old.offered p ≡ Some offered
    → (t : Announced) × (slice_get new.announced p ≡ Some t) × IsAnnounced list_before old.items (sent advert_covers list_before offered link old.holdings) (sent advert_covers list_before offered link new.holdings) t)
    → (p link : ℕ) → p < length now.adverts.announced → slice_get now.adverts.interfaces p ≡ Some link
    → (t : Announced) × (slice_get new.announced p ≡ Some t) × IsAnnounced list_before now.adverts.items (sent_adverts now link)
    (sent_adverts (record { semantics = semantics; filters = then; adverts = new }) link) t
adverts-announced semantics filters then old new now view all long known known-now same announced =
    subst (λ (z : Controlled). (p link : ℕ) → p < length z.adverts.announced → slice_get z.adverts.interfaces p ≡ Some link → (t : Announced) × (slice_get new.announced p ≡ Some t)
    × IsAnnounced list_before z.adverts.items (sent_adverts z link) (sent_adverts (record { semantics = semantics; filters = then; adverts = new }) link) t) view each
  where
    each : (p link : ℕ) → p < length old.announced → slice_get old.interfaces p ≡ Some link → (t : Announced) × (slice_get new.announced p ≡ Some t)
        × IsAnnounced list_before old.items (roots advert_covers list_before (held_elsewhere list_before link old.holdings)) (roots advert_covers list_before (held_elsewhere list_before link new.holdings)) t
    each p link l e =
        let o = get-some old.offered p (omega (arith, l, long)) in
        let t = announced p link o.0 e o.1 in
        let is = all p o.0 o.1 in (
          t.0,
          t.1,
          announced-of-same old.items (sent advert_covers list_before o.0 link old.holdings) (sent advert_covers list_before o.0 link new.holdings)
              (roots advert_covers list_before (held_elsewhere list_before link old.holdings)) (roots advert_covers list_before (held_elsewhere list_before link new.holdings)) t.0
              (sent-all old.items o.0 link old.holdings is known)
              (sent-all old.items o.0 link new.holdings is (λ h m. subst (Has h.item) same (known-now h m))) t.2,
        )

-- under subscription semantics all stays as it is wanted
pub kept-control : (semantics : Semantics) (overlaps : List Numbers) (filters old new : Stocked (List ConstraintParts)) (scratch : Numbers) → semantics ≡ Subscription
    → new.interfaces ≡ old.interfaces → length new.announced ≡ length old.announced → new.items ≡ old.items → new.offered ≡ old.offered
    → IsControl semantics overlaps filters old scratch → IsControl semantics overlaps filters new scratch
kept-control semantics overlaps filters old new scratch sub i l s o v = record {
  interfaces = i ∙ v.interfaces;
  links = l ∙ v.links;
  rows = v.rows ∙ ap (overlap_rows filters.items) (sym s);
  width = v.width;
  wanted = λ p link offered e f.
      subst (λ (z : Semantics). Offers z (held_from list_before link new.holdings) filters.items offered) (sym sub)
      (subst (λ (z : Semantics). Offers z (held_from list_before link old.holdings) filters.items offered) sub (v.wanted p link offered e f));
  all = λ p offered f. v.all p offered (ap (λ (z : List Lists). slice_get z p) (sym o) ∙ f) ∙ sym s;
}

-- what is sent on the link of an interface of which these advertisements are held
abbrev now_sent : ℕ → Stocked (List ConstraintParts) → List (Holding (List ConstraintParts)) → Lists
now_sent interface adverts holdings =
    roots filter_covers list_before (filter (is_wanted Advertisement (held_from list_before interface adverts.holdings)) (held_elsewhere list_before interface holdings))

-- what is announced of the filters on the link of an interface whose advertisements changed
pub filters-announced : (filters then : Stocked (List ConstraintParts)) (adverts new : Stocked (List ConstraintParts)) (now : Controlled) (interface : ℕ)
    → record { semantics = Advertisement; filters = filters; adverts = adverts } ≡ now
    → ((p link : ℕ) (offered : Lists) → slice_get filters.interfaces p ≡ Some link → slice_get filters.offered p ≡ Some offered
    → Offers Advertisement (held_from list_before link adverts.holdings) filters.items offered)
    → length filters.offered ≡ length filters.announced → ((h : Holding (List ConstraintParts)) → Has h filters.holdings → Has h.item filters.items)
    → then.holdings ≡ filters.holdings
    → ((p : ℕ) (before : Lists) → p < length filters.announced → slice_get filters.interfaces p ≡ Some interface → slice_get filters.offered p ≡ Some before
    → (t : Announced) × (slice_get then.announced p ≡ Some t) × IsAnnounced list_before filters.items (sent filter_covers list_before before interface filters.holdings)
    (roots filter_covers list_before (filter (is_wanted Advertisement (held_from list_before interface new.holdings)) (held_elsewhere list_before interface filters.holdings))) t)
    → (p : ℕ) → p < length now.filters.announced → slice_get now.filters.interfaces p ≡ Some interface
    → (t : Announced) × (slice_get then.announced p ≡ Some t) × IsAnnounced list_before now.filters.items (sent_filters now interface)
    (sent_filters (record { semantics = Advertisement; filters = then; adverts = new }) interface) t
filters-announced filters then adverts new now interface view wanted long known held announced =
    subst (λ (z : Controlled). (p : ℕ) → p < length z.filters.announced → slice_get z.filters.interfaces p ≡ Some interface → (t : Announced) × (slice_get then.announced p ≡ Some t)
    × IsAnnounced list_before z.filters.items (sent_filters z interface) (sent_filters (record { semantics = Advertisement; filters = then; adverts = new }) interface) t) view each
  where
    each : (p : ℕ) → p < length filters.announced → slice_get filters.interfaces p ≡ Some interface → (t : Announced) × (slice_get then.announced p ≡ Some t)
        × IsAnnounced list_before filters.items (sent_filters (record { semantics = Advertisement; filters = filters; adverts = adverts }) interface)
        (sent_filters (record { semantics = Advertisement; filters = then; adverts = new }) interface) t
    each p l e =
        let o = get-some filters.offered p (omega (arith, l, long)) in
        let t = announced p o.0 l e o.1 in (
          t.0,
          t.1,
          announced-of-same filters.items (sent filter_covers list_before o.0 interface filters.holdings) (now_sent interface new filters.holdings)
              (sent_filters (record { semantics = Advertisement; filters = filters; adverts = adverts }) interface) (now_sent interface new then.holdings) t.0
              (sent-is Advertisement (held_from list_before interface adverts.holdings) filters.items o.0 interface filters.holdings (wanted p interface o.0 e o.1) known)
              (ap (now_sent interface new) (sym held)) t.2,
        )
