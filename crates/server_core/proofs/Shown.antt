-- A control by numbers and what contracts see of it.
use Rattle.std.proofs.Common.{◌≡◌, ◌≢◌, ◌⊎◌, ◌↔◌, inl, inr, ℕ, ◌<◌, ◌==◌, not, ◌||◌, Bool, true, false, List, [], ◌∷◌, ◌++◌, length, map, filter, take, Some, slice_get, refl, sym, ap, ap₂, subst, ◌∙◌, arith, eqb-true, eq-eqb}
use Rattle.std.specs.List.{flat_map, list_any}
use Rattle.std.proofs.lemmas.Bool.{false_from_ne_true}
use Rattle.filter_constraints.specs.Constraint.{ConstraintParts}
use Rattle.filter_types.specs.Before.{list_before}
use Rattle.filter_types.specs.Cover.{filter_covers, advert_covers, overlaps}
use Rattle.filter_covering.specs.Laws.{sub_laws, ad_laws}
use Rattle.base.specs.Laws.{CoverLaws}
use Rattle.base.specs.Sets.{Has, IsRising, roots}
use Rattle.base.proofs.Sets.{ext, rising-set_of, rising-roots, rising-filter, same_list-self, has-map, map-has, has-flat_map, flat_map-has}
use Rattle.filter_text.specs.Messages.{Lists}
use Rattle.filter_text.specs.declared.semantics.Semantics.{Semantics}
use Rattle.filter_text.specs.declared.semantics.Semantics.TheVariants.{Subscription, Advertisement}
use Rattle.net_model.specs.Real.{real}
use Rattle.server_spec.specs.Holdings.{Holding, held_from, held_elsewhere}
use Rattle.server_spec.specs.Control.{is_wanted, sent, sent_adverts, filter_change, advert_change, changes_to}
use Rattle.server_spec.specs.Control as control
use Rattle.server_spec.proofs.Holdings.{has-where, rising-where}
use Rattle.server_stock.specs.Stock.{Holding as Held, held_from as stock_from, held_elsewhere as stock_elsewhere, IsAnnounced}
use Rattle.server_stock.specs.Sides.{Announced}
use Rattle.server_stock.proofs.Shown.{from-iff, elsewhere-iff}
use Rattle.server_control.specs.Control.{Controlled as Numbered, subs, advs, sent_filters, sent_adverts as numbered_adverts, is_wanted as wants}
use Rattle.server_core.specs.Showing.{holdings_by, shown, AnnouncesFilters, AnnouncesAdverts}
use Rattle.law_routing.proofs.Listing.{some_pass-any}
use Rattle.std.proofs.lemmas.List.{append-nil}

abbrev Pair : Type 0
Pair = Holding (List ConstraintParts)

abbrev at : ℕ → List ConstraintParts → Pair
at i x = record { interface = i; item = x }

-- the pairs of interfaces
module _ (is : List ℕ) (held : ℕ → Lists) where
  by-has : (h : Pair) → Has h (holdings_by is held) → Has h.interface is × Has h.item (held h.interface)
  by-has h m =
      let r = has-flat_map (λ i. map (at i) (held i)) is h m in
      let x = has-map (at r.0) (held r.0) h r.2 in
      let i : h.interface ≡ r.0 = ap (λ (z : Pair). z.interface) x.2 in
      (subst (λ z. Has z is) (sym i) r.1, subst (λ z. Has h.item (held z)) (sym i) (subst (λ z. Has z (held r.0)) (sym (ap (λ (z : Pair). z.item) x.2)) x.1))

  has-by : (i : ℕ) (x : List ConstraintParts) → Has i is → Has x (held i) → Has (at i x) (holdings_by is held)
  has-by i x m h = flat_map-has (λ i. map (at i) (held i)) is i (at i x) m (map-has (at i) (held i) x h)

  -- what is held from an interface
  module _ {covers : List ConstraintParts → List ConstraintParts → Bool} (laws : CoverLaws covers list_before) (rises : (i : ℕ) → IsRising list_before (held i))
      (of : (i : ℕ) (x : List ConstraintParts) → Has x (held i) → Has i is) where
    pub from-by : (i : ℕ) → held_from list_before i (holdings_by is held) ≡ held i
    from-by i = ext laws (held_from list_before i (holdings_by is held)) (held i) (rising-where laws (λ h. h.interface == i) (holdings_by is held)) (rises i) to back
      where
        to : (x : List ConstraintParts) → Has x (held_from list_before i (holdings_by is held)) → Has x (held i)
        to x m =
            let r = (has-where laws (λ h. h.interface == i) (holdings_by is held) x).0 m in
            let w = by-has r.0 r.1 in
            subst (λ z. Has z (held i)) (sym r.3) (subst (λ z. Has r.0.item (held z)) (eqb-true r.0.interface i r.2) w.1)

        back : (x : List ConstraintParts) → Has x (held i) → Has x (held_from list_before i (holdings_by is held))
        back x m = (has-where laws (λ h. h.interface == i) (holdings_by is held) x).1 (at i x, has-by i x (of i x m) m, eq-eqb i i refl, refl)

pub holdings-alike : (is : List ℕ) (f g : ℕ → Lists) → ((i : ℕ) → f i ≡ g i) → holdings_by is f ≡ holdings_by is g
holdings-alike [] f g e = refl
holdings-alike (i ∷ is) f g e = ap₂ (λ xs ys. map (at i) xs ++ ys) (e i) (holdings-alike is f g e)

-- of what a stock holds
module _ {covers : List ConstraintParts → List ConstraintParts → Bool} (laws : CoverLaws covers list_before) (is : List ℕ) (hs : List (Held (List ConstraintParts)))
    (known : (h : Held (List ConstraintParts)) → Has h hs → Has h.interface is) where
  abbrev held : ℕ → Lists
  held i = stock_from list_before i hs

  pub stock-rises : (i : ℕ) → IsRising list_before (held i)
  stock-rises i = rising-set_of laws (map (λ (h : Held (List ConstraintParts)). h.item) (filter (λ h. h.interface == i) hs))

  stock-of : (i : ℕ) (x : List ConstraintParts) → Has x (held i) → Has i is
  stock-of i x m = known (record { interface = i; item = x }) ((from-iff laws i hs x).0 m)

  pub from-shown : (i : ℕ) → held_from list_before i (holdings_by is held) ≡ stock_from list_before i hs
  from-shown i = from-by is held laws stock-rises stock-of i

  pub elsewhere-shown : (link : ℕ) → held_elsewhere list_before link (holdings_by is held) ≡ stock_elsewhere list_before link hs
  elsewhere-shown link = ext laws (held_elsewhere list_before link (holdings_by is held)) (stock_elsewhere list_before link hs) (rising-where laws (λ h. not (h.interface == link)) (holdings_by is held))
      (rising-set_of laws (map (λ (h : Held (List ConstraintParts)). h.item) (filter (λ h. not (h.interface == link)) hs))) to back
    where
      to : (x : List ConstraintParts) → Has x (held_elsewhere list_before link (holdings_by is held)) → Has x (stock_elsewhere list_before link hs)
      to x m =
          let r = (has-where laws (λ h. not (h.interface == link)) (holdings_by is held) x).0 m in
          let w = by-has is held r.0 r.1 in
          (elsewhere-iff laws link hs x).1 (r.0.interface, apart r.0.interface link r.2, subst (λ z. Has (record { interface = r.0.interface; item = z }) hs) (sym r.3) ((from-iff laws r.0.interface hs r.0.item).0 w.1))
        where
          apart : (i j : ℕ) → not (i == j) ≡ true → i ≢ j
          apart i j e q = bad (sym (ap not (eq-eqb i j q)) ∙ e)
            where
              bad : false ≡ true → ⊥
              bad z = cc

      back : (x : List ConstraintParts) → Has x (stock_elsewhere list_before link hs) → Has x (held_elsewhere list_before link (holdings_by is held))
      back x m =
          let r = (elsewhere-iff laws link hs x).0 m in
          (has-where laws (λ h. not (h.interface == link)) (holdings_by is held) x).1
          (at r.0 x, has-by is held r.0 x (known (record { interface = r.0; item = x }) r.2) ((from-iff laws r.0 hs x).1 r.2), ap not (false_from_ne_true (r.0 == link) (λ e. r.1 (eqb-true r.0 link e))), refl)

-- what is held from elsewhere does not ask what the link itself holds
pub elsewhere-alike : {covers : List ConstraintParts → List ConstraintParts → Bool} (laws : CoverLaws covers list_before) (link : ℕ) (hs ks : List (Held (List ConstraintParts)))
    → ((i : ℕ) → i ≢ link → stock_from list_before i ks ≡ stock_from list_before i hs) → stock_elsewhere list_before link ks ≡ stock_elsewhere list_before link hs
elsewhere-alike laws link hs ks same =
    ext laws (stock_elsewhere list_before link ks) (stock_elsewhere list_before link hs) (rises ks) (rises hs) (λ x m. move ks hs x (λ i n. same i n) m) (λ x m. move hs ks x (λ i n. sym (same i n)) m)
  where
    rises : (zs : List (Held (List ConstraintParts))) → IsRising list_before (stock_elsewhere list_before link zs)
    rises zs = rising-set_of laws (map (λ (h : Held (List ConstraintParts)). h.item) (filter (λ h. not (h.interface == link)) zs))

    move : (xs ys : List (Held (List ConstraintParts))) (x : List ConstraintParts) → ((i : ℕ) → i ≢ link → stock_from list_before i xs ≡ stock_from list_before i ys)
        → Has x (stock_elsewhere list_before link xs) → Has x (stock_elsewhere list_before link ys)
    move xs ys x e m =
        let r = (elsewhere-iff laws link xs x).0 m in
        (elsewhere-iff laws link ys x).1 (r.0, r.1, (from-iff laws r.0 ys x).0 (subst (Has x) (e r.0 r.1) ((from-iff laws r.0 xs x).1 r.2)))

wants-is : (semantics : Semantics) (offered : Lists) (f : List ConstraintParts) → is_wanted semantics offered f ≡ wants semantics offered f
wants-is Subscription offered f = refl
wants-is Advertisement offered f = some_pass-any (overlaps f) offered

filter-alike : {T : Type 0} (p q : T → Bool) (xs : List T) → ((x : T) → p x ≡ q x) → filter p xs ≡ filter q xs
filter-alike p q [] e = refl
filter-alike p q (x ∷ xs) e = ap₂ (λ b ys. Rattle.std.proofs.Common.cond b (x ∷ ys) ys) (e x) (filter-alike p q xs e)

-- what a control keeps
pub record IsKnown (c : Numbered) : Type 0 where
  pub filters_of : (h : Held (List ConstraintParts)) → Has h c.filters.holdings → Has h.interface c.filters.interfaces
  pub adverts_of : (h : Held (List ConstraintParts)) → Has h c.adverts.holdings → Has h.interface c.adverts.interfaces

module _ (c : Numbered) (known : IsKnown c) where
  pub subs-shown : (i : ℕ) → control.subs (shown c) i ≡ subs c i
  subs-shown i = from-shown sub_laws c.filters.interfaces c.filters.holdings known.filters_of i

  pub advs-shown : (i : ℕ) → control.advs (shown c) i ≡ advs c i
  advs-shown i = from-shown ad_laws c.adverts.interfaces c.adverts.holdings known.adverts_of i

  pub sent-shown : (link : ℕ) → sent (shown c) link ≡ sent_filters c link
  sent-shown link =
      ap (λ (z : Lists). roots real.covers real.before (filter (is_wanted c.semantics z) (held_elsewhere real.before link (shown c).filters))) (advs-shown link)
      ∙ (ap (roots real.covers real.before) (filter-alike (is_wanted c.semantics (advs c link)) (wants c.semantics (advs c link)) (held_elsewhere real.before link (shown c).filters) (wants-is c.semantics (advs c link)))
      ∙ ap (λ (z : Lists). roots real.covers real.before (filter (wants c.semantics (advs c link)) z)) (elsewhere-shown sub_laws c.filters.interfaces c.filters.holdings known.filters_of link))

  pub adverts-shown : (link : ℕ) → sent_adverts (shown c) link ≡ numbered_adverts c link
  adverts-shown link = ap (roots real.covers_advert real.before_advert) (elsewhere-shown ad_laws c.adverts.interfaces c.adverts.holdings known.adverts_of link)

  pub filters-rise : (link : ℕ) → IsRising list_before (sent_filters c link)
  filters-rise link = rising-roots sub_laws (filter (wants c.semantics (advs c link)) (stock_elsewhere list_before link c.filters.holdings))
      (rising-filter sub_laws (wants c.semantics (advs c link)) (stock_elsewhere list_before link c.filters.holdings)
      (rising-set_of sub_laws (map (λ (h : Held (List ConstraintParts)). h.item) (filter (λ h. not (h.interface == link)) c.filters.holdings))))

  pub adverts-rise : (link : ℕ) → IsRising list_before (numbered_adverts c link)
  adverts-rise link = rising-roots ad_laws (stock_elsewhere list_before link c.adverts.holdings)
      (rising-set_of ad_laws (map (λ (h : Held (List ConstraintParts)). h.item) (filter (λ h. not (h.interface == link)) c.adverts.holdings)))

-- changes of which one part stays
still-filters : (a b : Lists) → a ≡ b → filter_change a b ≡ []
still-filters a b e = ap (λ (z : Lists). filter_change z b) e ∙ go
  where
    go : filter_change b b ≡ []
    go = rw (same_list-self sub_laws b) refl

still-adverts : (a b : Lists) → a ≡ b → advert_change a b ≡ []
still-adverts a b e = ap (λ (z : Lists). advert_change z b) e ∙ go
  where
    go : advert_change b b ≡ []
    go = rw (same_list-self ad_laws b) refl

module _ (old new : Numbered) (was : IsKnown old) (is : IsKnown new) where
  -- a change of filters alone is announced on each link
  pub announces-filters : new.adverts ≡ old.adverts → (link : ℕ) (items : Lists) (t : Announced) → IsAnnounced list_before items (sent_filters old link) (sent_filters new link) t
      → AnnouncesFilters items t (changes_to (shown old) (shown new) link)
  announces-filters same link items t announced = record {
    old = sent_filters old link;
    new = sent_filters new link;
    is_announced = announced;
    old_rising = filters-rise old was link;
    new_rising = filters-rise new is link;
    change = sym (ap₂ (λ xs ys. xs ++ ys) (ap₂ filter_change (sent-shown old was link) (sent-shown new is link))
        (still-adverts (sent_adverts (shown old) link) (sent_adverts (shown new) link) (adverts-shown old was link ∙ (ap (λ z. roots advert_covers list_before (stock_elsewhere list_before link z.holdings)) (sym same) ∙ sym (adverts-shown new is link))))
        ∙ append-nil (filter_change (sent_filters old link) (sent_filters new link)));
  }

  -- a change of advertisements of an interface is announced on filters there
  pub announces-there : (link : ℕ) → ((i : ℕ) → i ≢ link → advs new i ≡ advs old i) → (items : Lists) (t : Announced) → IsAnnounced list_before items (sent_filters old link) (sent_filters new link) t
      → AnnouncesFilters items t (changes_to (shown old) (shown new) link)
  announces-there link others items t announced = record {
    old = sent_filters old link;
    new = sent_filters new link;
    is_announced = announced;
    old_rising = filters-rise old was link;
    new_rising = filters-rise new is link;
    change = sym (ap₂ (λ xs ys. xs ++ ys) (ap₂ filter_change (sent-shown old was link) (sent-shown new is link))
        (still-adverts (sent_adverts (shown old) link) (sent_adverts (shown new) link)
        (adverts-shown old was link ∙ (ap (roots advert_covers list_before) (sym (elsewhere-alike ad_laws link old.adverts.holdings new.adverts.holdings others)) ∙ sym (adverts-shown new is link))))
        ∙ append-nil (filter_change (sent_filters old link) (sent_filters new link)));
  }

  -- and on advertisements elsewhere
  pub announces-elsewhere : (link : ℕ) → new.semantics ≡ old.semantics → advs new link ≡ advs old link → new.filters.holdings ≡ old.filters.holdings → (items : Lists) (t : Announced)
      → IsAnnounced list_before items (numbered_adverts old link) (numbered_adverts new link) t → AnnouncesAdverts items t (changes_to (shown old) (shown new) link)
  announces-elsewhere link semantics same filters items t announced =
      let sent-same : sent_filters old link ≡ sent_filters new link =
      ap (λ z. roots filter_covers list_before (filter (wants z (advs old link)) (stock_elsewhere list_before link old.filters.holdings))) (sym semantics)
      ∙ (ap (λ (z : Lists). roots filter_covers list_before (filter (wants new.semantics z) (stock_elsewhere list_before link old.filters.holdings))) (sym same)
      ∙ ap (λ z. roots filter_covers list_before (filter (wants new.semantics (advs new link)) (stock_elsewhere list_before link z))) (sym filters)) in
      record {
        old = numbered_adverts old link;
        new = numbered_adverts new link;
        is_announced = announced;
        old_rising = adverts-rise old was link;
        new_rising = adverts-rise new is link;
        change = sym (ap₂ (λ xs ys. xs ++ ys) (still-filters (sent (shown old) link) (sent (shown new) link) (sent-shown old was link ∙ (sent-same ∙ sym (sent-shown new is link))))
            (ap₂ advert_change (adverts-shown old was link) (adverts-shown new is link)));
      }
