-- A change of what an interface holds: what of the ledger stays, what is pending, and what is sent.
use Rattle.std.proofs.Common.{◌^◌, ◌≡◌, ◌≢◌, inl, inr, ℕ, zero, suc, ◌<◌, ◌||◌, not, true, List, [], ◌∷◌, ◌++◌, length, map, take, slice_get, Some, refl, sym, ap, subst, ◌∙◌, arith}
use Rattle.std.proofs.lemmas.Bool.{cases_eq, false≢true}
use Rattle.filter_constraints.specs.Constraint.{ConstraintParts}
use Rattle.filter_types.specs.Before.{list_before}
use Rattle.base.specs.Sets.{Has, IsRising, union, minus, same_list}
use Rattle.filter_covering.specs.Laws.{sub_laws, ad_laws}
use Rattle.base_order.specs.Order.{picked}
use Rattle.filter_text.specs.Messages.{Lists}
use Rattle.filter_text.specs.declared.semantics.Semantics.{Semantics}
use Rattle.filter_text.specs.declared.semantics.Semantics.TheVariants.{Subscription, Advertisement}
use Rattle.net_model.specs.Parts.{NetParts}
use Rattle.net_tables.specs.Known.{known_filters, known_adverts}
use Rattle.server_spec.specs.Holdings.{Holding, held_from}
use Rattle.server_spec.specs.Control.{Controlled, changes_to, by_adverts}
use Rattle.server_spec.specs.Control as control
use Rattle.server_stock.specs.Stock.{Stocked, Holding as Held, IsAnnounced, held_from as stock_from}
use Rattle.server_stock.specs.Sides.{Announced}
use Rattle.server_control.specs.Control.{Controlled as Numbered, subs, advs, sent_filters, sent_adverts}
use Rattle.match_routes.specs.declared.table_change.TableChange.{TableChange}
use Rattle.match_routes.specs.declared.table_change.TableChange.TheVariants.{Put, Take}
use Rattle.server_message.specs.Parts.{SendingParts, sent_by}
use Rattle.server_core.specs.Due.{IsHeldAt}
use Rattle.server_core.specs.Ledger.{LedgerParts, FiltersSet, AdvertsSet}
use Rattle.server_core.specs.Pending.{IsPending}
use Rattle.server_core.specs.Showing.{shown, holdings_by, AnnouncesFilters, AnnouncesAdverts}
use Rattle.server_core.specs.Keeps.{IsLedger}
use Rattle.server_core.proofs.Sieving.{Sieved}
use Rattle.server_core.proofs.Shown.{IsKnown, subs-shown, advs-shown, announces-filters, announces-there, announces-elsewhere, holdings-alike, stock-rises}
use Rattle.server_core.proofs.Turned.{pending-more, pending-none, changed-alike, taken-back, flag-pending}

-- a place among the first ones
pub among-first : {A : Type 0} (xs : List A) (n p : ℕ) (x : A) → slice_get (take n xs) p ≡ Some x → (p < n) × (slice_get xs p ≡ Some x)
among-first [] n p x e = go n p e
  where
    go : (n p : ℕ) → slice_get (take n []) p ≡ Some x → (p < n) × (slice_get [] p ≡ Some x)
    go zero zero q = cc
    go zero (suc j) q = cc
    go (suc m) zero q = cc
    go (suc m) (suc j) q = cc
among-first (y ∷ xs) zero p x e = cc
among-first (y ∷ xs) (suc n) zero x e = (omega (arith), e)
among-first (y ∷ xs) (suc n) (suc p) x e = let r = among-first xs n p x e in (omega (arith, r.0), r.1)

-- parts that are the same
abbrev parts : Semantics → List ℕ → List (Holding (List ConstraintParts)) → List (Holding (List ConstraintParts)) → Controlled
parts semantics links filters adverts = record { semantics = semantics; links = links; filters = filters; adverts = adverts }

controls-same : (s t : Semantics) (k l : List ℕ) (f g a b : List (Holding (List ConstraintParts))) → s ≡ t → k ≡ l → f ≡ g → a ≡ b → parts s k f a ≡ parts t l g b
controls-same s t k l f g a b d e h i = ap (λ z. parts z k f a) d ∙ (ap (λ z. parts t z f a) e ∙ (ap (λ z. parts t l z a) h ∙ ap (λ z. parts t l g z) i))

-- what a change of an interface's filters does to a control
pub record AreFiltersChanged (interface : ℕ) (out add : List ℕ) (old new : Numbered) : Type 0 where
  pub semantics : new.semantics ≡ old.semantics
  pub adverts : new.adverts ≡ old.adverts
  pub items : new.filters.items ≡ old.filters.items
  pub interfaces : new.filters.interfaces ≡ old.filters.interfaces
  pub links : length new.filters.announced ≡ length old.filters.announced
  pub held : subs new interface ≡ union list_before (picked old.filters.items add) (minus list_before (subs old interface) (picked old.filters.items out))
  pub others : (i : ℕ) → i ≢ interface → subs new i ≡ subs old i
  pub announced : (p link : ℕ) → p < length old.filters.announced → slice_get old.filters.interfaces p ≡ Some link
      → (t : Announced) × (slice_get new.filters.announced p ≡ Some t) × IsAnnounced list_before old.filters.items (sent_filters old link) (sent_filters new link) t

module _ (net : NetParts) (links : List ℕ) (old installed : Numbered) (pending : List TableChange) (is : IsLedger net links old installed pending) (was : IsKnown old)
    (rising : IsRising list_before old.filters.items) (interface : ℕ) (there : Has interface old.filters.interfaces) (out add lost won : List ℕ)
    (out-known : (i : ℕ) → Has i out → i < length old.filters.items) (add-known : (i : ℕ) → Has i add → i < length old.filters.items) (apart : (i : ℕ) → Has i out → Has i add → ⊥)
    (lost-are : Sieved (λ k. IsHeldAt old.filters.items (subs old interface) k) out lost) (won-are : Sieved (λ k. IsHeldAt old.filters.items (subs old interface) k → ⊥) add won) where
  pub lost-known : (i : ℕ) → Has i lost → i < length old.filters.items
  lost-known i h = out-known i ((lost-are i).0 h).0

  pub won-known : (i : ℕ) → Has i won → i < length old.filters.items
  won-known i h = add-known i ((won-are i).0 h).0

  old-rises : IsRising list_before (subs old interface)
  old-rises = stock-rises sub_laws old.filters.interfaces old.filters.holdings was.filters_of interface

  module _ (new : Numbered) (now : IsKnown new) (changed : AreFiltersChanged interface lost won old new) where
    abbrev more : List TableChange
    more = pending ++ (map (λ i. Take i interface) lost ++ map (λ i. Put i interface) won)

    same-links : take (length new.filters.announced) new.filters.interfaces ≡ take (length old.filters.announced) old.filters.interfaces
    same-links = ap (λ n. take n new.filters.interfaces) changed.links ∙ ap (take (length old.filters.announced)) changed.interfaces

    pub kept : IsLedger net links new installed more
    kept = record {
      links_are = is.links_are ∙ sym same-links;
      semantics = λ on. changed.semantics ∙ is.semantics (ap by_adverts (sym changed.semantics) ∙ on);
      filter_items = changed.items ∙ is.filter_items;
      advert_items = ap (λ z. z.items) changed.adverts ∙ is.advert_items;
      few = subst (λ z. length z < 2 ^ 32) (sym changed.interfaces) is.few;
      same_interfaces = ap (λ z. z.interfaces) changed.adverts ∙ (is.same_interfaces ∙ sym changed.interfaces);
      same_links = ap (λ z. length z.announced) changed.adverts ∙ (is.same_links ∙ sym changed.links);
      changes = subst (λ z. IsPending (known_filters net.clients) z (λ i. held_from list_before i (shown installed).filters) (λ i. held_from list_before i (shown new).filters) more) (sym changed.interfaces)
          (subst (λ z. IsPending z old.filters.interfaces (λ i. held_from list_before i (shown installed).filters) (λ i. held_from list_before i (shown new).filters) more) is.filter_items
          (pending-more old.filters.items rising old.filters.interfaces interface there lost won lost-known won-known (λ i. held_from list_before i (shown installed).filters)
          (λ i. held_from list_before i (shown old).filters) (λ i. held_from list_before i (shown new).filters)
          (subs-shown new now interface ∙ (changed.held ∙ ap (λ z. union list_before (picked old.filters.items won) (minus list_before z (picked old.filters.items lost))) (sym (subs-shown old was interface))))
          (λ i n. subs-shown new now i ∙ (changed.others i n ∙ sym (subs-shown old was i))) pending
          (subst (λ z. IsPending z old.filters.interfaces (λ i. held_from list_before i (shown installed).filters) (λ i. held_from list_before i (shown old).filters) pending) (sym is.filter_items) is.changes)));
    }

    pub set : (sent : List SendingParts) → sent ≡ sent_by net (changes_to (shown old) (shown new)) links
        → FiltersSet interface (picked (known_filters net.clients) out) (picked (known_filters net.clients) add)
        (record { net = net; interfaces = old.filters.interfaces; control = shown old; installed = (shown installed).filters; pending = pending })
        (record { net = net; interfaces = new.filters.interfaces; control = shown new; installed = (shown installed).filters; pending = more }) sent
    set sent are = record {
      net = refl;
      held = subs-shown new now interface ∙ (changed.held ∙ (changed-alike sub_laws old.filters.items rising (subs old interface) old-rises out add lost won lost-are won-are apart
          ∙ (ap (λ z. union list_before (picked old.filters.items add) (minus list_before z (picked old.filters.items out))) (sym (subs-shown old was interface))
          ∙ ap (λ z. union list_before (picked z add) (minus list_before (control.subs (shown old) interface) (picked z out))) is.filter_items)));
      others = λ i n. subs-shown new now i ∙ (changed.others i n ∙ sym (subs-shown old was i));
      offered = ap (λ z. holdings_by z.interfaces (λ i. stock_from list_before i z.holdings)) changed.adverts;
      semantics = changed.semantics;
      links = same-links;
      installed = refl;
      pending = flag-pending old.filters.items (subs old interface) (subs new interface) out add lost won lost-are won-are won-known changed.held old-rises
          (λ i l w. apart i ((lost-are i).0 l).0 ((won-are i).0 w).0) rising interface pending
          ∙ ap (λ b. Rattle.server_core.specs.Pending.is_some_there pending || not b) (sym (ap (λ z. same_list list_before z (control.subs (shown new) interface)) (subs-shown old was interface)
          ∙ ap (same_list list_before (subs old interface)) (subs-shown new now interface)));
      sent_are = are ∙ ap (sent_by net (changes_to (shown old) (shown new))) is.links_are;
    }

    pub announces : (p link : ℕ) (t : Announced) → slice_get links p ≡ Some link → slice_get new.filters.announced p ≡ Some t → AnnouncesFilters new.filters.items t (changes_to (shown old) (shown new) link)
    announces p link t e f =
        let r = among-first old.filters.interfaces (length old.filters.announced) p link (subst (λ z. slice_get z p ≡ Some link) is.links_are e) in
        let w = changed.announced p link r.0 r.1 in
        announces-filters old new was now changed.adverts link new.filters.items t
        (subst (λ z. IsAnnounced list_before z (sent_filters old link) (sent_filters new link) t) (sym changed.items)
        (subst (λ z. IsAnnounced list_before old.filters.items (sent_filters old link) (sent_filters new link) z) (Rattle.std.proofs.lemmas.Option.same_Some w.0 t (sym w.1 ∙ f)) w.2))

    -- taken back
    module _ (back : Numbered) (then : IsKnown back) (undone : AreFiltersChanged interface won lost new back) where
      back-subs : (i : ℕ) → subs back i ≡ subs old i
      back-subs i = elim (cases_eq i interface) [
        | inl q ↦ subst (λ z. subs back z ≡ subs old z) (sym q) (undone.held
            ∙ (ap (λ z. union list_before (picked z lost) (minus list_before (subs new interface) (picked z won))) changed.items
            ∙ (ap (λ z. union list_before (picked old.filters.items lost) (minus list_before z (picked old.filters.items won))) changed.held
            ∙ taken-back sub_laws old.filters.items rising (subs old interface) old-rises out add lost won lost-are won-are)))
        | inr n ↦ undone.others i n ∙ changed.others i n
      ]

      same-interfaces : back.filters.interfaces ≡ old.filters.interfaces
      same-interfaces = undone.interfaces ∙ changed.interfaces

      same-announced : length back.filters.announced ≡ length old.filters.announced
      same-announced = undone.links ∙ changed.links

      pub as-before : shown back ≡ shown old
      as-before = controls-same back.semantics old.semantics (take (length back.filters.announced) back.filters.interfaces) (take (length old.filters.announced) old.filters.interfaces)
          (holdings_by back.filters.interfaces (subs back)) (holdings_by old.filters.interfaces (subs old)) (holdings_by back.adverts.interfaces (advs back)) (holdings_by old.adverts.interfaces (advs old))
          (undone.semantics ∙ changed.semantics) (ap (λ n. take n back.filters.interfaces) same-announced ∙ ap (take (length old.filters.announced)) same-interfaces)
          (ap (λ z. holdings_by z (subs back)) same-interfaces ∙ holdings-alike old.filters.interfaces (subs back) (subs old) back-subs)
          (ap (λ z. holdings_by z.interfaces (λ i. stock_from list_before i z.holdings)) (undone.adverts ∙ changed.adverts))

      pub kept-back : IsLedger net links back installed pending
      kept-back = record {
        links_are = is.links_are ∙ sym (ap (λ n. take n back.filters.interfaces) same-announced ∙ ap (take (length old.filters.announced)) same-interfaces);
        semantics = λ on. undone.semantics ∙ (changed.semantics ∙ is.semantics (ap by_adverts (sym (undone.semantics ∙ changed.semantics)) ∙ on));
        filter_items = undone.items ∙ (changed.items ∙ is.filter_items);
        advert_items = ap (λ z. z.items) (undone.adverts ∙ changed.adverts) ∙ is.advert_items;
        few = subst (λ z. length z < 2 ^ 32) (sym same-interfaces) is.few;
        same_interfaces = ap (λ z. z.interfaces) (undone.adverts ∙ changed.adverts) ∙ (is.same_interfaces ∙ sym same-interfaces);
        same_links = ap (λ z. length z.announced) (undone.adverts ∙ changed.adverts) ∙ (is.same_links ∙ sym same-announced);
        changes = subst (λ z. IsPending (known_filters net.clients) z (λ i. held_from list_before i (shown installed).filters) (λ i. held_from list_before i (shown back).filters) pending) (sym same-interfaces)
            (subst (λ (z : Controlled). IsPending (known_filters net.clients) old.filters.interfaces (λ i. held_from list_before i (shown installed).filters) (λ i. held_from list_before i z.filters) pending) (sym as-before) is.changes);
      }

-- what is known of a control whose stocks are these
pub known-from : (c : Numbered) (f a : Stocked (List ConstraintParts)) → f ≡ c.filters → a ≡ c.adverts → ((h : Held (List ConstraintParts)) → Has h f.holdings → Has h.interface f.interfaces)
    → ((h : Held (List ConstraintParts)) → Has h a.holdings → Has h.interface a.interfaces) → IsKnown c
known-from c f a d e x y = record {
  filters_of = subst (λ (z : Stocked (List ConstraintParts)). (h : Held (List ConstraintParts)) → Has h z.holdings → Has h.interface z.interfaces) d x;
  adverts_of = subst (λ (z : Stocked (List ConstraintParts)). (h : Held (List ConstraintParts)) → Has h z.holdings → Has h.interface z.interfaces) e y;
}

-- the numbers that were asked about, of a stock
pub sieved-of : (P : List (List ConstraintParts) → List (List ConstraintParts) → ℕ → Type 0) (interface : ℕ) (seen list : List ℕ) (f g : Stocked (List ConstraintParts)) → f ≡ g
    → Sieved (λ k. P f.items (stock_from list_before interface f.holdings) k) seen list → Sieved (λ k. P g.items (stock_from list_before interface g.holdings) k) seen list
sieved-of P interface seen list f g e s = subst (λ (z : Stocked (List ConstraintParts)). Sieved (λ k. P z.items (stock_from list_before interface z.holdings) k) seen list) e s

-- numbers handed over are those meant
pub filters-by : (interface : ℕ) (out out2 add add2 : List ℕ) (old new : Numbered) → out ≡ out2 → add ≡ add2 → AreFiltersChanged interface out add old new → AreFiltersChanged interface out2 add2 old new
filters-by interface out out2 add add2 old new d e h = subst (λ z. AreFiltersChanged interface z add2 old new) d (subst (λ z. AreFiltersChanged interface out z old new) e h)

-- ledgers that are the same
abbrev ledger : NetParts → List ℕ → Controlled → List (Holding (List ConstraintParts)) → List TableChange → LedgerParts
ledger net interfaces control installed pending = record { net = net; interfaces = interfaces; control = control; installed = installed; pending = pending }

pub ledgers-same : (net : NetParts) (is js : List ℕ) (c d : Controlled) (installed : List (Holding (List ConstraintParts))) (s t : List TableChange) → is ≡ js → c ≡ d → s ≡ t
    → ledger net is c installed s ≡ ledger net js d installed t
ledgers-same net is js c d installed s t x y z = ap (λ w. ledger net w c installed s) x ∙ (ap (λ w. ledger net js w installed s) y ∙ ap (λ w. ledger net js d installed w) z)

-- what a change of an interface's advertisements does to a control
pub record AreAdvertsChanged (interface : ℕ) (out add : List ℕ) (old new : Numbered) : Type 0 where
  pub semantics : new.semantics ≡ old.semantics
  pub items : new.adverts.items ≡ old.adverts.items
  pub interfaces : new.adverts.interfaces ≡ old.adverts.interfaces
  pub links : length new.adverts.announced ≡ length old.adverts.announced
  pub held : advs new interface ≡ union list_before (picked old.adverts.items add) (minus list_before (advs old interface) (picked old.adverts.items out))
  pub others : (i : ℕ) → i ≢ interface → advs new i ≡ advs old i
  pub filter_items : new.filters.items ≡ old.filters.items
  pub filter_interfaces : new.filters.interfaces ≡ old.filters.interfaces
  pub filter_links : length new.filters.announced ≡ length old.filters.announced
  pub filters : new.filters.holdings ≡ old.filters.holdings
  pub announced : (p link : ℕ) → p < length old.adverts.announced → slice_get old.adverts.interfaces p ≡ Some link
      → (t : Announced) × (slice_get new.adverts.announced p ≡ Some t) × IsAnnounced list_before old.adverts.items (sent_adverts old link) (sent_adverts new link) t
  pub filters_announced : old.semantics ≡ Advertisement → (p : ℕ) → p < length old.filters.announced → slice_get old.filters.interfaces p ≡ Some interface
      → (t : Announced) × (slice_get new.filters.announced p ≡ Some t) × IsAnnounced list_before old.filters.items (sent_filters old interface) (sent_filters new interface) t

pub adverts-by : (interface : ℕ) (out out2 add add2 : List ℕ) (old new : Numbered) → out ≡ out2 → add ≡ add2 → AreAdvertsChanged interface out add old new → AreAdvertsChanged interface out2 add2 old new
adverts-by interface out out2 add add2 old new d e h = subst (λ z. AreAdvertsChanged interface z add2 old new) d (subst (λ z. AreAdvertsChanged interface out z old new) e h)

pub known-then : (old new : Numbered) (a : Stocked (List ConstraintParts)) → IsKnown old → new.filters.interfaces ≡ old.filters.interfaces → new.filters.holdings ≡ old.filters.holdings → a ≡ new.adverts
    → ((h : Held (List ConstraintParts)) → Has h a.holdings → Has h.interface a.interfaces) → IsKnown new
known-then old new a was d e i y = record {
  filters_of = λ h m. subst (Has h.interface) (sym d) (was.filters_of h (subst (Has h) e m));
  adverts_of = subst (λ (z : Stocked (List ConstraintParts)). (h : Held (List ConstraintParts)) → Has h z.holdings → Has h.interface z.interfaces) i y;
}

is-advertisement : (s : Semantics) → by_adverts s ≡ true → s ≡ Advertisement
is-advertisement Subscription e = cc
is-advertisement Advertisement e = refl

module _ (net : NetParts) (links : List ℕ) (old installed : Numbered) (pending : List TableChange) (is : IsLedger net links old installed pending) (was : IsKnown old)
    (rising : IsRising list_before old.adverts.items) (interface : ℕ) (out add lost won : List ℕ)
    (out-known : (i : ℕ) → Has i out → i < length old.adverts.items) (add-known : (i : ℕ) → Has i add → i < length old.adverts.items) (apart : (i : ℕ) → Has i out → Has i add → ⊥)
    (lost-are : Sieved (λ k. IsHeldAt old.adverts.items (advs old interface) k) out lost) (won-are : Sieved (λ k. IsHeldAt old.adverts.items (advs old interface) k → ⊥) add won) where
  pub lost-ads : (i : ℕ) → Has i lost → i < length old.adverts.items
  lost-ads i h = out-known i ((lost-are i).0 h).0

  pub won-ads : (i : ℕ) → Has i won → i < length old.adverts.items
  won-ads i h = add-known i ((won-are i).0 h).0

  ads-rise : IsRising list_before (advs old interface)
  ads-rise = stock-rises ad_laws old.adverts.interfaces old.adverts.holdings was.adverts_of interface

  module _ (new : Numbered) (now : IsKnown new) (changed : AreAdvertsChanged interface lost won old new) where
    still-links : take (length new.filters.announced) new.filters.interfaces ≡ take (length old.filters.announced) old.filters.interfaces
    still-links = ap (λ n. take n new.filters.interfaces) changed.filter_links ∙ ap (take (length old.filters.announced)) changed.filter_interfaces

    still-held : (shown new).filters ≡ (shown old).filters
    still-held = ap (λ z. holdings_by z (subs new)) changed.filter_interfaces ∙ ap (λ z. holdings_by old.filters.interfaces (λ i. stock_from list_before i z)) changed.filters

    pub kept-ads : IsLedger net links new installed pending
    kept-ads = record {
      links_are = is.links_are ∙ sym still-links;
      semantics = λ on. changed.semantics ∙ is.semantics (ap by_adverts (sym changed.semantics) ∙ on);
      filter_items = changed.filter_items ∙ is.filter_items;
      advert_items = changed.items ∙ is.advert_items;
      few = subst (λ z. length z < 2 ^ 32) (sym changed.filter_interfaces) is.few;
      same_interfaces = changed.interfaces ∙ (is.same_interfaces ∙ sym changed.filter_interfaces);
      same_links = changed.links ∙ (is.same_links ∙ sym changed.filter_links);
      changes = subst (λ z. IsPending (known_filters net.clients) z (λ i. held_from list_before i (shown installed).filters) (λ i. held_from list_before i (shown new).filters) pending) (sym changed.filter_interfaces)
          (subst (λ z. IsPending (known_filters net.clients) old.filters.interfaces (λ i. held_from list_before i (shown installed).filters) (λ i. held_from list_before i z) pending) (sym still-held) is.changes);
    }

    pub set-ads : (sent : List SendingParts) → by_adverts old.semantics ≡ true → sent ≡ sent_by net (changes_to (shown old) (shown new)) links
        → AdvertsSet interface (picked (known_adverts net.clients) out) (picked (known_adverts net.clients) add)
        (record { net = net; interfaces = old.filters.interfaces; control = shown old; installed = (shown installed).filters; pending = pending })
        (record { net = net; interfaces = new.filters.interfaces; control = shown new; installed = (shown installed).filters; pending = pending }) sent
    set-ads sent steered are = record {
      net = refl;
      held = advs-shown new now interface ∙ (changed.held ∙ (changed-alike ad_laws old.adverts.items rising (advs old interface) ads-rise out add lost won lost-are won-are apart
          ∙ (ap (λ z. union list_before (picked old.adverts.items add) (minus list_before z (picked old.adverts.items out))) (sym (advs-shown old was interface))
          ∙ ap (λ z. union list_before (picked z add) (minus list_before (control.advs (shown old) interface) (picked z out))) is.advert_items)));
      others = λ i n. advs-shown new now i ∙ (changed.others i n ∙ sym (advs-shown old was i));
      filters = still-held;
      semantics = changed.semantics;
      links = still-links;
      installed = refl;
      pending = refl;
      silent = λ e. absurd (false≢true (sym e ∙ steered));
      sent_are = λ e. are ∙ ap (sent_by net (changes_to (shown old) (shown new))) is.links_are;
    }

    pub announces-ads-there : by_adverts old.semantics ≡ true → (p : ℕ) (t : Announced) → slice_get links p ≡ Some interface → slice_get new.filters.announced p ≡ Some t
        → AnnouncesFilters new.filters.items t (changes_to (shown old) (shown new) interface)
    announces-ads-there steered p t e f =
        let r = among-first old.filters.interfaces (length old.filters.announced) p interface (subst (λ z. slice_get z p ≡ Some interface) is.links_are e) in
        let w = changed.filters_announced (is-advertisement old.semantics steered) p r.0 r.1 in
        announces-there old new was now interface changed.others new.filters.items t
        (subst (λ z. IsAnnounced list_before z (sent_filters old interface) (sent_filters new interface) t) (sym changed.filter_items)
        (subst (λ z. IsAnnounced list_before old.filters.items (sent_filters old interface) (sent_filters new interface) z) (Rattle.std.proofs.lemmas.Option.same_Some w.0 t (sym w.1 ∙ f)) w.2))

    pub announces-ads-elsewhere : (p link : ℕ) (t : Announced) → slice_get links p ≡ Some link → link ≢ interface → slice_get new.adverts.announced p ≡ Some t
        → AnnouncesAdverts new.adverts.items t (changes_to (shown old) (shown new) link)
    announces-ads-elsewhere p link t e n f =
        let r = among-first old.filters.interfaces (length old.filters.announced) p link (subst (λ z. slice_get z p ≡ Some link) is.links_are e) in
        let w = changed.announced p link (subst (λ z. p < z) (sym is.same_links) r.0) (subst (λ z. slice_get z p ≡ Some link) (sym is.same_interfaces) r.1) in
        announces-elsewhere old new was now link changed.semantics (changed.others link n) changed.filters new.adverts.items t
        (subst (λ z. IsAnnounced list_before z (sent_adverts old link) (sent_adverts new link) t) (sym changed.items)
        (subst (λ z. IsAnnounced list_before old.adverts.items (sent_adverts old link) (sent_adverts new link) z) (Rattle.std.proofs.lemmas.Option.same_Some w.0 t (sym w.1 ∙ f)) w.2))

    -- taken back
    module _ (back : Numbered) (then : IsKnown back) (undone : AreAdvertsChanged interface won lost new back) where
      back-advs : (i : ℕ) → advs back i ≡ advs old i
      back-advs i = elim (cases_eq i interface) [
        | inl q ↦ subst (λ z. advs back z ≡ advs old z) (sym q) (undone.held
            ∙ (ap (λ z. union list_before (picked z lost) (minus list_before (advs new interface) (picked z won))) changed.items
            ∙ (ap (λ z. union list_before (picked old.adverts.items lost) (minus list_before z (picked old.adverts.items won))) changed.held
            ∙ taken-back ad_laws old.adverts.items rising (advs old interface) ads-rise out add lost won lost-are won-are)))
        | inr n ↦ undone.others i n ∙ changed.others i n
      ]

      back-links : take (length back.filters.announced) back.filters.interfaces ≡ take (length old.filters.announced) old.filters.interfaces
      back-links = ap (λ n. take n back.filters.interfaces) (undone.filter_links ∙ changed.filter_links) ∙ ap (take (length old.filters.announced)) (undone.filter_interfaces ∙ changed.filter_interfaces)

      back-held : (shown back).filters ≡ (shown old).filters
      back-held = ap (λ z. holdings_by z (subs back)) (undone.filter_interfaces ∙ changed.filter_interfaces)
          ∙ ap (λ z. holdings_by old.filters.interfaces (λ i. stock_from list_before i z)) (undone.filters ∙ changed.filters)

      pub ads-as-before : shown back ≡ shown old
      ads-as-before = controls-same back.semantics old.semantics (take (length back.filters.announced) back.filters.interfaces) (take (length old.filters.announced) old.filters.interfaces)
          (holdings_by back.filters.interfaces (subs back)) (holdings_by old.filters.interfaces (subs old)) (holdings_by back.adverts.interfaces (advs back)) (holdings_by old.adverts.interfaces (advs old))
          (undone.semantics ∙ changed.semantics) back-links back-held
          (ap (λ z. holdings_by z (advs back)) (undone.interfaces ∙ changed.interfaces) ∙ holdings-alike old.adverts.interfaces (advs back) (advs old) back-advs)

      pub ads-kept-back : IsLedger net links back installed pending
      ads-kept-back = record {
        links_are = is.links_are ∙ sym back-links;
        semantics = λ on. undone.semantics ∙ (changed.semantics ∙ is.semantics (ap by_adverts (sym (undone.semantics ∙ changed.semantics)) ∙ on));
        filter_items = undone.filter_items ∙ (changed.filter_items ∙ is.filter_items);
        advert_items = undone.items ∙ (changed.items ∙ is.advert_items);
        few = subst (λ z. length z < 2 ^ 32) (sym (undone.filter_interfaces ∙ changed.filter_interfaces)) is.few;
        same_interfaces = (undone.interfaces ∙ changed.interfaces) ∙ (is.same_interfaces ∙ sym (undone.filter_interfaces ∙ changed.filter_interfaces));
        same_links = (undone.links ∙ changed.links) ∙ (is.same_links ∙ sym (undone.filter_links ∙ changed.filter_links));
        changes = subst (λ z. IsPending (known_filters net.clients) z (λ i. held_from list_before i (shown installed).filters) (λ i. held_from list_before i (shown back).filters) pending)
            (sym (undone.filter_interfaces ∙ changed.filter_interfaces))
            (subst (λ z. IsPending (known_filters net.clients) old.filters.interfaces (λ i. held_from list_before i (shown installed).filters) (λ i. held_from list_before i z) pending) (sym back-held) is.changes);
      }

-- at first nothing is held
none-by : (is : List ℕ) (held : ℕ → Lists) → ((i : ℕ) → held i ≡ []) → holdings_by is held ≡ []
none-by [] held e = refl
none-by (i ∷ is) held e = ap (λ z. map (λ x. record { interface = i; item = x }) z ++ holdings_by is held) (e i) ∙ none-by is held e

pub none-held : (is : List ℕ) (hs : List (Held (List ConstraintParts))) → hs ≡ [] → holdings_by is (λ i. stock_from list_before i hs) ≡ []
none-held is hs e = none-by is (λ i. stock_from list_before i hs) (λ i. ap (stock_from list_before i) e)

pub first-shown : (c : Numbered) (semantics : Semantics) (interfaces : List ℕ) (links : ℕ) → c.semantics ≡ semantics → c.filters.interfaces ≡ interfaces → length c.filters.announced ≡ links
    → c.filters.holdings ≡ [] → c.adverts.holdings ≡ [] → shown c ≡ parts semantics (take links interfaces) [] []
first-shown c semantics interfaces links d e f g h =
    controls-same c.semantics semantics (take (length c.filters.announced) c.filters.interfaces) (take links interfaces) (holdings_by c.filters.interfaces (subs c)) [] (holdings_by c.adverts.interfaces (advs c)) [] d
    (ap (λ n. take n c.filters.interfaces) f ∙ ap (take links) e) (none-held c.filters.interfaces c.filters.holdings g) (none-held c.adverts.interfaces c.adverts.holdings h)

pub first-kept : (net : NetParts) (links : List ℕ) (c : Numbered) → links ≡ take (length c.filters.announced) c.filters.interfaces → (by_adverts c.semantics ≡ true → c.semantics ≡ net.semantics) → c.filters.items ≡ known_filters net.clients
    → c.adverts.items ≡ known_adverts net.clients → length c.filters.interfaces < 2 ^ 32 → c.adverts.interfaces ≡ c.filters.interfaces → length c.adverts.announced ≡ length c.filters.announced → IsLedger net links c c []
first-kept net links c a b d e k f g = record {
  links_are = a;
  semantics = b;
  filter_items = d;
  advert_items = e;
  few = k;
  same_interfaces = f;
  same_links = g;
  changes = pending-none (known_filters net.clients) c.filters.interfaces (λ i. held_from list_before i (shown c).filters);
}
