-- What is given of interfaces is held from them too, and nobody is announced.
use Rattle.std.proofs.Common.{◌≡◌, ◌≢◌, ◌⊎◌, ◌↔◌, inl, inr, ℕ, ◌+◌, ◌<◌, ◌==◌, Bool, true, false, List, [], ◌∷◌, ◌++◌, length, map, filter, take, slice_get, Some, refl, sym, ap, subst, ◌∙◌, add-one, eqb-true}
use Rattle.std.proofs.lemmas.Bool.{cases_eq}
use Rattle.filter_constraints.specs.Constraint.{ConstraintParts}
use Rattle.filter_types.specs.Before.{list_before}
use Rattle.base.specs.Laws.{CoverLaws}
use Rattle.base.specs.Sets.{Has, IsRising, union, minus, set_of}
use Rattle.base.proofs.Sets.{has-union, has-append, has-append-left, has-append-right}
use Rattle.filter_covering.specs.Laws.{sub_laws, ad_laws}
use Rattle.base_order.specs.Order.{picked}
use Rattle.filter_text.specs.Messages.{Lists}
use Rattle.net_model.specs.Parts.{NetParts}
use Rattle.net_tables.specs.Known.{known_filters, known_adverts}
use Rattle.server_spec.specs.declared.control.HeldLink.{HeldLink}
use Rattle.server_spec.specs.Holdings.{held_from}
use Rattle.server_spec.specs.Control.{changes_to}
use Rattle.server_spec.specs.Control as control
use Rattle.server_stock.specs.Stock.{Holding as Held, held_from as stock_from}
use Rattle.server_stock.proofs.Shown.{from-iff}
use Rattle.net_model.specs.Real.{real}
use Rattle.server_control.specs.Control.{Controlled as Numbered, subs, advs}
use Rattle.match_routes.specs.declared.table_change.TableChange.{TableChange}
use Rattle.match_routes.specs.declared.table_change.TableChange.TheVariants.{Put, Take}
use Rattle.server_message.specs.Parts.{sent_by}
use Rattle.server_core.specs.Due.{IsHeldAt}
use Rattle.server_core.specs.Ledger.{LedgerParts}
use Rattle.server_core.specs.Showing.{shown, holdings_by}
use Rattle.server_core.specs.Keeps.{IsLedger}
use Rattle.server_core.specs.Putting.{IsGiven, ArePut, FiltersPut, AdvertsPut}
use Rattle.server_core.proofs.Sieving.{Sieved, sieve-none}
use Rattle.server_core.proofs.Shown.{IsKnown, subs-shown, advs-shown, stock-rises}
use Rattle.server_core.proofs.Turned.{changed-alike}
use Rattle.server_core.proofs.Changed.{AreFiltersChanged, AreAdvertsChanged, set}
use Rattle.server_core.proofs.Starting.{ledger_parts}
use Rattle.base.proofs.Lists.{take-suc-some}

pub minus-none : (xs : Lists) → minus list_before xs [] ≡ xs
minus-none [] = refl
minus-none (x ∷ xs) = ap (λ z. x ∷ z) (minus-none xs)

-- nothing is taken
pub none-sieved : (P : ℕ → Type 0) → Sieved P [] []
none-sieved P = sieve-none P [] refl

module _ (net : NetParts) (links : List ℕ) (old installed : Numbered) (pending : List TableChange) (is : IsLedger net links old installed pending) (was : IsKnown old) (interface : ℕ) (add won : List ℕ) where
  -- filters
  module _ (rising : IsRising list_before old.filters.items) (there : Has interface old.filters.interfaces) (add-known : (i : ℕ) → Has i add → i < length old.filters.items)
      (won-are : Sieved (λ k. IsHeldAt old.filters.items (subs old interface) k → ⊥) add won) (new : Numbered) (now : IsKnown new) (changed : AreFiltersChanged interface [] won old new) where
    pub filters-put : FiltersPut interface (picked (known_filters net.clients) add) (ledger_parts net old.filters.interfaces (shown old) (shown installed).filters pending)
        (ledger_parts net new.filters.interfaces (shown new) (shown installed).filters (pending ++ (map (λ i. Take i interface) [] ++ map (λ i. Put i interface) won)))
    filters-put =
        let s = set net links old installed pending is was rising interface there [] add [] won (λ i m. absurd m) add-known (λ i m n. absurd m) (none-sieved (λ k. IsHeldAt old.filters.items (subs old interface) k)) won-are
        new now changed (sent_by net (changes_to (shown old) (shown new)) links) refl in
        record {
          net = refl;
          interfaces = changed.interfaces;
          held = s.held ∙ ap (union list_before (picked (known_filters net.clients) add)) (minus-none (control.subs (shown old) interface));
          others = s.others;
          offered = s.offered;
          semantics = s.semantics;
          links = s.links;
          installed = refl;
        }

  -- advertisements
  module _ (rising : IsRising list_before old.adverts.items) (add-known : (i : ℕ) → Has i add → i < length old.adverts.items)
      (won-are : Sieved (λ k. IsHeldAt old.adverts.items (advs old interface) k → ⊥) add won) (new : Numbered) (now : IsKnown new) (changed : AreAdvertsChanged interface [] won old new) where
    pub adverts-put : AdvertsPut interface (picked (known_adverts net.clients) add) (ledger_parts net old.filters.interfaces (shown old) (shown installed).filters pending)
        (ledger_parts net new.filters.interfaces (shown new) (shown installed).filters pending)
    adverts-put = record {
      net = refl;
      interfaces = changed.filter_interfaces;
      held = advs-shown new now interface ∙ (changed.held ∙ (changed-alike ad_laws old.adverts.items rising (advs old interface)
          (stock-rises ad_laws old.adverts.interfaces old.adverts.holdings was.adverts_of interface) [] add [] won (none-sieved (λ k. IsHeldAt old.adverts.items (advs old interface) k)) won-are (λ i m n. absurd m)
          ∙ (ap (λ z. union list_before (picked old.adverts.items add) z) (minus-none (advs old interface))
          ∙ (ap (λ z. union list_before (picked old.adverts.items add) z) (sym (advs-shown old was interface))
          ∙ ap (λ z. union list_before (picked z add) (control.advs (shown old) interface)) is.advert_items))));
      others = λ i n. advs-shown new now i ∙ (changed.others i n ∙ sym (advs-shown old was i));
      filters = ap (λ z. holdings_by z (subs new)) changed.filter_interfaces ∙ ap (λ z. holdings_by old.filters.interfaces (λ i. stock_from list_before i z)) changed.filters;
      semantics = changed.semantics;
      links = ap (λ n. take n new.filters.interfaces) changed.filter_links ∙ ap (take (length old.filters.announced)) changed.filter_interfaces;
      installed = refl;
    }

-- an interface that gained items has what it had and these
module _ {covers : List ConstraintParts → List ConstraintParts → Bool} (laws : CoverLaws covers list_before) (of : HeldLink → Lists) (h : HeldLink) (old new : ℕ → Lists)
    (held : new h.link ≡ union list_before (of h) (old h.link)) (others : (i : ℕ) → i ≢ h.link → new i ≡ old i) where
  one-given : (i : ℕ) (x : List ConstraintParts) → Has x (new i) ↔ (Has x (old i) ⊎ IsGiven of (h ∷ []) i x)
  one-given i x = (to, from)
    where
      to : Has x (new i) → Has x (old i) ⊎ IsGiven of (h ∷ []) i x
      to m = elim (cases_eq i h.link) [
        | inl q ↦ elim ((has-union laws x (of h) (old h.link)).0 (subst (Has x) (ap new q ∙ held) m)) [
          | inl k ↦ inr (h, inl refl, sym q, k)
          | inr k ↦ inl (subst (λ z. Has x (old z)) (sym q) k)
        ]
        | inr n ↦ inl (subst (Has x) (others i n) m)
      ]

      from : Has x (old i) ⊎ IsGiven of (h ∷ []) i x → Has x (new i)
      from (inl m) = elim (cases_eq i h.link) [
        | inl q ↦ subst (Has x) (sym (ap new q ∙ held)) ((has-union laws x (of h) (old h.link)).1 (inr (subst (λ z. Has x (old z)) q m)))
        | inr n ↦ subst (Has x) (sym (others i n)) m
      ]
      from (inr (g, there, at, m)) = elim there [
        | inl e ↦ subst (λ z. Has x (new z)) at (subst (λ (z : HeldLink). Has x (new z.link)) (sym e) (subst (Has x) (sym held) ((has-union laws x (of h) (old h.link)).1 (inl (subst (λ (z : HeldLink). Has x (of z)) e m)))))
        | inr n ↦ absurd n
      ]

pub put-both : (h : HeldLink) (a b c : LedgerParts) → AdvertsPut h.link h.adverts a b → FiltersPut h.link h.filters b c → ArePut (h ∷ []) a c
put-both h a b c ads fs = record {
  net = fs.net ∙ ads.net;
  interfaces = fs.interfaces ∙ ads.interfaces;
  semantics = fs.semantics ∙ ads.semantics;
  links = fs.links ∙ ads.links;
  installed = fs.installed ∙ ads.installed;
  filters = one-given sub_laws (λ z. z.filters) h (control.subs a.control) (control.subs c.control)
      (fs.held ∙ ap (λ z. union list_before h.filters (held_from real.before h.link z)) ads.filters) (λ i n. fs.others i n ∙ ap (held_from real.before i) ads.filters);
  adverts = one-given ad_laws (λ z. z.adverts) h (control.advs a.control) (control.advs c.control)
      (ap (held_from real.before_advert h.link) fs.offered ∙ ads.held) (λ i n. ap (held_from real.before_advert i) fs.offered ∙ ads.others i n);
}

-- one after the other
pub put-none : (a : LedgerParts) → ArePut [] a a
put-none a = record {
  net = refl;
  interfaces = refl;
  semantics = refl;
  links = refl;
  installed = refl;
  filters = λ i x. (λ m. inl m, λ m. elim m [ inl k ↦ k | inr g ↦ absurd g.1 ]);
  adverts = λ i x. (λ m. inl m, λ m. elim m [ inl k ↦ k | inr g ↦ absurd g.1 ]);
}

given-more : (of : HeldLink → Lists) (xs ys : List HeldLink) (a b c : ℕ → Lists)
    → ((i : ℕ) (x : List ConstraintParts) → Has x (b i) ↔ (Has x (a i) ⊎ IsGiven of xs i x)) → ((i : ℕ) (x : List ConstraintParts) → Has x (c i) ↔ (Has x (b i) ⊎ IsGiven of ys i x))
    → (i : ℕ) (x : List ConstraintParts) → Has x (c i) ↔ (Has x (a i) ⊎ IsGiven of (xs ++ ys) i x)
given-more of xs ys a b c first then i x = (to, from)
  where
    to : Has x (c i) → Has x (a i) ⊎ IsGiven of (xs ++ ys) i x
    to m = elim ((then i x).0 m) [
      | inl k ↦ elim ((first i x).0 k) [
        | inl j ↦ inl j
        | inr g ↦ inr (g.0, has-append-left g.0 xs ys g.1, g.2, g.3)
      ]
      | inr g ↦ inr (g.0, has-append-right g.0 xs ys g.1, g.2, g.3)
    ]

    from : Has x (a i) ⊎ IsGiven of (xs ++ ys) i x → Has x (c i)
    from (inl m) = (then i x).1 (inl ((first i x).1 (inl m)))
    from (inr g) = elim (has-append g.0 xs ys g.1) [
      | inl k ↦ (then i x).1 (inl ((first i x).1 (inr (g.0, k, g.2, g.3))))
      | inr k ↦ (then i x).1 (inr (g.0, k, g.2, g.3))
    ]

pub put-more : (xs ys : List HeldLink) (a b c : LedgerParts) → ArePut xs a b → ArePut ys b c → ArePut (xs ++ ys) a c
put-more xs ys a b c first then = record {
  net = then.net ∙ first.net;
  interfaces = then.interfaces ∙ first.interfaces;
  semantics = then.semantics ∙ first.semantics;
  links = then.links ∙ first.links;
  installed = then.installed ∙ first.installed;
  filters = given-more (λ z. z.filters) xs ys (control.subs a.control) (control.subs b.control) (control.subs c.control) first.filters then.filters;
  adverts = given-more (λ z. z.adverts) xs ys (control.advs a.control) (control.advs b.control) (control.advs c.control) first.adverts then.adverts;
}

pub put-next : (xs : List HeldLink) (n : ℕ) (h : HeldLink) (a b c : LedgerParts) → slice_get xs n ≡ Some h → ArePut (take n xs) a b → ArePut (h ∷ []) b c → ArePut (take (n + 1) xs) a c
put-next xs n h a b c at first then = subst (λ z. ArePut z a c) (sym (ap (λ z. take z xs) (add-one n) ∙ take-suc-some xs n h at)) (put-more (take n xs) (h ∷ []) a b c first then)

-- what is held from an interface
abbrev pub link_parts : ℕ → Lists → Lists → HeldLink
link_parts link filters adverts = record { link = link; filters = filters; adverts = adverts }

pub links-same : (i : ℕ) (f g a b : Lists) → f ≡ g → a ≡ b → link_parts i f a ≡ link_parts i g b
links-same i f g a b d e = ap (λ z. link_parts i z a) d ∙ ap (λ z. link_parts i g z) e

pub puts-as : (h : HeldLink) (link : ℕ) (fs os : Lists) (a b c : LedgerParts) → link ≡ h.link → fs ≡ h.filters → os ≡ h.adverts → AdvertsPut link os a b → FiltersPut link fs b c → ArePut (h ∷ []) a c
puts-as h link fs os a b c d e f ads put = put-both h a b c (subst (λ z. AdvertsPut z h.adverts a b) d (subst (λ z. AdvertsPut link z a b) f ads)) (subst (λ z. FiltersPut z h.filters b c) d (subst (λ z. FiltersPut link z b c) e put))

-- what a control by numbers holds is held from its interfaces
pub known-shown : (c : Numbered) → IsKnown c → (i : ℕ) (x : List ConstraintParts) → Has x (control.subs (shown c) i) → Has i c.filters.interfaces
known-shown c known i x m = known.filters_of (record { interface = i; item = x }) ((from-iff sub_laws i c.filters.holdings x).0 (subst (Has x) (subs-shown c known i) m))

pub known-offered : (c : Numbered) → IsKnown c → c.adverts.interfaces ≡ c.filters.interfaces → (i : ℕ) (x : List ConstraintParts) → Has x (control.advs (shown c) i) → Has i c.filters.interfaces
known-offered c known same i x m =
    subst (Has i) same (known.adverts_of (record { interface = i; item = x }) ((from-iff ad_laws i c.adverts.holdings x).0 (subst (Has x) (advs-shown c known i) m)))

-- from no interface nothing is held
pub held-nowhere : {T : Type 0} (before : T → T → Bool) (i : ℕ) (is : List ℕ) (hs : List (Held T)) → ((h : Held T) → Has h hs → Has h.interface is) → (Has i is → ⊥) → stock_from before i hs ≡ []
held-nowhere {T} before i is hs known none = ap (λ z. set_of before (map (λ (h : Held T). h.item) z)) (kept hs known)
  where
    kept : (ks : List (Held T)) → ((h : Held T) → Has h ks → Has h.interface is) → filter (λ (h : Held T). h.interface == i) ks ≡ []
    kept [] of = refl
    kept (k ∷ ks) of = go (k.interface == i) refl (kept ks (λ h m. of h (inr m)))
      where
        go : (b : Bool) → (k.interface == i) ≡ b → filter (λ (h : Held T). h.interface == i) ks ≡ [] → filter (λ (h : Held T). h.interface == i) (k ∷ ks) ≡ []
        go true e ih = absurd (none (subst (λ z. Has z is) (eqb-true k.interface i e) (of k (inl refl))))
        go false e ih = rw e ih
