-- Lemmas on cores whose links are replaced by others.
use Rattle.std.proofs.Common.{◌≡◌, ◌⊎◌, ◌↔◌, inl, inr, ℕ, zero, suc, ◌+◌, ◌<◌, ◌≤◌, nat_lt, Bool, true, List, [], ◌∷◌, ◌++◌, length, map, take, Some, slice_get, refl, sym, ap, subst, ◌∙◌, arith}
use Rattle.std.proofs.lemmas.Bool.Decides.{nat_tests}
use Rattle.std.proofs.lemmas.Option.{same_Some}
use Rattle.filter_constraints.specs.Constraint.{ConstraintParts}
use Rattle.filter_types.specs.Before.{list_before}
use Rattle.base.specs.Laws.{CoverLaws}
use Rattle.base.specs.Sets.{Has, IsRising}
use Rattle.base.proofs.Sets.{ext, has-append, map-has, has-map}
use Rattle.filter_covering.specs.Laws.{sub_laws, ad_laws}
use Rattle.filter_text.specs.Messages.{Lists}
use Rattle.server_spec.specs.declared.control.HeldLink.{HeldLink}
use Rattle.server_spec.specs.Holdings.{Holding, held_from}
use Rattle.server_spec.specs.Control.{Controlled, subs, advs, by_adverts, IsRelinked}
use Rattle.server_spec.proofs.Holdings.{rising-where}
use Rattle.server_spec.specs.Session.{SessionParts}
use Rattle.net_model.specs.Parts.{NetParts}
use Rattle.server_control.specs.Held.{NetHeld, held_in}
use Rattle.server_core.specs.Clients.{client_numbers}
use Rattle.server_core.specs.Ledger.{LedgerParts}
use Rattle.server_core.specs.Core.{CoreParts, core_parts}
use Rattle.server_core.specs.Kept.{IsCore, IsKept}
use Rattle.server_core.specs.Linked.{SuitsCore, AreHeldLinks, IsLinked, interfaces_on}
use Rattle.server_core.specs.Putting.{IsGiven, ArePut, held_by, held_by_clients}
use Rattle.server_core.proofs.Putting.{put-none}
use Rattle.server_core.proofs.Starting.{front-has, back-has}

above-links : (core : CoreParts) → IsCore core → (s : SessionParts) → Has s core.clients → 64 < 64 + s.client
above-links core kept s m = let low = (kept.ids s m).0 in omega (arith, low)

-- a core with a ledger that suits it
module _ (server clock : ℕ) (old new : LedgerParts) (clients : List SessionParts) (interfaces : List ℕ) (net : NetParts) (kept : IsKept interfaces net (core_parts server old clients clock))
    (suits : SuitsCore (core_parts server old clients clock) new) where
  pub relinked-core : IsCore (core_parts server new clients clock)
  relinked-core = record {
    clock_low = kept.kept.clock_low;
    links_rise = suits.rising;
    links_small = suits.small;
    one_semantics = λ s m. kept.kept.one_semantics s m ∙ sym suits.semantics;
    ids = kept.kept.ids;
    own_filters = λ s m. suits.client_filters (64 + s.client) (above-links (core_parts server old clients clock) kept.kept s m) ∙ kept.kept.own_filters s m;
    own_adverts = λ s m on. suits.client_adverts (64 + s.client) (above-links (core_parts server old clients clock) kept.kept s m) ∙ kept.kept.own_adverts s m (ap by_adverts (sym suits.semantics) ∙ on);
  }

  pub relinked-kept : IsKept new.interfaces net (core_parts server new clients clock)
  relinked-kept = record {
    kept = relinked-core;
    of_net = kept.of_net ∙ sym suits.net;
    of_semantics = suits.semantics ∙ (kept.of_semantics ∙ ap (λ z. z.semantics) (sym suits.net));
    whole = suits.interfaces;
    linked = λ l m. subst (Has l) (sym suits.interfaces) (front-has new.control.links (map (λ n. 64 + n) (client_numbers clients)) l m);
    reached = λ s m. subst (Has (64 + s.client)) (sym suits.interfaces)
        (back-has new.control.links (map (λ n. 64 + n) (client_numbers clients)) (64 + s.client) (map-has (λ n. 64 + n) (client_numbers clients) s.client (map-has (λ (z : SessionParts). z.client) clients s m)));
  }

  -- what it had suits it then
  pub suits-back : old.interfaces ≡ interfaces → SuitsCore (core_parts server new clients clock) old
  suits-back same = record {
    net = sym suits.net;
    interfaces = same ∙ kept.whole;
    semantics = sym suits.semantics;
    rising = kept.kept.links_rise;
    small = kept.kept.links_small;
    client_filters = λ i l. sym (suits.client_filters i l);
    client_adverts = λ i l. sym (suits.client_adverts i l);
  }

pub links-distinct : (held : List HeldLink) → IsRising nat_lt (map (λ h. h.link) held) → (a b : HeldLink) → Has a held → Has b held → a.link ≡ b.link → a ≡ b
links-distinct [] r a b m n e = absurd m
links-distinct (h ∷ held) r a b (inl p) (inl q) e = p ∙ sym q
links-distinct (h ∷ held) r a b (inl p) (inr n) e =
    let low : nat_lt h.link b.link ≡ true = r.0 b.link (map-has (λ h. h.link) held b n) in
    let same : h.link ≡ b.link = ap (λ z. z.link) (sym p) ∙ e in
    absurd (let no : h.link < b.link = grind (arith, nat_tests, low) in omega (arith, no, same))
links-distinct (h ∷ held) r a b (inr m) (inl q) e =
    let low : nat_lt h.link a.link ≡ true = r.0 a.link (map-has (λ h. h.link) held a m) in
    let same : a.link ≡ h.link = e ∙ ap (λ z. z.link) q in
    absurd (let no : h.link < a.link = grind (arith, nat_tests, low) in omega (arith, no, same))
links-distinct (h ∷ held) r a b (inr m) (inr n) e = links-distinct held r.1 a b m n e

no-members : (xs : Lists) → ((x : List ConstraintParts) → Has x xs → ⊥) → xs ≡ []
no-members [] n = refl
no-members (x ∷ xs) n = absurd (n x (inl refl))

-- what is held once links are given
module _ {covers : List ConstraintParts → List ConstraintParts → Bool} (laws : CoverLaws covers list_before) (of : HeldLink → Lists) (held : List HeldLink) (old new : ℕ → Lists) (ns links : List ℕ)
    (rising : IsRising nat_lt (map (λ h. h.link) held)) (small : (h : HeldLink) → Has h held → h.link ≤ 64) (lists-rise : (h : HeldLink) → Has h held → IsRising list_before (of h))
    (one : (n : ℕ) → Has n ns → 1 ≤ n) (old-rises : (i : ℕ) → IsRising list_before (old i)) (new-rises : (i : ℕ) → IsRising list_before (new i))
    (low : (l : ℕ) → Has l links → l ≤ 64) (known : (i : ℕ) (x : List ConstraintParts) → Has x (old i) → Has i (interfaces_on links ns))
    (all : (i : ℕ) (x : List ConstraintParts) → Has x (new i) ↔ (IsGiven of held i x ⊎ ((n : ℕ) × Has n ns × (64 + n ≡ i) × Has x (old i)))) where
  client-at : (i : ℕ) (x : List ConstraintParts) → 64 < i → Has x (old i) → (n : ℕ) × Has n ns × (64 + n ≡ i)
  client-at i x high m = elim (has-append i links (map (λ n. 64 + n) ns) (known i x m)) [
    | inl l ↦ absurd (let k = low i l in omega (arith, k, high))
    | inr k ↦ let r = has-map (λ n. 64 + n) ns i k in (r.0, r.1, sym r.2)
  ]

  pub relinked : IsRelinked of held old new
  relinked = record { links = at-link; clients = at-client; others = at-other }
    where
      at-link : (h : HeldLink) → Has h held → new h.link ≡ of h
      at-link h there = ext laws (new h.link) (of h) (new-rises h.link) (lists-rise h there) to (λ x m. (all h.link x).1 (inl (h, there, refl, m)))
        where
          to : (x : List ConstraintParts) → Has x (new h.link) → Has x (of h)
          to x m = elim ((all h.link x).0 m) [
            | inl g ↦ subst (λ (z : HeldLink). Has x (of z)) (links-distinct held rising g.0 h g.1 there g.2) g.3
            | inr c ↦ absurd (let k = small h there in let l = one c.0 c.1 in let e = c.2 in omega (arith, k, l, e))
          ]

      at-client : (i : ℕ) → 64 < i → new i ≡ old i
      at-client i high = ext laws (new i) (old i) (new-rises i) (old-rises i) to from
        where
          to : (x : List ConstraintParts) → Has x (new i) → Has x (old i)
          to x m = elim ((all i x).0 m) [
            | inl g ↦ absurd (let k = small g.0 g.1 in let e = g.2 in omega (arith, k, e, high))
            | inr c ↦ c.3
          ]

          from : (x : List ConstraintParts) → Has x (old i) → Has x (new i)
          from x m = let c = client-at i x high m in (all i x).1 (inr (c.0, c.1, c.2, m))

      at-other : (i : ℕ) → i ≤ 64 → ((h : HeldLink) → Has h held → (h.link ≡ i → ⊥)) → new i ≡ []
      at-other i l none = no-members (new i) (λ x m. elim ((all i x).0 m) [
        | inl g ↦ none g.0 g.1 g.2
        | inr c ↦ (let k = one c.0 c.1 in let e = c.2 in absurd (omega (arith, k, e, l)))
      ])

-- what is held by clients
by-clients : (of : HeldLink → Lists) (c : Controlled) (ns : List ℕ) (old : ℕ → Lists) → ((i : ℕ) → of (held_by c i) ≡ old i) → (i : ℕ) (x : List ConstraintParts)
    → IsGiven of (held_by_clients c ns) i x ↔ ((n : ℕ) × Has n ns × (64 + n ≡ i) × Has x (old i))
by-clients of c ns old same i x = (to, from)
  where
    to : IsGiven of (held_by_clients c ns) i x → (n : ℕ) × Has n ns × (64 + n ≡ i) × Has x (old i)
    to g =
        let r = has-map (λ n. held_by c (64 + n)) ns g.0 g.1 in
        let at : 64 + r.0 ≡ i = sym (ap (λ (z : HeldLink). z.link) r.2) ∙ g.2 in
        (r.0, r.1, at, subst (λ z. Has x (old z)) at (subst (Has x) (same (64 + r.0)) (subst (λ (z : HeldLink). Has x (of z)) r.2 g.3)))

    from : (n : ℕ) × Has n ns × (64 + n ≡ i) × Has x (old i) → IsGiven of (held_by_clients c ns) i x
    from (n, m, at, h) = (held_by c (64 + n), map-has (λ k. held_by c (64 + k)) ns n m, at, subst (Has x) (sym (same (64 + n))) (subst (λ z. Has x (old z)) (sym at) h))

none-from : (i : ℕ) (hs : List (Holding (List ConstraintParts))) (x : List ConstraintParts) → hs ≡ [] → Has x (held_from list_before i hs) → ⊥
none-from i hs x e m = subst (λ z. Has x (held_from list_before i z)) e m

-- links that may be given are small
pub small-links : (held : List HeldLink) → ((h : HeldLink) → Has h held → h.link ≤ 64) → (link : ℕ) → Has link (map (λ h. h.link) held) → link ≤ 64
small-links [] low link m = absurd m
small-links (h ∷ held) low link (inl q) = let l = low h (inl refl) in omega (arith, l, q)
small-links (h ∷ held) low link (inr m) = small-links held (λ k n. low k (inr n)) link m

pub links-first : (xs ys : List ℕ) → length xs ≤ length (xs ++ ys)
links-first [] ys = omega arith
links-first (x ∷ xs) ys = let l = links-first xs ys in omega (arith, l)

-- the clients' numbers
pub range-of : (core : CoreParts) → IsCore core → (n : ℕ) → Has n (client_numbers core.clients) → (1 ≤ n) × (n ≤ 1024)
range-of core kept n m = let r = has-map (λ (s : SessionParts). s.client) core.clients n m in let w = kept.ids r.0 r.1 in let e = r.2 in (omega (arith, w.0, e), omega (arith, w.1, e))

-- the interfaces' numbers
pub interfaces-low : (core : CoreParts) → IsCore core → (i : ℕ) → Has i (interfaces_on core.control.links (client_numbers core.clients)) → i ≤ 64 + 1024
interfaces-low core kept i m = elim (has-append i core.control.links (map (λ n. 64 + n) (client_numbers core.clients)) m) [
  | inl l ↦ (let b = kept.links_small i l in omega (arith, b))
  | inr a ↦ (let r = has-map (λ n. 64 + n) (client_numbers core.clients) i a in let b = (range-of core kept r.0 r.1).1 in let e = r.2 in omega (arith, b, e))
]

-- a ledger that was made on other links
module _ (core : CoreParts) (held : List HeldLink) (first mid new : LedgerParts) (ok : AreHeldLinks held) (kept : IsCore core)
    (known-filters : (i : ℕ) (x : List ConstraintParts) → Has x (subs core.control i) → Has i (interfaces_on core.control.links (client_numbers core.clients)))
    (known-adverts : (i : ℕ) (x : List ConstraintParts) → Has x (advs core.control i) → Has i (interfaces_on core.control.links (client_numbers core.clients)))
    (no-filters : first.control.filters ≡ []) (no-adverts : first.control.adverts ≡ [])
    (links : first.control.links ≡ map (λ h. h.link) held) (put-links : ArePut held first mid) (put-clients : ArePut (held_by_clients core.control (client_numbers core.clients)) mid new) where
  abbrev both : (HeldLink → Lists) → (ℕ → Lists) → ℕ → List ConstraintParts → Type 0
  both of old i x = IsGiven of held i x ⊎ ((n : ℕ) × Has n (client_numbers core.clients) × (64 + n ≡ i) × Has x (old i))

  joined : (of : HeldLink → Lists) (old a b c : ℕ → Lists) → ((i : ℕ) → of (held_by core.control i) ≡ old i) → ((i : ℕ) (x : List ConstraintParts) → Has x (a i) → ⊥)
      → ((i : ℕ) (x : List ConstraintParts) → Has x (b i) ↔ (Has x (a i) ⊎ IsGiven of held i x))
      → ((i : ℕ) (x : List ConstraintParts) → Has x (c i) ↔ (Has x (b i) ⊎ IsGiven of (held_by_clients core.control (client_numbers core.clients)) i x))
      → (i : ℕ) (x : List ConstraintParts) → Has x (c i) ↔ both of old i x
  joined of old a b c same none one two i x = (to, from)
    where
      to : Has x (c i) → both of old i x
      to m = elim ((two i x).0 m) [
        | inl k ↦ elim ((one i x).0 k) [ inl j ↦ absurd (none i x j) | inr g ↦ inl g ]
        | inr g ↦ inr ((by-clients of core.control (client_numbers core.clients) old same i x).0 g)
      ]

      from : both of old i x → Has x (c i)
      from (inl g) = (two i x).1 (inl ((one i x).1 (inr g)))
      from (inr g) = (two i x).1 (inr ((by-clients of core.control (client_numbers core.clients) old same i x).1 g))

  pub made-linked : IsLinked held core.control new.control
  made-linked = record {
    links = put-clients.links ∙ (put-links.links ∙ links);
    filters = relinked sub_laws (λ h. h.filters) held (subs core.control) (subs new.control) (client_numbers core.clients) core.control.links ok.rising ok.small ok.filters (λ n m. (range-of core kept n m).0)
        (λ i. rising-where sub_laws _ core.control.filters) (λ i. rising-where sub_laws _ new.control.filters) kept.links_small known-filters
        (joined (λ h. h.filters) (subs core.control) (subs first.control) (subs mid.control) (subs new.control) (λ i. refl) (λ i x m. none-from i first.control.filters x no-filters m) put-links.filters put-clients.filters);
    adverts = relinked ad_laws (λ h. h.adverts) held (advs core.control) (advs new.control) (client_numbers core.clients) core.control.links ok.rising ok.small ok.adverts (λ n m. (range-of core kept n m).0)
        (λ i. rising-where ad_laws _ core.control.adverts) (λ i. rising-where ad_laws _ new.control.adverts) kept.links_small known-adverts
        (joined (λ h. h.adverts) (advs core.control) (advs first.control) (advs mid.control) (advs new.control) (λ i. refl) (λ i x m. none-from i first.control.adverts x no-adverts m) put-links.adverts put-clients.adverts);
  }

  pub made-suits : first.net ≡ core.net → first.control.semantics ≡ core.control.semantics → first.interfaces ≡ interfaces_on (map (λ h. h.link) held) (client_numbers core.clients) → SuitsCore core new
  made-suits net semantics whole = record {
    net = put-clients.net ∙ (put-links.net ∙ net);
    interfaces = put-clients.interfaces ∙ (put-links.interfaces ∙ (whole ∙ ap (λ z. interfaces_on z (client_numbers core.clients)) (sym made-linked.links)));
    semantics = put-clients.semantics ∙ (put-links.semantics ∙ semantics);
    rising = subst (IsRising nat_lt) (sym made-linked.links) ok.rising;
    small = λ link m. small-links held (λ h n. ok.small h n) link (subst (Has link) made-linked.links m);
    client_filters = made-linked.filters.clients;
    client_adverts = made-linked.adverts.clients;
  }

-- lists that are gone over
pub held-at : (held : List NetHeld) (n : ℕ) (h : NetHeld) → slice_get held n ≡ Some h → slice_get (held_in held) n ≡ Some h.held
held-at [] n h e = cc
held-at (x ∷ held) zero h e = ap (λ (z : NetHeld). Some z.held) (same_Some x h e)
held-at (x ∷ held) (suc n) h e = held-at held n h e

all-mapped : {A B : Type 0} (f : A → B) (xs : List A) (n : ℕ) → length xs ≤ n → take n (map f xs) ≡ map f xs
all-mapped f [] n l = none n
  where
    none : (n : ℕ) → take n (map f []) ≡ map f []
    none zero = refl
    none (suc n) = refl
all-mapped f (x ∷ xs) zero l = absurd (omega (arith, l))
all-mapped f (x ∷ xs) (suc n) l = ap (λ z. f x ∷ z) (all-mapped f xs n (omega (arith, l)))

pub all-held : (held : List NetHeld) (n : ℕ) → length held ≤ n → take n (held_in held) ≡ held_in held
all-held held n l = all-mapped (λ (h : NetHeld). h.held) held n l

pub clients-at : (c : Controlled) (ns : List ℕ) (n client : ℕ) → slice_get ns n ≡ Some client → slice_get (held_by_clients c ns) n ≡ Some (held_by c (64 + client))
clients-at c [] n client e = cc
clients-at c (x ∷ ns) zero client e = ap (λ z. Some (held_by c (64 + z))) (same_Some x client e)
clients-at c (x ∷ ns) (suc n) client e = clients-at c ns n client e

pub all-clients : (c : Controlled) (ns : List ℕ) (n : ℕ) → length ns ≤ n → take n (held_by_clients c ns) ≡ held_by_clients c ns
all-clients c ns n l = all-mapped (λ k. held_by c (64 + k)) ns n l

pub put-begin : (xs : List HeldLink) (a : LedgerParts) → ArePut (take 0 xs) a a
put-begin [] a = put-none a
put-begin (x ∷ xs) a = put-none a

-- once all is installed, it suits the core as before
pub installed-suits : (core : CoreParts) (a b : LedgerParts) → b.net ≡ a.net → b.interfaces ≡ a.interfaces → b.control ≡ a.control → SuitsCore core a → SuitsCore core b
installed-suits core a b n i c s = record {
  net = n ∙ s.net;
  interfaces = i ∙ (s.interfaces ∙ ap (λ z. interfaces_on z.links (client_numbers core.clients)) (sym c));
  semantics = ap (λ z. z.semantics) c ∙ s.semantics;
  rising = subst (λ z. IsRising nat_lt z.links) (sym c) s.rising;
  small = subst (λ z. (link : ℕ) → Has link z.links → link ≤ 64) (sym c) s.small;
  client_filters = subst (λ z. (i : ℕ) → 64 < i → subs z i ≡ subs core.control i) (sym c) s.client_filters;
  client_adverts = subst (λ z. (i : ℕ) → 64 < i → advs z i ≡ advs core.control i) (sym c) s.client_adverts;
}
