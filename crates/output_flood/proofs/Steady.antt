-- Clients that have the same filters all through a phase: both tables are alike.
use Rattle.std.proofs.Common.{◌≡◌, ◌↔◌, ℕ, zero, suc, ◌+◌, ◌<◌, ◌≤◌, inl, inr, Bool, true, false, not, nat_lt, List, [], ◌∷◌, filter, length, slice_get, Some, refl, sym, subst, ◌∙◌, arith}
use Rattle.std.specs.List.{range_with_len}
use Rattle.std.proofs.lemmas.Bool.{cases_order, cases_eq}
use Rattle.base.specs.Sets.{Has, member, minus}
use Rattle.base.proofs.Sets.{minus-has, member-has}
use Rattle.base_bits.proofs.Passing.{nat_laws}
use Rattle.filter_types.specs.Notice.{AreValues}
use Rattle.match_filters.specs.Matching.{matched}
use Rattle.match_routes.specs.Installed.{Pair, IsInstalled}
use Rattle.match_routes.specs.Routes.{IsRouteBy}
use Rattle.net_tables.specs.Known.{known_filters}
use Rattle.net_tables.specs.Numbered.{AllNumbered, catalogued}
use Rattle.net_model.specs.Parts.{ClientParts}
use Rattle.filter_text.specs.Messages.{Lists}
use Rattle.output_flood.specs.declared.filters.ClientFilters.{ClientFilters}
use Rattle.output_flood.specs.declared.publication.Publication.{Publication}
use Rattle.output_flood.specs.declared.tables.Tables.{Tables}
use Rattle.output_flood.specs.declared.meeting.Met.{Met}
use Rattle.output_flood.specs.Numbers.{Steps}
use Rattle.output_flood.specs.Tables.{IsSteady, SteadyUpTo, AreSteady, AreTables, AreOthers, is_found, Meets}
use Rattle.output_flood.proofs.Finding.{has_found, meets}
use Rattle.base.proofs.Lists.{get-below}
use Rattle.std.proofs.lemmas.Option.{slice_get_within}

-- nothing is left of a row without another one that has all of it
pub all_there : (row other left : List ℕ) → left ≡ minus nat_lt other row → left ≡ [] → (i : ℕ) → Has i other → Has i row
all_there row other left e none i h = go (member nat_lt i row) refl
  where
    go : (b : Bool) → member nat_lt i row ≡ b → Has i row
    go true m = member-has nat_laws i row m
    go false m = absurd (subst (Has i) (sym e ∙ none) (minus-has nat_laws i other row h m))

-- one client more
pub steady_next : (place : ℕ) (old new : List ClientFilters) → ((q : ℕ) → (q ≡ place → ⊥) → slice_get new q ≡ slice_get old q)
    → ((c : ClientFilters) → slice_get new place ≡ Some c → IsSteady c) → SteadyUpTo place old → SteadyUpTo (place + 1) new
steady_next place old new others mine before q c l at = elim (cases_eq q place) [
  | inl s ↦ mine c (subst (λ z. slice_get new z ≡ Some c) s at)
  | inr n ↦ before q c (strict q place (omega (arith, l)) n) (sym (others q n) ∙ at)
]
  where
    strict : (i j : ℕ) → i ≤ j → (i ≡ j → ⊥) → i < j
    strict i j le n = elim (cases_order i j) [
      | inl e ↦ absurd (n e)
      | inr r ↦ elim r [ inl k ↦ k | inr g ↦ absurd (omega (arith, le, g)) ]
    ]

pub all_steady : (place : ℕ) (clients : List ClientFilters) → length clients ≤ place → SteadyUpTo place clients → AreSteady clients
all_steady place clients l upto q c at = upto q c (omega (arith, slice_get_within clients q c at, l)) at

-- a place is below the count
in_range : (a n q : ℕ) → Has q (range_with_len a n) → q < a + n
in_range a zero q h = absurd h
in_range a (suc n) q (inl e) = omega (arith, e)
in_range a (suc n) q (inr h) = let i = in_range (a + 1) n q h in omega (arith, i)

-- the pairs of both tables
module _ (known : Lists) (scripts : List Steps) (tables : Tables) (t : AreTables known scripts tables) (steady : tables.steady ≡ true) where
  client_at : (interfaces : List ℕ) (q : ℕ) → interfaces ≡ range_with_len 0 (length scripts) → Has q interfaces → (c : ClientFilters) × (slice_get tables.clients.items q ≡ Some c)
  client_at interfaces q e h =
      let l = in_range 0 (length scripts) q (subst (Has q) e h) in
      get-below tables.clients.items q (omega (arith, l, t.ready.count))

  same_pairs : IsInstalled tables.every → IsInstalled tables.ever → (x : Pair) → Has x tables.every.pairs ↔ Has x tables.ever.pairs
  same_pairs every ever x = (
    (λ h.
        let c = client_at tables.every.interfaces x.0 t.ready.every_places (every.known x h).interface in
        let s = t.steady steady x.0 c.0 c.1 x.1 in
        (t.ready.shown.at_some x.0 c.0 c.1 x.1).1 (s.0 ((t.ready.shown.at_every x.0 c.0 c.1 x.1).0 h))),
    (λ h.
        let c = client_at tables.ever.interfaces x.0 t.ready.ever_places (ever.known x h).interface in
        let s = t.steady steady x.0 c.0 c.1 x.1 in
        (t.ready.shown.at_every x.0 c.0 c.1 x.1).1 (s.1 ((t.ready.shown.at_some x.0 c.0 c.1 x.1).0 h))),
  )

  same_route : IsInstalled tables.every → IsInstalled tables.ever → (numbers route : List ℕ) → IsRouteBy numbers tables.every.pairs route → IsRouteBy numbers tables.ever.pairs route
  same_route every ever numbers route r = record {
    rising = r.rising;
    exact = λ q. (
      (λ h. let m = (r.exact q).0 h in (m.0, m.1, (same_pairs every ever (q, m.0)).0 m.2)),
      (λ m. (r.exact q).1 (m.0, m.1, (same_pairs every ever (q, m.0)).1 m.2)),
    );
  }

-- nothing is left of places without themselves
none_left : (xs : List ℕ) → filter (λ x. not (is_found x xs)) xs ≡ []
none_left xs = go xs (λ x h. h)
  where
    keep : (x : ℕ) (ys : List ℕ) → is_found x xs ≡ true → filter (λ x. not (is_found x xs)) ys ≡ [] → filter (λ x. not (is_found x xs)) (x ∷ ys) ≡ []
    keep x ys e h = rw e h

    go : (ys : List ℕ) → ((x : ℕ) → Has x ys → Has x xs) → filter (λ x. not (is_found x xs)) ys ≡ []
    go [] sub = refl
    go (y ∷ ys) sub = keep y ys (has_found y xs (sub y (inl refl))) (go ys (λ x h. sub x (inr h)))

-- the clients that a publication meets
pub meets_all : (known : Lists) (clients : List ClientParts) (scripts : List Steps) (tables : Tables) (p : Publication) (met : Met) → AreValues p.notice
    → IsInstalled tables.every → IsInstalled tables.ever
    → known ≡ known_filters clients → AllNumbered (catalogued clients) 1 scripts clients → AreTables known scripts tables
    → tables.phase ≡ Some p.phase → IsRouteBy (matched p.notice known) tables.every.pairs met.every
    → AreOthers tables (matched p.notice known) met.every met.others.items → Meets clients p met
meets_all known clients scripts tables p met v every ever is numbered t same a (inl alone) =
    meets known clients scripts tables p met.every met v is numbered t same a (same_route known scripts tables t alone.0 every ever (matched p.notice known) met.every a)
    (alone.1 ∙ sym (none_left met.every))
meets_all known clients scripts tables p met v every ever is numbered t same a (inr other) =
    meets known clients scripts tables p other.0 met v is numbered t same a other.1 other.2
