-- Proves what the tables of clients' filters find for a publication.
use Rattle.std.proofs.Common.{◌≡◌, ℕ, zero, suc, ◌+◌, ◌<◌, ◌≤◌, Bool, true, false, not, ◌&&◌, ◌||◌, nat_eq, ◌⊎◌, inl, inr, List, [], ◌∷◌, filter, length, take, drop, slice_get, slice_set, get_or, Some, Result, Ok, Err, is_ok, MatchResult, refl, sym, ap, subst, ◌∙◌, arith}
use Rattle.std.specs.List.{Contains, list_any}
use Rattle.std.specs.List.Sorted.{IsStrictlyIncreasing, IsBinarySearchResult, IsPermutation}
use Rattle.std.proofs.lemmas.List.Sorted.{searched, Contains-permutation, IsPermutation-sym}
use Rattle.std.specs.Ordering.{nat_cmp}
use Rattle.std.proofs.lemmas.Bool.{cases_order, cases_eq, cases_lt}
use Rattle.std.proofs.lemmas.List.{get_or_default}
use Rattle.std.proofs.lemmas.Option.{slice_get-get_or, get_or_from_slice_get, same_Some, slice_get_within}
use Rattle.std.proofs.lemmas.Map.Views.{any-filter_same}
use Rattle.std.proofs.lemmas.List.Kept.{IsStrictlyIncreasing-filter}
use Rattle.filter_constraints.specs.Constraint.{ConstraintParts}
use Rattle.filter_types.specs.Notice.{Attribute, AreValues}
use Rattle.filter_types.specs.Cover.{matches}
use Rattle.base.specs.Sets.{Has}
use Rattle.law_routing.specs.Clients.{some_pass}
use Rattle.law_routing.proofs.Listing.{pass-by, by-pass, take-one}
use Rattle.net_model.specs.Real.{real}
use Rattle.net_model.proofs.Meaning.{matches_plain}
use Rattle.match_filters.specs.Matching.{matched}
use Rattle.match_filters.proofs.Members.{matched-iff}
use Rattle.match_routes.specs.Installed.{Pair}
use Rattle.match_routes.specs.Routes.{IsRouteBy}
use Rattle.net_tables.specs.Known.{known_filters}
use Rattle.net_tables.specs.Numbered.{AreNumbered, AllNumbered, catalogued}
use Rattle.net_model.specs.Parts.{ClientParts}
use Rattle.output_flood.specs.declared.filters.ClientFilters.{ClientFilters}
use Rattle.output_flood.specs.declared.publication.Publication.{Publication}
use Rattle.output_flood.specs.declared.tables.Tables.{Tables}
use Rattle.output_flood.specs.declared.meeting.Met.{Met}
use Rattle.filter_text.specs.Messages.{Lists}
use Rattle.output_flood.specs.Publications.{is_met}
use Rattle.output_flood.specs.Held.{every_filters, some_filters}
use Rattle.output_flood.specs.Numbers.{Steps, Shows, every_number, ever_number}
use Rattle.output_flood.specs.Tables.{ShowsRow, AreTables, is_found, Meets, MeetsAt, AllMeet, ordered_from}
use Rattle.output_flood.proofs.Numbered.{numbered_at, every_shown, ever_shown}
use Rattle.base.proofs.Sets.{get-has, has-append, has-contains, contains-has, increasing-get_or}
use Rattle.std.specs.Cmp.{both_ways}
use Rattle.base.proofs.Lists.{drop-some, get-below}
use Rattle.base.proofs.Numbers.{nat_eq-true, nat_eq-self}
use Rattle.std.proofs.Math.Seq.{take-length}

pub drop_get : {X : Type 0} (xs : List X) (k : ℕ) (x : X) → slice_get xs k ≡ Some x → drop k xs ≡ x ∷ drop (k + 1) xs
drop_get xs k x e = drop-some xs k x e ∙ ap (λ z. x ∷ drop z xs) (next k)
  where
    next : (k : ℕ) → suc k ≡ k + 1
    next k = omega arith

-- members and places
first : {X : Type 0} (x : X) (xs : List X) → Contains (x ∷ xs) x
first x xs = (zero, omega arith, refl)

later : {X : Type 0} (y x : X) (xs : List X) → Contains xs x → Contains (y ∷ xs) x
later y x xs h = (suc h.0, omega (arith, h.1), h.2)

parts : {X : Type 0} (y x : X) (xs : List X) → Contains (y ∷ xs) x → (y ≡ x) ⊎ Contains xs x
parts y x xs (zero, l, e) = inl e
parts y x xs (suc k, l, e) = inr (k, omega (arith, l), e)

pub set_same : {X : Type 0} (xs : List X) (k : ℕ) (v w : X) → slice_get (slice_set xs k v) k ≡ Some w → w ≡ v
set_same [] k v w e = absurd cc
set_same (x ∷ xs) zero v w e = sym (same_Some _ _ e)
set_same (x ∷ xs) (suc k) v w e = set_same xs k v w e

pub set_other : {X : Type 0} (xs : List X) (j k : ℕ) (v : X) → (j ≡ k → ⊥) → slice_get (slice_set xs k v) j ≡ slice_get xs j
set_other [] j k v n = refl
set_other (x ∷ xs) zero zero v n = absurd (n refl)
set_other (x ∷ xs) zero (suc k) v n = refl
set_other (x ∷ xs) (suc j) zero v n = refl
set_other (x ∷ xs) (suc j) (suc k) v n = set_other xs j k v (λ e. n (ap suc e))

strict : (i j : ℕ) → i ≤ j → (i ≡ j → ⊥) → i < j
strict i j le n = elim (cases_order i j) [
  | inl e ↦ absurd (n e)
  | inr r ↦ elim r [ inl l ↦ l | inr g ↦ absurd (omega (arith, le, g)) ]
]

-- tests of places
any_passes : {X : Type 0} (test : X → Bool) (xs : List X) → list_any test xs ≡ some_pass test xs
any_passes test [] = refl
any_passes test (x ∷ xs) = ap (λ b. test x || b) (any_passes test xs)

pub found_has : (q : ℕ) (xs : List ℕ) → is_found q xs ≡ true → Has q xs
found_has q xs e = let r = by-pass (λ y. nat_eq y q) xs (sym (any_passes (λ y. nat_eq y q) xs) ∙ e) in subst (λ z. Has z xs) (nat_eq-true r.0 q r.2) r.1

pub has_found : (q : ℕ) (xs : List ℕ) → Has q xs → is_found q xs ≡ true
has_found q xs h = any_passes (λ y. nat_eq y q) xs ∙ pass-by (λ y. nat_eq y q) q xs h (nat_eq-self q)

not_there : (xs : List ℕ) (x i : ℕ) → ((k : ℕ) → k < i → get_or xs k 0 < x) → ((k : ℕ) → i ≤ k → k < length xs → x < get_or xs k 0) → Contains xs x → ⊥
not_there xs x i below above s =
    let same : get_or xs s.0 0 ≡ x = get_or_default xs s.0 0 x s.1 ∙ s.2 in
    elim (cases_lt s.0 i) [
      | inl l ↦ (let less = below s.0 l in omega (arith, less, same))
      | inr g ↦ (let more = above s.0 g s.1 in omega (arith, more, same))
    ]

found_by : (xs : List ℕ) (x : ℕ) (r : Result ℕ ℕ) → MatchResult r (λ i. (i < length xs) × (get_or xs i 0 ≡ x))
    (λ i. (i ≤ length xs) × ((k : ℕ) → k < i → get_or xs k 0 < x) × ((k : ℕ) → i ≤ k → k < length xs → x < get_or xs k 0)) → is_ok r ≡ is_found x xs
found_by xs x (Ok i) m = sym (has_found x xs (get-has xs i x (slice_get-get_or xs i 0 m.0 ∙ ap Some m.1)))
found_by xs x (Err i) m = lost (is_found x xs) refl
  where
    lost : (b : Bool) → is_found x xs ≡ b → false ≡ is_found x xs
    lost false e = sym e
    lost true e = absurd (not_there xs x i m.1 m.2 (has-contains x xs (found_has x xs e)))

-- what a binary search tells
pub searched_found : (xs : List ℕ) (x : ℕ) (r : Result ℕ ℕ) → IsBinarySearchResult (λ y. nat_cmp y x) xs r → IsStrictlyIncreasing xs → is_ok r ≡ is_found x xs
searched_found xs x r h up = found_by xs x r (searched xs x r h (increasing-get_or xs up))

plain : (n : List Attribute) (f : List ConstraintParts) → AreValues n → real.matches n f ≡ matches n f
plain n f v = ap (λ m. m f) (matches_plain n v)

-- a place is on a route exactly where one of its filters matches
pub found_at : (n : List Attribute) (known : Lists) (pairs : List Pair) (route : List ℕ) (place : ℕ) (members : List ℕ) (list : Lists) → AreValues n → ShowsRow pairs place members
    → Shows known members list → IsRouteBy (matched n known) pairs route → is_found place route ≡ is_met list n
found_at n known pairs route place members list v row shows r = both_ways (is_found place route) (is_met list n) to back
  where
    at : (i : ℕ) (f : List ConstraintParts) → slice_get known i ≡ Some f → get_or known i [] ≡ f
    at i f e = get_or_from_slice_get known i f [] e

    to : is_found place route ≡ true → is_met list n ≡ true
    to h =
        let m = (r.exact place).0 (has-contains place route (found_has place route h)) in
        let s = shows.sound m.0 ((row m.0).0 m.2) in
        let k = (matched-iff n known m.0).0 m.1 in
        pass-by (λ f. real.matches n f) s.0 list s.2 (plain n s.0 v ∙ subst (λ z. matches n z ≡ true) (at m.0 s.0 s.1) k.1)

    back : is_met list n ≡ true → is_found place route ≡ true
    back h =
        let w = by-pass (λ f. real.matches n f) list h in
        let s = shows.whole w.0 w.1 in
        let k : Has s.0 (matched n known) = (matched-iff n known s.0).1 (slice_get_within known s.0 w.0 s.1, subst (λ z. matches n z ≡ true) (sym (at s.0 w.0 s.1)) (sym (plain n w.0 v) ∙ w.2)) in
        has_found place route (contains-has place route ((r.exact place).1 (s.0, k, (row s.0).1 s.2)))

apart : (i : ℕ) (every passing : List ℕ) → is_found i (filter (λ x. not (is_found x every)) passing) ≡ not (is_found i every) && is_found i passing
apart i every passing =
    any-filter_same (λ y. nat_eq y i) (λ x. not (is_found x every)) (not (is_found i every)) (λ k e. ap (λ z. not (is_found z every)) (nat_eq-true k i e)) passing

-- the clients that a publication meets, by the numbers of each
pub meets : (known : Lists) (clients : List ClientParts) (scripts : List Steps) (tables : Tables) (p : Publication) (ever : List ℕ) (met : Met) → AreValues p.notice
    → known ≡ known_filters clients → AllNumbered (catalogued clients) 1 scripts clients → AreTables known scripts tables
    → tables.phase ≡ Some p.phase → IsRouteBy (matched p.notice known) tables.every.pairs met.every → IsRouteBy (matched p.notice known) tables.ever.pairs ever
    → met.others.items ≡ filter (λ x. not (is_found x met.every)) ever → Meets clients p met
meets known clients scripts tables p ever met v is numbered t same a b e = record {
  rising = record {
    every = a.rising;
    others = subst IsStrictlyIncreasing (sym e) (IsStrictlyIncreasing-filter (λ x. not (is_found x met.every)) ever b.rising);
  };
  every = λ place client at. let l = mine place client at in
      found_at p.notice known tables.every.pairs met.every place l.1.0.every.members (every_filters p.phase client.script) v
      (t.ready.shown.at_every place l.1.0 l.1.1) (subst (λ z. Shows known z (every_filters p.phase client.script)) (sym (t.current p.phase same place l.0.0 l.1.0 l.0.1 l.1.1).every) l.0.2.0) a;
  others = λ place client at. let l = mine place client at in
      ap (is_found place) e
      ∙ apart place met.every ever
      ∙ ap (λ z. not (is_found place met.every) && z)
      (found_at p.notice known tables.ever.pairs ever place l.1.0.ever.members (some_filters p.phase client.script) v
      (t.ready.shown.at_some place l.1.0 l.1.1) (subst (λ z. Shows known z (some_filters p.phase client.script)) (sym (t.current p.phase same place l.0.0 l.1.0 l.0.1 l.1.1).ever) l.0.2.1) b);
}
  where
    mine : (place : ℕ) (client : ClientParts) → slice_get clients place ≡ Some client
        → ((steps : Steps) × (slice_get scripts place ≡ Some steps) × (Shows known (every_number known p.phase steps) (every_filters p.phase client.script) × Shows known (ever_number known p.phase steps) (some_filters p.phase client.script)))
        × ((l : ClientFilters) × (slice_get tables.clients.items place ≡ Some l))
    mine place client at =
        let s = numbered_at (catalogued clients) 1 scripts clients place client numbered at in
        let q : AreNumbered (catalogued clients) (1 + place) 0 s.0 client.script = s.2 in (
          (s.0, s.1, (every_shown known (catalogued clients) (1 + place) 0 p.phase s.0 client.script (sym is) q, ever_shown known (catalogued clients) (1 + place) 0 p.phase s.0 client.script (sym is) q)),
          get-below tables.clients.items place (subst (λ z. place < z) (sym t.ready.count) (slice_get_within scripts place s.0 s.1)),
        )

-- publications by phase
pub ordered_has : (m : ℕ) (ps : List Publication) (k : ℕ) (p : Publication) → slice_get ps k ≡ Some p → Has (p.phase, m + k) (ordered_from m ps)
ordered_has m [] k p e = absurd cc
ordered_has m (q ∷ ps) zero p e = inl (ap (λ (z : Publication). (z.phase, m + 0)) (sym (same_Some _ _ e)) ∙ ap (λ z. (q.phase, z)) (zeroth m))
  where
    zeroth : (m : ℕ) → m + 0 ≡ m
    zeroth m = omega arith
ordered_has m (q ∷ ps) (suc k) p e = inr (subst (λ z. Has (p.phase, z) (ordered_from (m + 1) ps)) (next m k) (ordered_has (m + 1) ps k p e))
  where
    next : (m k : ℕ) → (m + 1) + k ≡ m + suc k
    next m k = omega arith

pub ordered_within : (m : ℕ) (ps : List Publication) (x : ℕ × ℕ) → Has x (ordered_from m ps) → x.1 < m + length ps
ordered_within m [] x h = absurd h
ordered_within m (q ∷ ps) x (inl e) = let s : x.1 ≡ m = ap (λ (z : ℕ × ℕ). z.1) e in omega (arith, s)
ordered_within m (q ∷ ps) x (inr h) = let i = ordered_within (m + 1) ps x h in omega (arith, i)

pub met_next : (clients : List ClientParts) (publications : List Publication) (mets : List Met) (order : List (ℕ × ℕ)) (j : ℕ) (at : ℕ × ℕ) (p : Publication) (met : Met)
    → slice_get order j ≡ Some at → slice_get publications at.1 ≡ Some p → Meets clients p met
    → ((x : ℕ × ℕ) → Has x (take j order) → MeetsAt clients publications mets x.1)
    → (x : ℕ × ℕ) → Has x (take (j + 1) order) → MeetsAt clients publications (slice_set mets at.1 met) x.1
met_next clients publications mets order j at p met e has meet before x h q m mine set = elim (cases_eq x.1 at.1) [
  | inl s ↦
      let it : m ≡ met = set_same mets at.1 met m (subst (λ z. slice_get (slice_set mets at.1 met) z ≡ Some m) s set) in
      let of : q ≡ p = same_Some _ _ (sym mine ∙ ap (slice_get publications) s ∙ has) in
      subst (λ (z : Met). Meets clients q z) (sym it) (subst (λ (z : Publication). Meets clients z met) (sym of) meet)
  | inr n ↦ elim (earlier x h) [
    | inl b ↦ before x b q m mine (sym (set_other mets x.1 at.1 met n) ∙ set)
    | inr s ↦ absurd (n (ap (λ (z : ℕ × ℕ). z.1) s))
  ]
]
  where
    next : (k : ℕ) → k + 1 ≡ suc k
    next k = omega arith

    earlier : (x : ℕ × ℕ) → Has x (take (j + 1) order) → Has x (take j order) ⊎ (x ≡ at)
    earlier x h = elim (has-append x (take j order) (at ∷ []) (subst (λ (z : List (ℕ × ℕ)). Has x z) (ap (λ z. take z order) (next j) ∙ take-one order j at e) h)) [
      | inl b ↦ inl b
      | inr c ↦ elim c [ inl s ↦ inr s | inr z ↦ absurd z ]
    ]

none_before : {X : Type 0} (x : X) (xs : List X) → Has x (take 0 xs) → ⊥
none_before x [] h = h
none_before x (y ∷ ys) h = h

pub met_first : (clients : List ClientParts) (publications : List Publication) (mets : List Met) (order : List (ℕ × ℕ))
    → (x : ℕ × ℕ) → Has x (take 0 order) → MeetsAt clients publications mets x.1
met_first clients publications mets order x h = absurd (none_before x order h)

pub all_meet : (clients : List ClientParts) (publications : List Publication) (mets : List Met) (order : List (ℕ × ℕ)) → length mets ≡ length publications
    → IsPermutation (ordered_from 0 publications) order
    → ((x : ℕ × ℕ) → Has x (take (length order) order) → MeetsAt clients publications mets x.1) → AllMeet clients publications mets
all_meet clients publications mets order count same met = record { count = count; each = each }
  where
    zeroth : (k : ℕ) → 0 + k ≡ k
    zeroth k = omega arith

    there : (k : ℕ) (p : Publication) → slice_get publications k ≡ Some p → Has (p.phase, 0 + k) (take (length order) order)
    there k p at = subst (λ (z : List (ℕ × ℕ)). Has (p.phase, 0 + k) z) (sym (take-length order))
        (contains-has (p.phase, 0 + k) order (Contains-permutation (ordered_from 0 publications) order (p.phase, 0 + k) same
        (has-contains (p.phase, 0 + k) (ordered_from 0 publications) (ordered_has 0 publications k p at))))

    each : (k : ℕ) → MeetsAt clients publications mets k
    each k p m at of = subst (λ z. MeetsAt clients publications mets z) (zeroth k) (met (p.phase, 0 + k) (there k p at)) p m at of

-- each place is of a publication
pub place_within : (publications : List Publication) (order : List (ℕ × ℕ)) (j : ℕ) (x : ℕ × ℕ) → IsPermutation (ordered_from 0 publications) order → slice_get order j ≡ Some x
    → x.1 < length publications
place_within publications order j x same at =
    let c = Contains-permutation order (ordered_from 0 publications) x (IsPermutation-sym (ordered_from 0 publications) order same) (has-contains x order (get-has order j x at)) in
    let w = ordered_within 0 publications x (contains-has x (ordered_from 0 publications) c) in
    omega (arith, w)
