-- A client goes on to a phase, and so do the tables.
use Rattle.std.proofs.Common.{◌≡◌, ℕ, zero, suc, ◌+◌, ◌-◌, ◌<◌, ◌≤◌, true, inl, inr, List, [], ◌∷◌, ◌++◌, length, take, drop, slice_get, slice_set, Some, refl, sym, ap, subst, ◌∙◌, arith}
use Rattle.std.proofs.lemmas.Bool.{cases_order, cases_eq}
use Rattle.std.proofs.lemmas.Option.{same_Some, slice_get_within}
use Rattle.base.specs.Sets.{Has}
use Rattle.match_routes.specs.Installed.{Pair, IsOfSame}
use Rattle.filter_text.specs.Messages.{Lists}
use Rattle.output_flood.specs.declared.filters.ClientFilters.{ClientFilters}
use Rattle.output_flood.specs.declared.tables.Tables.{Tables}
use Rattle.output_flood.specs.Numbers.{Steps, AreNumbers, IsAt, IsSized, number_step, numbers_held}
use Rattle.output_flood.specs.Tables.{ShowsRow, IsBrought, AreGoing, IsReady, IsOfPhase, AllUpTo, AreSteady, AreAll, AreTables}
use Rattle.output_flood.proofs.Finding.{set_same, set_other}
use Rattle.base.proofs.Lists.{length-slice_set}

-- members of a slice
taken_has : {T : Type 0} (x : T) (k : ℕ) (xs : List T) → Has x (take k xs) → Has x xs
taken_has x zero [] h = h
taken_has x (suc k) [] h = h
taken_has x zero (y ∷ ys) h = absurd h
taken_has x (suc k) (y ∷ ys) (inl e) = inl e
taken_has x (suc k) (y ∷ ys) (inr h) = inr (taken_has x k ys h)

dropped_has : {T : Type 0} (x : T) (k : ℕ) (xs : List T) → Has x (drop k xs) → Has x xs
dropped_has x zero [] h = h
dropped_has x (suc k) [] h = h
dropped_has x zero (y ∷ ys) h = h
dropped_has x (suc k) (y ∷ ys) h = inr (dropped_has x k ys h)

pub slice_numbers : (count j k : ℕ) (steps : Steps) → AreNumbers count steps → AreNumbers count (take j (drop k steps))
slice_numbers count j k steps h step m = h step (dropped_has step k steps (taken_has step j (drop k steps) m))

-- held numbers, piece by piece
held_on : (known : Lists) (xs : List ℕ) (one more : Steps) → numbers_held known xs (one ++ more) ≡ numbers_held known (numbers_held known xs one) more
held_on known xs [] more = refl
held_on known xs (s ∷ one) more = held_on known (number_step known xs s.1) one more

pieces : {T : Type 0} (j k : ℕ) (xs : List T) → j ≤ k → take k xs ≡ take j xs ++ take (k - j) (drop j xs)
pieces zero k [] l = nothing k (k - 0)
  where
    nothing : {T : Type 0} (k n : ℕ) → take {A = T} k [] ≡ take 0 [] ++ take n (drop 0 [])
    nothing zero zero = refl
    nothing zero (suc n) = refl
    nothing (suc k) zero = refl
    nothing (suc k) (suc n) = refl
pieces zero k (x ∷ xs) l = ap (λ z. take z (x ∷ xs)) (less k)
  where
    less : (k : ℕ) → k ≡ k - 0
    less k = omega arith
pieces (suc j) zero xs l = absurd (omega (arith, l))
pieces (suc j) (suc k) [] l = nothing (suc k - suc j)
  where
    nothing : {T : Type 0} (n : ℕ) → ◌≡◌ {A = List T} [] ([] ++ take n [])
    nothing zero = refl
    nothing (suc n) = refl
pieces (suc j) (suc k) (x ∷ xs) l = ap (λ z. x ∷ z) (pieces j k xs (omega (arith, l)) ∙ ap (λ z. take j xs ++ take z (drop j xs)) (same j k))
  where
    same : (j k : ℕ) → k - j ≡ suc k - suc j
    same j k = omega arith

pub gone_on : (known : Lists) (done to : ℕ) (steps : Steps) (old new : List ℕ) → done ≤ to → old ≡ numbers_held known [] (take done steps)
    → new ≡ numbers_held known old (take (to - done) (drop done steps)) → new ≡ numbers_held known [] (take to steps)
gone_on known done to steps old new l e f =
    f ∙ ap (λ z. numbers_held known z (take (to - done) (drop done steps))) e
    ∙ sym (held_on known [] (take done steps) (take (to - done) (drop done steps)))
    ∙ ap (numbers_held known []) (sym (pieces done to steps l))

-- one client entered
elsewhere : (place q : ℕ) (members others : List ℕ) (old new : List Pair) → (q ≡ place → ⊥) → IsBrought place members old new → ShowsRow old q others → ShowsRow new q others
elsewhere place q members others old new n b s i = (
  (λ h. (s i).0 ((b.others (q, i) n).0 h)),
  (λ h. (b.others (q, i) n).1 ((s i).1 h)),
)

brought_at : (clients : List ClientFilters) (place : ℕ) (client : ClientFilters) (of : ClientFilters → List ℕ) (old new : List Pair) → IsBrought place (of client) old new
    → ((q : ℕ) (c : ClientFilters) → slice_get clients q ≡ Some c → ShowsRow old q (of c))
    → (q : ℕ) (c : ClientFilters) → slice_get (slice_set clients place client) q ≡ Some c → ShowsRow new q (of c)
brought_at clients place client of old new b s q c at = elim (cases_eq q place) [
  | inl e ↦ subst (λ z. ShowsRow new z (of c)) (sym e)
      (subst (λ (z : ClientFilters). ShowsRow new place (of z)) (sym (set_same clients place client c (subst (λ z. slice_get (slice_set clients place client) z ≡ Some c) e at))) b.shows)
  | inr n ↦ elsewhere place q (of client) (of c) old new n b (s q c (sym (set_other clients q place client n) ∙ at))
]

pub ready_next : (known : Lists) (scripts : List Steps) (old new : Tables) (place : ℕ) (client : ClientFilters) → new.clients.items ≡ slice_set old.clients.items place client
    → IsOfSame new.every old.every → IsOfSame new.ever old.ever → IsBrought place client.every.members old.every.pairs new.every.pairs
    → IsBrought place client.ever.members old.ever.pairs new.ever.pairs → IsSized (length known) client
    → ((steps : Steps) → slice_get scripts place ≡ Some steps → IsAt known steps client) → IsReady known scripts old → IsReady known scripts new
ready_next known scripts old new place client e same same_ever b d sized at r = record {
  count = ap length e ∙ length-slice_set old.clients.items place client ∙ r.count;
  going = record {
    sized = λ q c h. elim (cases_eq q place) [
      | inl s ↦ subst (IsSized (length known)) (sym (mine q c s h)) sized
      | inr n ↦ r.going.sized q c (other q c n h)
    ];
    at = λ q c steps h k. elim (cases_eq q place) [
      | inl s ↦ subst (IsAt known steps) (sym (mine q c s h)) (at steps (subst (λ z. slice_get scripts z ≡ Some steps) s k))
      | inr n ↦ r.going.at q c steps (other q c n h) k
    ];
  };
  shown = record {
    at_every = λ q c h. brought_at old.clients.items place client (λ z. z.every.members) old.every.pairs new.every.pairs b r.shown.at_every q c (subst (λ z. slice_get z q ≡ Some c) e h);
    at_some = λ q c h. brought_at old.clients.items place client (λ z. z.ever.members) old.ever.pairs new.ever.pairs d r.shown.at_some q c (subst (λ z. slice_get z q ≡ Some c) e h);
  };
  every_width = same.width ∙ r.every_width;
  ever_width = same_ever.width ∙ r.ever_width;
  every_places = same.interfaces ∙ r.every_places;
  ever_places = same_ever.interfaces ∙ r.ever_places;
}
  where
    mine : (q : ℕ) (c : ClientFilters) → q ≡ place → slice_get new.clients.items q ≡ Some c → c ≡ client
    mine q c s h = set_same old.clients.items place client c (subst (λ z. slice_get (slice_set old.clients.items place client) z ≡ Some c) s (subst (λ z. slice_get z q ≡ Some c) e h))

    other : (q : ℕ) (c : ClientFilters) → (q ≡ place → ⊥) → slice_get new.clients.items q ≡ Some c → slice_get old.clients.items q ≡ Some c
    other q c n h = sym (set_other old.clients.items q place client n) ∙ subst (λ z. slice_get z q ≡ Some c) e h

-- so far all have
pub upto_next : (known : Lists) (place phase : ℕ) (scripts : List Steps) (old new : List ClientFilters) → ((q : ℕ) → (q ≡ place → ⊥) → slice_get new q ≡ slice_get old q)
    → ((c : ClientFilters) (steps : Steps) → slice_get new place ≡ Some c → slice_get scripts place ≡ Some steps → IsOfPhase known phase steps c)
    → AllUpTo known place phase scripts old → AllUpTo known (place + 1) phase scripts new
upto_next known place phase scripts old new others mine before q steps c l at has = elim (cases_eq q place) [
  | inl s ↦ mine c steps (subst (λ z. slice_get new z ≡ Some c) s has) (subst (λ z. slice_get scripts z ≡ Some steps) s at)
  | inr n ↦ before q steps c (strict q place (omega (arith, l)) n) at (sym (others q n) ∙ has)
]
  where
    strict : (i j : ℕ) → i ≤ j → (i ≡ j → ⊥) → i < j
    strict i j le n = elim (cases_order i j) [
      | inl e ↦ absurd (n e)
      | inr r ↦ elim r [ inl k ↦ k | inr g ↦ absurd (omega (arith, le, g)) ]
    ]

pub all_of : (known : Lists) (phase place : ℕ) (scripts : List Steps) (clients : List ClientFilters) → length scripts ≤ place → AllUpTo known place phase scripts clients
    → AreAll known phase scripts clients
all_of known phase place scripts clients l upto q steps c at has = upto q steps c (omega (arith, slice_get_within scripts q steps at, l)) at has

pub tables_of : (known : Lists) (scripts : List Steps) (phase : ℕ) (old new : Tables) → new.phase ≡ Some phase → new.every ≡ old.every → new.ever ≡ old.ever
    → new.clients ≡ old.clients → IsReady known scripts old → AreAll known phase scripts old.clients.items
    → (new.steady ≡ true → AreSteady old.clients.items) → AreTables known scripts new
tables_of known scripts phase old new e every ever clients r all steady = record {
  ready = record {
    count = ap (λ z. length z.items) clients ∙ r.count;
    going = subst (λ z. AreGoing known scripts z.items) (sym clients) r.going;
    shown = rw (every, ever, clients) r.shown;
    every_width = ap (λ z. z.width) every ∙ r.every_width;
    ever_width = ap (λ z. z.width) ever ∙ r.ever_width;
    every_places = ap (λ z. z.interfaces) every ∙ r.every_places;
    ever_places = ap (λ z. z.interfaces) ever ∙ r.ever_places;
  };
  steady = λ s. subst (λ z. AreSteady z.items) (sym clients) (steady s);
  current = λ p same. subst (λ z. AreAll known p scripts z.items) (sym clients) (subst (λ z. AreAll known z scripts old.clients.items) (same_Some _ _ (sym e ∙ same)) all);
}
