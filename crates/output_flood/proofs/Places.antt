-- The places of clients, and tables before any phase.
use Rattle.std.proofs.Common.{◌≡◌, ℕ, ◌+◌, ◌<◌, true, false, inl, inr, List, [], ◌∷◌, ◌++◌, map, take, length, slice_get, Some, None, refl, sym, ap, subst, ◌∙◌, arith}
use Rattle.std.specs.List.{range_with_len}
use Rattle.std.proofs.lemmas.List.FromFn.{length-range_with_len, get_or-range_with_len}
use Rattle.base.specs.Sets.{Has}
use Rattle.filter_text.specs.Messages.{Lists}
use Rattle.output_flood.specs.declared.filters.ClientFilters.{ClientFilters}
use Rattle.output_flood.specs.declared.tables.Tables.{Tables}
use Rattle.output_flood.specs.Numbers.{Steps, numbers_held}
use Rattle.output_flood.specs.Tables.{IsNone, AreNoTables, AreTables}
use Rattle.base.proofs.Sets.{get-has, has-append, get_or-has}

unchanged : (xs : List ℕ) → map (λ x. x) xs ≡ xs
unchanged [] = refl
unchanged (x ∷ xs) = ap (λ z. x ∷ z) (unchanged xs)

pub place_there : (n place : ℕ) → place < n → Has place (range_with_len 0 n)
place_there n place l =
    subst (λ z. Has z (range_with_len 0 n)) (get_or-range_with_len 0 n place 0 l ∙ zeroth place)
    (get_or-has (range_with_len 0 n) place 0 (omega (arith, l, length-range_with_len 0 n)))
  where
    zeroth : (k : ℕ) → 0 + k ≡ k
    zeroth k = omega arith

pub none_more : (count : ℕ) (list more : List ClientFilters) (client : ClientFilters) → more ≡ list ++ client ∷ [] → IsNone count client
    → ((c : ClientFilters) → Has c list → IsNone count c) → (c : ClientFilters) → Has c more → IsNone count c
none_more count list more client e none before c h = elim (has-append c list (client ∷ []) (subst (λ (z : List ClientFilters). Has c z) e h)) [
  | inl a ↦ before c a
  | inr b ↦ elim b [ inl q ↦ subst (λ (z : ClientFilters). IsNone count z) (sym q) none | inr z ↦ absurd z ]
]

pub tables_first : (known : Lists) (scripts : List Steps) (tables : Tables) → AreNoTables (length scripts) (length known) tables → AreTables known scripts tables
tables_first known scripts tables none_yet = record {
  ready = record {
    count = none_yet.count;
    going = record {
      sized = λ place client at. (none place client at).sized;
      at = λ place client steps at of. record {
        within = omega (arith, (none place client at).done);
        held = (none place client at).now ∙ sym (ap (λ k. numbers_held known [] (take k steps)) (none place client at).done ∙ ap (numbers_held known []) (nothing steps));
      };
    };
    shown = record {
      at_every = λ place client at i. (
        (λ h. absurd (subst (λ z. Has (place, i) z) none_yet.every h)),
        (λ h. absurd (subst (λ z. Has i z) (none place client at).every h)),
      );
      at_some = λ place client at i. (
        (λ h. absurd (subst (λ z. Has (place, i) z) none_yet.ever h)),
        (λ h. absurd (subst (λ z. Has i z) (none place client at).ever h)),
      );
    };
    every_width = none_yet.every_width;
    ever_width = none_yet.ever_width;
    every_places = none_yet.every_places;
    ever_places = none_yet.ever_places;
  };
  steady = λ e. absurd (unsteady (sym none_yet.steady ∙ e));
  current = λ phase same. absurd (lost phase (sym none_yet.phase ∙ same));
}
  where
    none : (place : ℕ) (client : ClientFilters) → slice_get tables.clients.items place ≡ Some client → IsNone (length known) client
    none place client at = none_yet.none client (get-has tables.clients.items place client at)

    nothing : {X : Type 0} (xs : List X) → take 0 xs ≡ []
    nothing [] = refl
    nothing (x ∷ xs) = refl

    unsteady : false ≡ true → ⊥
    unsteady e = absurd cc

    lost : (phase : ℕ) → None ≡ Some phase → ⊥
    lost phase e = absurd cc
