-- Lemmas on a list of clients of which one is changed at its place.
use Rattle.std.proofs.Common.{◌≡◌, ℕ, zero, suc, ◌+◌, ◌<◌, ◌≤◌, List, [], ◌∷◌, ◌++◌, length, map, get_or, refl, ap, subst, sym, ◌∙◌, arith, Option, Some, None}
use Rattle.std.proofs.Math.ListN.{set}
use Rattle.std.specs.Prelude.{IfSome, OnErr, OnOk, Result, Ok, Err}
use Rattle.document_reader.specs.declared.draft.Draft.{Draft}
use Rattle.document_reader.specs.Drafts.{AreNamesOf, changed_at, client_at, name_of, name_place}
use Rattle.document_reader.proofs.NamePlaces.{place_within}

-- a write at a place is a change there
pub changed_is_set : {A : Type 0} (f : A → A) (xs : List A) (n : ℕ) (d : A) → n < length xs → set xs n (f (get_or xs n d)) ≡ changed_at n f xs
changed_is_set f [] n d l = absurd (omega arith)
changed_is_set f (x ∷ xs) zero d l = refl
changed_is_set f (x ∷ xs) (suc n) d l = ap (λ ys. x ∷ ys) (changed_is_set f xs n d (omega arith))

pub changed_beyond : {A : Type 0} (f : A → A) (xs : List A) (n : ℕ) → length xs ≤ n → changed_at n f xs ≡ xs
changed_beyond f [] n l = refl
changed_beyond f (x ∷ xs) zero l = absurd (omega arith)
changed_beyond f (x ∷ xs) (suc n) l = ap (λ ys. x ∷ ys) (changed_beyond f xs n (omega arith))

pub changed_length : {A : Type 0} (f : A → A) (xs : List A) (n : ℕ) → length (changed_at n f xs) ≡ length xs
changed_length f [] n = refl
changed_length f (x ∷ xs) zero = refl
changed_length f (x ∷ xs) (suc n) = ap (λ k. suc k) (changed_length f xs n)

pub changed_names : (f : Draft → Draft) → ((d : Draft) → name_of (f d) ≡ name_of d) → (xs : List Draft) (n : ℕ) → map name_of (changed_at n f xs) ≡ map name_of xs
changed_names f same [] n = refl
changed_names f same (x ∷ xs) zero = ap (λ name. name ∷ map name_of xs) (same x)
changed_names f same (x ∷ xs) (suc n) = ap (λ ys. name_of x ∷ ys) (changed_names f same xs n)

pub still_named : (f : Draft → Draft) → ((d : Draft) → name_of (f d) ≡ name_of d) → (names : List (List ℕ)) (xs : List Draft) (n : ℕ) → AreNamesOf names xs → AreNamesOf names (changed_at n f xs)
still_named f same names xs n h = record { same = changed_names f same xs n ∙ h.same; few = rw (changed_length f xs n) h.few }

-- a name that no client has is not among the names
pub new_place : (names : List (List ℕ)) (xs ys : List Draft) (name : List ℕ) → AreNamesOf names xs → xs ≡ ys → client_at ys name ≡ None → name_place names name ≡ None
unfolding client_at
new_place names xs ys name h e none = ap (λ ns. name_place ns name) (sym h.same ∙ ap (map name_of) e) ∙ none

-- what a write at a place keeps
pub set_named : (f : Draft → Draft) → ((d : Draft) → name_of (f d) ≡ name_of d) → (names : List (List ℕ)) (xs ys : List Draft) (n : ℕ) → ys ≡ changed_at n f xs → AreNamesOf names xs → AreNamesOf names ys
set_named f same names xs ys n e h = subst (λ (zs : List Draft). AreNamesOf names zs) (sym e) (still_named f same names xs n h)

-- the member that was borrowed is written, changed
pub written : (f : Draft → Draft) (xs ys : List Draft) (n : ℕ) (v w : Draft) → xs ≡ ys → v ≡ get_or xs n v → w ≡ f v → n < length xs → set xs n w ≡ changed_at n f ys
written f xs ys n v w e g h l =
    (ap (λ (u : Draft). set xs n u) h ∙ (ap (λ (u : Draft). set xs n (f u)) g ∙ changed_is_set f xs n v l)) ∙ ap (λ (zs : List Draft). changed_at n f zs) e

pub untouched : (f : Draft → Draft) (xs ys : List Draft) (n : ℕ) → xs ≡ ys → length xs ≤ n → ys ≡ changed_at n f ys
untouched f xs ys n e l = sym (changed_beyond f ys n (subst (λ (zs : List Draft). length zs ≤ n) e l))

pub written_named : (f : Draft → Draft) → ((d : Draft) → name_of (f d) ≡ name_of d) → (names : List (List ℕ)) (xs : List Draft) (n : ℕ) (v w : Draft) → v ≡ get_or xs n v → w ≡ f v → n < length xs
    → AreNamesOf names xs → AreNamesOf names (set xs n w)
written_named f same names xs n v w g h l a = set_named f same names xs (set xs n w) n (written f xs xs n v w refl g h l) a

-- the member is written changed, or as it was where the change failed
pub tried_named : {E : Type 0} (f : Draft → Draft) → ((d : Draft) → name_of (f d) ≡ name_of d) → (names : List (List ℕ)) (xs : List Draft) (n : ℕ) (v w : Draft) (r : Result (Unit {0}) E) → v ≡ get_or xs n v
    → OnOk r (w ≡ f v) → OnErr r (w ≡ v) → n < length xs → AreNamesOf names xs → AreNamesOf names (set xs n w)
tried_named f same names xs n v w (Ok x) g h k l a = written_named f same names xs n v w g h l a
tried_named f same names xs n v w (Err e) g h k l a = written_named (λ (d : Draft). d) (λ d. refl) names xs n v w g k l a

pub place_few : (o : Option ℕ) (xs : List Draft) (name : List ℕ) → o ≡ client_at xs name → length xs ≤ 1024 → IfSome o (λ place. place < 1024)
place_few None xs name e l = tt
place_few (Some n) xs name e l = let k : n < length xs = place_within xs name n (sym e) in omega arith

pub found_place : (names : List (List ℕ)) (xs ys : List Draft) (name : List ℕ) (o : Option ℕ) → AreNamesOf names xs → xs ≡ ys → o ≡ name_place names name → o ≡ client_at ys name
unfolding client_at
found_place names xs ys name o h e f = f ∙ ap (λ (ns : List (List ℕ)). name_place ns name) (sym h.same ∙ ap (map name_of) e)
