-- Lists of which a test holds of each element and the next.
use Rattle.std.proofs.Common.{◌≡◌, ◌<◌, ◌+◌, ◌&&◌, ℕ, zero, suc, Bool, true, false, List, [], ◌∷◌, length, refl, sym, ap, ◌∙◌, arith}
use Rattle.std.specs.Prelude.{slice_index_or}
use native.Mathlib.Numerals.{unary_clauses}
use Rattle.std.specs.List.{IsAllAdjacentAnswer}
use Rattle.std.specs.Ordering.{is_lt}
use Rattle.filter_constraints.specs.Constraint.{ConstraintParts}
use Rattle.filter_constraints.specs.Order.{constraint_cmp}
use Rattle.filter_types.specs.Notice.{Attribute, is_name_less, are_rising}
use Rattle.filter_types.specs.Canonical.{is_rising}
use Rattle.std.proofs.lemmas.Bool.{and_from}

false-right : (b : Bool) → (b && false) ≡ false
false-right true = refl
false-right false = refl

next : {T : Type 0} (x : T) (xs : List T) (k : ℕ) (d : T) → slice_index_or (x ∷ xs) (k + 1) d ≡ slice_index_or xs k d
next x xs k d = simp unary_clauses refl

module _ {T : Type 0} (test : T → T → Bool) where
  abbrev pub holds : List T → Bool
  holds [] = true
  holds (x ∷ []) = true
  holds (x ∷ y ∷ xs) = test x y && holds (y ∷ xs)

  all : (xs : List T) → ((k : ℕ) (d : T) → k + 1 < length xs → test (slice_index_or xs k d) (slice_index_or xs (k + 1) d) ≡ true) → holds xs ≡ true
  all [] h = refl
  all (x ∷ []) h = refl
  all (x ∷ y ∷ xs) h = and_from (test x y) (holds (y ∷ xs)) (h 0 x (omega arith)) (all (y ∷ xs) (λ k d l. rw (next x (y ∷ xs) k d, next x (y ∷ xs) (k + 1) d) at (h (k + 1) d (omega (arith, l)))))

  some : (xs : List T) (k : ℕ) → k + 1 < length xs → ((d : T) → test (slice_index_or xs k d) (slice_index_or xs (k + 1) d) ≡ false) → holds xs ≡ false
  some [] k l h = absurd (omega (arith, l))
  some (x ∷ []) k l h = absurd (omega (arith, l))
  some (x ∷ y ∷ xs) zero l h = ap (λ b. b && holds (y ∷ xs)) (h x)
  some (x ∷ y ∷ xs) (suc k) l h =
      let later : (d : T) → test (slice_index_or (y ∷ xs) k d) (slice_index_or (y ∷ xs) (k + 1) d) ≡ false = λ d. simp unary_clauses (simp unary_clauses at (h d)) in
      ap (λ b. test x y && b) (some (y ∷ xs) k (omega (arith, l)) later) ∙ false-right (test x y)

  answered : (xs : List T) (result : Bool) → IsAllAdjacentAnswer (λ x y b. b ≡ test x y) xs result → result ≡ holds xs
  answered xs true h = sym (all xs (λ k d l. sym (h k d l)))
  answered xs false h = sym (some xs h.0 h.1 (λ d. sym (h.2 d)))

rising : (f : List ConstraintParts) → holds (λ c d. is_lt (constraint_cmp c d)) f ≡ is_rising f
rising [] = refl
rising (c ∷ []) = refl
rising (c ∷ d ∷ f) = ap (λ b. is_lt (constraint_cmp c d) && b) (rising (d ∷ f))

names : (n : List Attribute) → holds is_name_less n ≡ are_rising n
names [] = refl
names (a ∷ []) = refl
names (a ∷ b ∷ n) = ap (λ t. is_name_less a b && t) (names (b ∷ n))

pub rising_answered : (f : List ConstraintParts) (result : Bool) → IsAllAdjacentAnswer (λ c d b. b ≡ is_lt (constraint_cmp c d)) f result → result ≡ is_rising f
rising_answered f result h = answered (λ c d. is_lt (constraint_cmp c d)) f result h ∙ rising f

pub names_answered : (n : List Attribute) (result : Bool) → IsAllAdjacentAnswer (λ a b t. t ≡ is_name_less a b) n result → result ≡ are_rising n
names_answered n result h = answered is_name_less n result h ∙ names n
