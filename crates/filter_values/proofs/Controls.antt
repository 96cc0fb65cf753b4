-- Where no byte is found that a text refuses, each is open.
use Rattle.std.proofs.Common.{◌≡◌, ◌⊎◌, inl, inr, ◌<◌, ◌+◌, ℕ, Bool, true, false, not, cond, refl, arith, List, [], ◌∷◌, length, Option, Some, None, position}
use Rattle.std.specs.Prelude.{IfNone}
use Rattle.std.specs.List.{list_all, prefix_len}
use Rattle.std.specs.Prelude.{◌&&◌}
use Rattle.std.proofs.lemmas.Bool.Decides.{nat_tests}
use Rattle.filter_values.specs.Text.{is_open_byte}

all_or : (p : ℕ → Bool) (xs : List ℕ) → (list_all p xs ≡ true) ⊎ (prefix_len (λ b. not (not (p b))) xs < length xs)
all_or p [] = inl refl
all_or p (x ∷ xs) = go (p x) (all_or p xs)
  where
    go : (b : Bool) → (list_all p xs ≡ true) ⊎ (prefix_len (λ b. not (not (p b))) xs < length xs) → ((b && list_all p xs) ≡ true) ⊎ (cond (not (not b)) (1 + prefix_len (λ b. not (not (p b))) xs) 0 < length (x ∷ xs))
    go true (inl h) = inl h
    go true (inr h) = inr (omega arith)
    go false r = inr (omega arith)

pub none_all : (xs : List ℕ) (r : Option ℕ) → r ≡ position (λ b. not (is_open_byte b)) xs → IfNone r (list_all is_open_byte xs ≡ true)
none_all xs (Some i) e = tt
none_all xs None e = elim (all_or is_open_byte xs) [
  | inl h ↦ h
  | inr h ↦ absurd (grind (arith, nat_tests))
]
