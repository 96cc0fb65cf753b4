-- Proves that the test of a name accepts exactly names.
use Rattle.std.proofs.Common.{◌≡◌, ◌⊎◌, ◌<◌, ℕ, zero, suc, inl, inr, Bool, true, false, refl, arith, List, [], ◌∷◌, length}
use Rattle.std.specs.Prelude.{nat_le, nat_lt, ◌&&◌, ◌||◌, ◌==◌, slice_index}
use Rattle.std.specs.Int.{IsInRange}
use Rattle.std.proofs.lemmas.Bool.Decides.{nat_tests}
use Rattle.filter_values.specs.Name.{IsName, FitsNameAt, IsLetter, IsOtherNameByte, is_letter, is_other_name_byte, are_name_bytes, is_name}
use Rattle.std.proofs.lemmas.Bool.{and_parts, or_cases, eqb-true}

range : (a b c : ℕ) → (nat_le a c && nat_le c b) ≡ true → IsInRange a b c
range a b c e = let w = and_parts (nat_le a c) (nat_le c b) e in let x : nat_le a c ≡ true = w.0 in let y : nat_le c b ≡ true = w.1 in (grind (arith, nat_tests), grind (arith, nat_tests))

letter_tells : (b : ℕ) → is_letter b ≡ true → IsLetter b
letter_tells b e = elim (or_cases (nat_le 65 b && nat_le b 90) (nat_le 97 b && nat_le b 122) e) [ inl p ↦ inl (range 65 90 b p) | inr q ↦ inr (range 97 122 b q) ]

other_tells : (b : ℕ) → is_other_name_byte b ≡ true → IsOtherNameByte b
other_tells b e = elim (or_cases (nat_le 48 b && nat_le b 57) (b == 95 || (b == 46 || b == 45)) e) [
  | inl p ↦ inl (range 48 57 b p)
  | inr q ↦ elim (or_cases (b == 95) (b == 46 || b == 45) q) [
    | inl r ↦ inr (inl (eqb-true b 95 r))
    | inr s ↦ elim (or_cases (b == 46) (b == 45) s) [ inl t ↦ inr (inr (inl (eqb-true b 46 t))) | inr u ↦ inr (inr (inr (eqb-true b 45 u))) ]
  ]
]

letter_told : (b : ℕ) → IsLetter b → is_letter b ≡ true
letter_told b h = grind (arith, nat_tests)

other_told : (b : ℕ) → IsOtherNameByte b → is_other_name_byte b ≡ true
other_told b h = grind (arith, nat_tests)

name_bytes_told : (bytes : List ℕ) → ((i : ℕ) → i < length bytes → FitsNameAt (suc i) (slice_index bytes i)) → are_name_bytes bytes ≡ true
name_bytes_told [] h = refl
name_bytes_told (b ∷ rest) h = rw (here (h 0 (omega arith)), name_bytes_told rest (λ i l. fits-later i (h (suc i) (omega arith)))) refl
  where
    here : FitsNameAt 1 b → (is_letter b || is_other_name_byte b) ≡ true
    here (inl p) = let x : is_letter b ≡ true = letter_told b p in grind arith
    here (inr q) = let x : is_other_name_byte b ≡ true = other_told b q.1 in grind arith

    fits-later : (i : ℕ) → FitsNameAt (suc (suc i)) (slice_index rest i) → FitsNameAt (suc i) (slice_index rest i)
    fits-later i (inl p) = inl p
    fits-later i (inr q) = inr ((omega arith), q.1)

name_bytes_tell : (bytes : List ℕ) → are_name_bytes bytes ≡ true → (i : ℕ) → i < length bytes → FitsNameAt (suc i) (slice_index bytes i)
name_bytes_tell [] e i l = absurd (omega arith)
name_bytes_tell (b ∷ rest) e zero l = elim (or_cases (is_letter b) (is_other_name_byte b) (and_parts (is_letter b || is_other_name_byte b) (are_name_bytes rest) e).0) [ inl p ↦ inl (letter_tells b p) | inr q ↦ inr ((omega arith), other_tells b q) ]
name_bytes_tell (b ∷ rest) e (suc i) l = elim (name_bytes_tell rest (and_parts (is_letter b || is_other_name_byte b) (are_name_bytes rest) e).1 i (omega arith)) [ inl p ↦ inl p | inr q ↦ inr ((omega arith), q.1) ]

pub name_tested : (bytes : List ℕ) → IsName bytes → is_name bytes ≡ true
unfolding is_name
name_tested [] is = absurd (omega (arith, is.some))
name_tested (b ∷ rest) is = rw (first (is.each 0 (omega arith)), name_bytes_told rest (λ i l. is.each (suc i) (omega arith)), short) refl
  where
    first : FitsNameAt 0 b → is_letter b ≡ true
    first (inl p) = letter_told b p
    first (inr q) = absurd (q.0 refl)

    short : nat_lt (length rest) 64 ≡ true
    short = let l = is.short in grind (arith, nat_tests)

pub tested_name : (bytes : List ℕ) → is_name bytes ≡ true → IsName bytes
unfolding is_name
tested_name [] e = absurd cc
tested_name (b ∷ rest) e =
    let w = and_parts (is_letter b) (are_name_bytes rest && nat_lt (length rest) 64) e in
    let v = and_parts (are_name_bytes rest) (nat_lt (length rest) 64) w.1 in
    let l : nat_lt (length rest) 64 ≡ true = v.1 in
    record { some = omega arith; short = grind (arith, nat_tests); each = each w.0 v.0 }
  where
    each : is_letter b ≡ true → are_name_bytes rest ≡ true → (i : ℕ) → i < length (b ∷ rest) → FitsNameAt i (slice_index (b ∷ rest) i)
    each p q zero l = inl (letter_tells b p)
    each p q (suc i) l = name_bytes_tell rest q i (omega arith)
