-- Proves that an integer has one text.
use Rattle.std.proofs.Common.{◌≡◌, ◌<◌, ℕ, suc, ℤ, Bool, true, false, cond, refl, sym, ap, subst, ◌∙◌, arith, List, [], ◌∷◌, FitsSigned, rules}
use Rattle.std.specs.Prelude.{pos, negsuc, neg_ℤ, MatchOption, ◌&&◌, ◌==◌, Some, None}
use Rattle.std.specs.declared.option.Option.{Option}
use Rattle.std.specs.Int.{w64}
use Rattle.std.specs.Fmt.{signed_decimal, decimal}
use Rattle.std.specs.Str.{bytes_eq}
use Rattle.std.specs.Char.{digit_value}
use Rattle.std.specs.Str.Parse.{IsNumeral, digits_value, signed_digits_value}
use Rattle.std.proofs.lemmas.Fmt.{decimal_is_IsNumeral}
use Rattle.std.proofs.lemmas.Bool.Decides.{nat_tests}
use Rattle.filter_constraints.proofs.BytesLemmas.{bytes_eq-tells}
use Rattle.filter_text.specs.Words.{fits_i64, int_of}
use Rattle.filter_text.proofs.Options.{tested}
use Rattle.base.proofs.Lists.{bytes_eq-self}
use Rattle.std.proofs.lemmas.Bool.{and_parts}

unsigned : (ds : List ℕ) → IsNumeral 10 ds → signed_digits_value 10 ds ≡ pos (digits_value 10 ds)
unsigned [] h = absurd (omega (arith, h.0))
unsigned (c ∷ ds) h = go (c == 45) refl (c == 43) refl
  where
    eq_of : (a b : ℕ) → (a == b) ≡ true → a ≡ b
    eq_of a b e = grind (arith, nat_tests)

    go : (p : Bool) → (c == 45) ≡ p → (q : Bool) → (c == 43) ≡ q → signed_digits_value 10 (c ∷ ds) ≡ pos (digits_value 10 (c ∷ ds))
    go true p q qe = let d : digit_value 45 < 10 = subst (λ (z : ℕ). digit_value z < 10) (eq_of c 45 p) h.1.0 in absurd (omega (arith, d))
    go false p true qe = let d : digit_value 43 < 10 = subst (λ (z : ℕ). digit_value z < 10) (eq_of c 43 qe) h.1.0 in absurd (omega (arith, d))
    go false p false qe = simp (p, qe)

pub valued : (z : ℤ) → FitsSigned w64 z → signed_digits_value 10 (signed_decimal z) ≡ z
valued (pos n) fits = let w = decimal_is_IsNumeral n (search rules) in unsigned (decimal n) w.0 ∙ ap pos w.1
valued (negsuc n) fits = let w = decimal_is_IsNumeral (suc n) (search rules) in ap (λ (k : ℕ). neg_ℤ (pos k)) w.1

pub fits_told : (z : ℤ) → FitsSigned w64 z → fits_i64 z ≡ true
fits_told (pos n) fits = search (rules, nat_tests)
fits_told (negsuc n) fits = search (rules, nat_tests)

pub fits_tells : (z : ℤ) → fits_i64 z ≡ true → FitsSigned w64 z
fits_tells (pos n) e = search (rules, nat_tests)
fits_tells (negsuc n) e = search (rules, nat_tests)

pub int_again : (z : ℤ) → FitsSigned w64 z → int_of (signed_decimal z) ≡ Some z
unfolding int_of
int_again z fits = rw (valued z fits, fits_told z fits, bytes_eq-self (signed_decimal z)) refl

pub some_is : (bytes : List ℕ) (z : ℤ) → FitsSigned w64 z → bytes ≡ signed_decimal z → int_of bytes ≡ Some z
some_is bytes z fits e = ap int_of e ∙ int_again z fits

pub none_is : (bytes : List ℕ) → ((z : ℤ) → FitsSigned w64 z → bytes ≡ signed_decimal z → ⊥) → int_of bytes ≡ None
unfolding int_of
none_is bytes never = go (fits_i64 (signed_digits_value 10 bytes)) refl (bytes_eq (signed_decimal (signed_digits_value 10 bytes)) bytes) refl
  where
    go : (p : Bool) → fits_i64 (signed_digits_value 10 bytes) ≡ p → (q : Bool) → bytes_eq (signed_decimal (signed_digits_value 10 bytes)) bytes ≡ q → cond (p && q) (Some (signed_digits_value 10 bytes)) None ≡ None
    go true p true q = absurd (never (signed_digits_value 10 bytes) (fits_tells _ p) (sym (bytes_eq-tells _ _ q)))
    go true p false q = refl
    go false p q qe = refl

pub result_is : (bytes : List ℕ) (r : Option ℤ) → MatchOption r ((z : ℤ) → FitsSigned w64 z → bytes ≡ signed_decimal z → ⊥) (λ z. FitsSigned w64 z × (bytes ≡ signed_decimal z)) → r ≡ int_of bytes
result_is bytes (Some z) h = sym (some_is bytes z h.0 h.1)
result_is bytes None h = sym (none_is bytes h)

pub int_spelled : (bytes : List ℕ) (z : ℤ) → int_of bytes ≡ Some z → FitsSigned w64 z × (bytes ≡ signed_decimal z)
unfolding int_of
int_spelled bytes z e =
    let w = tested (fits_i64 (signed_digits_value 10 bytes) && bytes_eq (signed_decimal (signed_digits_value 10 bytes)) bytes) (signed_digits_value 10 bytes) z e in
    let h = and_parts (fits_i64 (signed_digits_value 10 bytes)) (bytes_eq (signed_decimal (signed_digits_value 10 bytes)) bytes) w.0 in
    (fits_tells z (sym (ap fits_i64 w.1) ∙ h.0), sym (bytes_eq-tells (signed_decimal (signed_digits_value 10 bytes)) bytes h.1) ∙ ap signed_decimal w.1)
