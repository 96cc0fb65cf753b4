-- Ints and times of a command line: std reads them, exactly where they are within i64 and u64.
use Rattle.std.proofs.Common.{◌≡◌, ◌<◌, ◌-◌, ◌^◌, ℕ, zero, suc, ℤ, Bool, true, false, cond, refl, sym, ap, subst, ◌∙◌, arith, List, [], ◌∷◌, length, drop, FitsSigned, to_z, of_z}
use Rattle.std.specs.Prelude.{Some, None, nat_le, nat_lt, ◌==◌, ◌&&◌, ◌≤◌, pos, neg_ℤ}
use Rattle.std.proofs.Math.Nat.{pow-le-pow_right}
use Rattle.std.specs.declared.result.Result.{Result}
use Rattle.std.specs.declared.result.Result.TheVariants.{Ok, Err}
use Rattle.std.specs.Int.{w64}
use Rattle.std.specs.List.{list_all}
use Rattle.std.specs.Result.{result_ok}
use Rattle.std.specs.Char.{digit_value}
use Rattle.std.specs.Str.{IsAscii, IsUtf8}
use Rattle.std.specs.Str.Parse.{AllDigits, IsNumeral, ParsesSigned, ParsesUnsigned, digits_value, starts_with_minus, without_leading_plus, without_leading_sign, signed_digits_value}
use Rattle.std.proofs.lemmas.Str.{IsUtf8-from_ascii}
use Rattle.std.proofs.lemmas.Str.Parse.{without_leading_plus_none}
use Rattle.std.proofs.lemmas.Int.{to_z-of_z}
use Rattle.std.proofs.lemmas.Bool.Decides.{nat_tests}
use Rattle.filter_values.specs.declared.value.Value.TheVariants as values
use Rattle.filter_text.specs.Words.{fits_i64}
use Rattle.filter_text.proofs.IntLaws.{fits_told, fits_tells}
use Rattle.document_script.specs.declared.form.Given.TheVariants.{Fit, Wide}
use Rattle.document_script.specs.Form.{is_digit, are_digits, in_64_bits, int_given, number_of_digits}
use Rattle.std.proofs.lemmas.Bool.{and_parts, eqb-true}
use Rattle.base.proofs.Numbers.{digit-range}

digit_small : (b : ℕ) → is_digit b ≡ true → b < 128
digit_small b e = grind (arith, nat_tests)

digit_is : (b : ℕ) → is_digit b ≡ true → digit_value b < 10
digit_is b e =
    let w = and_parts (nat_le 48 b) (nat_le b 57) e in
    let x : nat_le 48 b ≡ true = w.0 in
    let y : nat_le b 57 ≡ true = w.1 in
    let p : nat_lt b 48 ≡ false = grind (arith, nat_tests) in
    let q : nat_lt b 58 ≡ true = grind (arith, nat_tests) in
    let l : b < 58 = grind (arith, nat_tests) in
    let v : digit_value b ≡ b - 48 = simp (p, q) in
    omega (arith, v, l)

all_digits : (ds : List ℕ) → list_all is_digit ds ≡ true → AllDigits 10 ds
all_digits [] e = tt
all_digits (b ∷ ds) e = let w = and_parts (is_digit b) (list_all is_digit ds) e in (digit_is b w.0, all_digits ds w.1)

pub is_small : (d : ℕ) → digit_value d < 10 → is_digit d ≡ true
is_small d h = let r = digit-range d h in let lo : 48 ≤ d = r.0 in let hi : d ≤ 57 = r.1 in grind (arith, nat_tests)

pub digits_all : (ds : List ℕ) → AllDigits 10 ds → list_all is_digit ds ≡ true
digits_all [] h = refl
digits_all (d ∷ ds) h = rw (is_small d h.0, digits_all ds h.1) refl

pub digits_are : (ds : List ℕ) → IsNumeral 10 ds → are_digits ds ≡ true
digits_are ds h = let some : nat_lt 0 (length ds) ≡ true = (let s = h.0 in grind (arith, nat_tests)) in rw (some, digits_all ds h.1) refl

ascii_cons : (b : ℕ) (rest : List ℕ) → b < 128 → IsAscii rest → IsAscii (b ∷ rest)
ascii_cons b rest h k zero = h
ascii_cons b rest h k (suc i) = k i

ascii_none : IsAscii []
ascii_none i = omega arith

ascii_digits : (ds : List ℕ) → list_all is_digit ds ≡ true → IsAscii ds
ascii_digits [] e = ascii_none
ascii_digits (b ∷ ds) e = let w = and_parts (is_digit b) (list_all is_digit ds) e in ascii_cons b ds (digit_small b w.0) (ascii_digits ds w.1)

ascii_word : (w : List ℕ) → list_all is_digit (without_leading_sign w) ≡ true → IsAscii w
ascii_word [] e = ascii_none
ascii_word (b ∷ rest) e = go (b == 45) refl (b == 43) refl e
  where
    go : (p : Bool) → (b == 45) ≡ p → (q : Bool) → (b == 43) ≡ q → list_all is_digit (cond p rest (drop (cond q 1 0) (b ∷ rest))) ≡ true → IsAscii (b ∷ rest)
    go true p q qe e = let n : b ≡ 45 = eqb-true b 45 p in ascii_cons b rest (omega (arith, n)) (ascii_digits rest e)
    go false p true qe e = let n : b ≡ 43 = eqb-true b 43 qe in ascii_cons b rest (omega (arith, n)) (ascii_digits rest e)
    go false p false qe e = ascii_digits (b ∷ rest) e

pub word_utf8 : (w : List ℕ) → are_digits (without_leading_sign w) ≡ true → IsUtf8 w
word_utf8 w e = IsUtf8-from_ascii w (ascii_word w (and_parts (nat_lt 0 (length (without_leading_sign w))) (list_all is_digit (without_leading_sign w)) e).1)

numeral : (w : List ℕ) → are_digits (without_leading_sign w) ≡ true → IsNumeral 10 (without_leading_sign w)
numeral w e =
    let d = and_parts (nat_lt 0 (length (without_leading_sign w))) (list_all is_digit (without_leading_sign w)) e in
    let a : nat_lt 0 (length (without_leading_sign w)) ≡ true = d.0 in
    (grind (arith, nat_tests), all_digits (without_leading_sign w) d.1)

pub parsed_given : {E : Type 0} (w text : List ℕ) (z : ℤ) (r : Result ℤ E) → are_digits (without_leading_sign w) ≡ true → text ≡ w → ParsesSigned w64 10 text r → r ≡ Ok z → Some (Fit (values.Int (to_z w64 (of_z w64 z)))) ≡ int_given w
unfolding int_given
parsed_given {E = E} w text z r e same h ok =
    let k : ParsesSigned {E = E} w64 10 w (Ok z) = subst (λ (x : Result ℤ E). ParsesSigned w64 10 w x) ok (subst (λ (x : List ℕ). ParsesSigned w64 10 x r) same h) in
    let fits : fits_i64 (signed_digits_value 10 w) ≡ true = fits_told (signed_digits_value 10 w) k.0.1 in
    let back : to_z w64 (of_z w64 z) ≡ signed_digits_value 10 w = to_z-of_z w64 z (subst (FitsSigned w64) (sym k.1) k.0.1) ∙ k.1 in
    rw (e, fits, back) refl

pub wide_given : {E : Type 0} (w text : List ℕ) (f : E) (r : Result ℤ E) → are_digits (without_leading_sign w) ≡ true → text ≡ w → ParsesSigned w64 10 text r → r ≡ Err f → Some Wide ≡ int_given w
unfolding int_given
wide_given {E = E} w text f r e same h err =
    let k : ParsesSigned w64 10 w (Err f) = subst (λ (x : Result ℤ E). ParsesSigned w64 10 w x) err (subst (λ (x : List ℕ). ParsesSigned w64 10 x r) same h) in
    let not_fits : fits_i64 (signed_digits_value 10 w) ≡ false = go (fits_i64 (signed_digits_value 10 w)) refl k in
    rw (e, not_fits) refl
  where
    go : (b : Bool) → fits_i64 (signed_digits_value 10 w) ≡ b → (IsNumeral 10 (without_leading_sign w) × FitsSigned w64 (signed_digits_value 10 w) → ⊥) → b ≡ false
    go true p k = absurd (k (numeral w e, fits_tells (signed_digits_value 10 w) p))
    go false p k = refl

pub digits_utf8 : (w : List ℕ) → are_digits w ≡ true → IsUtf8 w
digits_utf8 w e = IsUtf8-from_ascii w (ascii_digits w (and_parts (nat_lt 0 (length w)) (list_all is_digit w) e).1)

digits_numeral : (w : List ℕ) → are_digits w ≡ true → IsNumeral 10 w
digits_numeral w e =
    let d = and_parts (nat_lt 0 (length w)) (list_all is_digit w) e in
    let a : nat_lt 0 (length w) ≡ true = d.0 in
    (grind (arith, nat_tests), all_digits w d.1)

-- digits begin with no plus
no_plus : (w : List ℕ) → list_all is_digit w ≡ true → without_leading_plus w ≡ w
no_plus [] e = refl
no_plus (b ∷ w) e =
    let d : is_digit b ≡ true = (and_parts (is_digit b) (list_all is_digit w) e).0 in
    without_leading_plus_none (b ∷ w) (λ h. let k : is_digit 43 ≡ true = subst (λ (z : ℕ). is_digit z ≡ true) h d in absurd cc)

plain : (w : List ℕ) → are_digits w ≡ true → without_leading_plus w ≡ w
plain w e = no_plus w (and_parts (nat_lt 0 (length w)) (list_all is_digit w) e).1

pub parsed_long : {E : Type 0} (w text : List ℕ) (r : Result ℕ E) → are_digits w ≡ true → text ≡ w → ParsesUnsigned 64 10 text r → result_ok r ≡ in_64_bits (digits_value 10 w)
parsed_long {E = E} w text (Ok n) e same h =
    let k : ParsesUnsigned {E = E} 64 10 w (Ok n) = subst (λ (x : List ℕ). ParsesUnsigned {E = E} 64 10 x (Ok n)) same h in
    let below : digits_value 10 w < 2 ^ 64 = subst (λ (x : List ℕ). digits_value 10 x < 2 ^ 64) (plain w e) k.0.1 in
    let fits : nat_lt (digits_value 10 w) (2 ^ 64) ≡ true = grind (arith, nat_tests) in
    let is : n ≡ digits_value 10 w = k.1 ∙ ap (digits_value 10) (plain w e) in
    rw (fits, is) refl
parsed_long {E = E} w text (Err f) e same h =
    let k : ParsesUnsigned {E = E} 64 10 w (Err f) = subst (λ (x : List ℕ). ParsesUnsigned {E = E} 64 10 x (Err f)) same h in
    let not_fits : nat_lt (digits_value 10 w) (2 ^ 64) ≡ false = go (nat_lt (digits_value 10 w) (2 ^ 64)) refl k in
    rw not_fits refl
  where
    below : (n : ℕ) → nat_lt n (2 ^ 64) ≡ true → n < 2 ^ 64
    below n e = grind (arith, nat_tests)

    go : (b : Bool) → nat_lt (digits_value 10 w) (2 ^ 64) ≡ b → (IsNumeral 10 (without_leading_plus w) × (digits_value 10 (without_leading_plus w) < 2 ^ 64) → ⊥) → b ≡ false
    go true p k = absurd (k (subst (IsNumeral 10) (sym (plain w e)) (digits_numeral w e), subst (λ (x : List ℕ). digits_value 10 x < 2 ^ 64) (sym (plain w e)) (below (digits_value 10 w) p)))
    go false p k = refl

-- Numbers of few digits.

pub no_number : (ds : List ℕ) → None ≡ number_of_digits ds → list_all is_digit ds ≡ false
no_number ds = go (list_all is_digit ds)
  where
    go : (b : Bool) → None ≡ cond b (Some (digits_value 10 ds)) None → b ≡ false
    go true e = absurd (cc)
    go false e = refl

pub one_number : (ds : List ℕ) (n : ℕ) → Some n ≡ number_of_digits ds → (list_all is_digit ds ≡ true) × (n ≡ digits_value 10 ds)
one_number ds n = go (list_all is_digit ds)
  where
    go : (b : Bool) → Some n ≡ cond b (Some (digits_value 10 ds)) None → (b ≡ true) × (n ≡ digits_value 10 ds)
    go true e = (refl, cc)
    go false e = absurd (cc)

pub numeral_number : (ds : List ℕ) → AllDigits 10 ds → number_of_digits ds ≡ Some (digits_value 10 ds)
numeral_number ds h = rw (digits_all ds h) refl

pub small_pow : (i : ℕ) (n : ℕ) → i < 19 → n < 10 ^ i → n < 10 ^ 18
small_pow i n l s = let p : 10 ^ i ≤ 10 ^ 18 = pow-le-pow_right {n = 10} (omega arith) {i = i} {j = 18} (omega (arith, l)) in omega (arith, s, p)

pub small_given : (i : ℕ) (n : ℕ) → i ≤ 18 → n < 10 ^ i → n < 10 ^ 18
small_given i n l s = small_pow i n (omega (arith, l)) s

pub no_int : (w ds : List ℕ) → ds ≡ without_leading_sign w → list_all is_digit ds ≡ false → None ≡ int_given w
unfolding int_given
no_int w ds d a =
    let e : are_digits (without_leading_sign w) ≡ false = go (nat_lt 0 (length (without_leading_sign w))) (subst (λ (x : List ℕ). list_all is_digit x ≡ false) d a) in
    rw e refl
  where
    go : (p : Bool) → list_all is_digit (without_leading_sign w) ≡ false → (p && list_all is_digit (without_leading_sign w)) ≡ false
    go true e = e
    go false e = refl

small_fits : (m : Bool) (n : ℕ) → n < 10 ^ 18 → fits_i64 (cond m (neg_ℤ (pos n)) (pos n)) ≡ true
small_fits true zero s = refl
small_fits true (suc k) s = let b : k < 2 ^ 63 = omega (arith, s) in below k b
  where
    below : (k : ℕ) → k < 2 ^ 63 → nat_lt k (2 ^ 63) ≡ true
    below k b = grind (arith, nat_tests)
small_fits false n s = let b : n < 2 ^ 63 = omega (arith, s) in below n b
  where
    below : (k : ℕ) → k < 2 ^ 63 → nat_lt k (2 ^ 63) ≡ true
    below k b = grind (arith, nat_tests)

pub short_given : (w ds : List ℕ) (n : ℕ) (m : Bool) (z : ℤ) → ds ≡ without_leading_sign w → 0 < length ds → list_all is_digit ds ≡ true → n ≡ digits_value 10 ds → n < 10 ^ 18 → m ≡ starts_with_minus w → z ≡ cond m (neg_ℤ (pos n)) (pos n) → Some (Fit (values.Int (to_z w64 (of_z w64 z)))) ≡ int_given w
unfolding int_given
short_given w ds n m z d l a v s k e =
    let some : nat_lt 0 (length ds) ≡ true = grind (arith, nat_tests) in
    let digits : are_digits ds ≡ true = rw (some, a) refl in
    let t : are_digits (without_leading_sign w) ≡ true = subst (λ (x : List ℕ). are_digits x ≡ true) d digits in
    let value : n ≡ digits_value 10 (without_leading_sign w) = v ∙ ap (digits_value 10) d in
    let same : z ≡ signed_digits_value 10 w = e ∙ ap (λ (x : Bool). cond x (neg_ℤ (pos n)) (pos n)) k ∙ ap (λ (x : ℕ). cond (starts_with_minus w) (neg_ℤ (pos x)) (pos x)) value in
    let fits : fits_i64 (signed_digits_value 10 w) ≡ true = subst (λ (x : ℤ). fits_i64 x ≡ true) (sym e ∙ same) (small_fits m n s) in
    let back : to_z w64 (of_z w64 z) ≡ z = to_z-of_z w64 z (fits_tells z (subst (λ (x : ℤ). fits_i64 x ≡ true) (sym e) (small_fits m n s))) in
    let whole : to_z w64 (of_z w64 z) ≡ signed_digits_value 10 w = back ∙ same in
    rw (t, fits, whole) refl
