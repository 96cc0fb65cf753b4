-- Proves that a time has one text.
use Rattle.std.proofs.Common.{◌≡◌, ◌<◌, ◌^◌, ℕ, Bool, true, false, cond, refl, sym, ap, subst, ◌∙◌, arith, List, nat_eq}
use Rattle.std.specs.Prelude.{MatchOption, ◌&&◌, Some, None, nat_lt, Ok}
use Rattle.std.specs.declared.option.Option.{Option}
use Rattle.std.specs.declared.result.Result.{Result}
use Rattle.std.specs.Fmt.{decimal}
use Rattle.std.specs.Str.{bytes_eq, IsUtf8}
use Rattle.std.specs.Str.Parse.{digits_value, ParsesUnsigned}
use Rattle.std.proofs.lemmas.Fmt.{IsAscii-decimal, parse-decimal, decimal_is_IsNumeral}
use Rattle.std.proofs.lemmas.Str.{IsUtf8-from_ascii}
use Rattle.std.proofs.lemmas.Bool.Decides.{nat_tests}
use Rattle.filter_constraints.proofs.BytesLemmas.{bytes_eq-tells}
use Rattle.filter_text.specs.Words.{time_of}
use Rattle.filter_text.proofs.Options.{tested}
use Rattle.filter_text.proofs.Ints.{pointwise-self}
use lib.Pointwise.{pointwise}
use Rattle.base.proofs.Lists.{bytes_eq-self}
use Rattle.std.proofs.lemmas.Bool.{and_parts}

pub IsUtf8-seconds : (n : ℕ) (bytes : List ℕ) → n < 2 ^ 64 → bytes ≡ decimal n → IsUtf8 bytes
IsUtf8-seconds n bytes fits e = subst IsUtf8 (sym e) (IsUtf8-from_ascii _ (IsAscii-decimal n fits))

pub parsed : {E : Type 0} (n : ℕ) (bytes : List ℕ) (r : Result ℕ E) → n < 2 ^ 64 → bytes ≡ decimal n → ParsesUnsigned 64 10 bytes r → r ≡ Ok n
parsed n bytes r fits e h = parse-decimal 64 n bytes r fits fits e h

-- the text that is written of the parsed number is the text that was parsed
pub same_text : {E : Type 0} (n value : ℕ) (bytes text spelled : List ℕ) (r : Result ℕ E) → n < 2 ^ 64 → bytes ≡ decimal n → text ≡ bytes → ParsesUnsigned 64 10 text r → r ≡ Ok value → spelled ≡ decimal value → pointwise nat_eq spelled text ≡ true
same_text n value bytes text spelled r fits e same h was out =
    let is_n : r ≡ Ok n = parsed n text r fits (same ∙ e) h in
    let value_is : value ≡ n = cc in
    let spelled_is : spelled ≡ decimal n = out ∙ ap decimal value_is in
    let equal : spelled ≡ text = cc in
    rw equal (pointwise-self text)

valued : (n : ℕ) → n < 2 ^ 64 → digits_value 10 (decimal n) ≡ n
valued n fits = (decimal_is_IsNumeral n fits).1

below : (n : ℕ) → n < 2 ^ 64 → nat_lt n (2 ^ 64) ≡ true
below n fits = grind (arith, nat_tests)

tells : (n : ℕ) → nat_lt n (2 ^ 64) ≡ true → n < 2 ^ 64
tells n e = grind (arith, nat_tests)

pub time_again : (n : ℕ) → n < 2 ^ 64 → time_of (decimal n) ≡ Some n
unfolding time_of
time_again n fits = rw (valued n fits, below n fits, bytes_eq-self (decimal n)) refl

none_is : (bytes : List ℕ) → ((n : ℕ) → n < 2 ^ 64 → bytes ≡ decimal n → ⊥) → time_of bytes ≡ None
unfolding time_of
none_is bytes never = go (nat_lt (digits_value 10 bytes) (2 ^ 64)) refl (bytes_eq (decimal (digits_value 10 bytes)) bytes) refl
  where
    go : (p : Bool) → nat_lt (digits_value 10 bytes) (2 ^ 64) ≡ p → (q : Bool) → bytes_eq (decimal (digits_value 10 bytes)) bytes ≡ q → cond (p && q) (Some (digits_value 10 bytes)) None ≡ None
    go true p true q = absurd (never (digits_value 10 bytes) (tells _ p) (sym (bytes_eq-tells _ _ q)))
    go true p false q = refl
    go false p q qe = refl

pub result_is : (bytes : List ℕ) (r : Option ℕ) → MatchOption r ((n : ℕ) → n < 2 ^ 64 → bytes ≡ decimal n → ⊥) (λ n. (n < 2 ^ 64) × (bytes ≡ decimal n)) → r ≡ time_of bytes
result_is bytes (Some n) h = sym (ap time_of h.1 ∙ time_again n h.0)
result_is bytes None h = sym (none_is bytes h)

pub time_spelled : (bytes : List ℕ) (n : ℕ) → time_of bytes ≡ Some n → (n < 2 ^ 64) × (bytes ≡ decimal n)
unfolding time_of
time_spelled bytes n e =
    let w = tested (nat_lt (digits_value 10 bytes) (2 ^ 64) && bytes_eq (decimal (digits_value 10 bytes)) bytes) (digits_value 10 bytes) n e in
    let h = and_parts (nat_lt (digits_value 10 bytes) (2 ^ 64)) (bytes_eq (decimal (digits_value 10 bytes)) bytes) w.0 in
    (tells n (sym (ap (λ (z : ℕ). nat_lt z (2 ^ 64)) w.1) ∙ h.0), sym (bytes_eq-tells (decimal (digits_value 10 bytes)) bytes h.1) ∙ ap decimal w.1)
