-- The words of canonical lines, and the numbers and names that they are.
use Rattle.std.proofs.Common.{◌≡◌, ℕ, ◌+◌, ◌*◌, ◌-◌, ◌<◌, ◌≤◌, Bool, true, false, not, ◌&&◌, List, [], ◌∷◌, ◌++◌, length, refl, ap, ◌∙◌, arith, nat_le, nat_lt, Some}
use Rattle.std.specs.Fmt.{decimal}
use Rattle.std.proofs.lemmas.Fmt.{decimal_is_IsNumeral, length-decimal-le}
use Rattle.std.proofs.lemmas.Bool.Decides.{nat_tests}
use Rattle.std.proofs.lemmas.Grind.{common_steps}
use Rattle.filter_values.specs.Name.{IsName}
use Rattle.filter_values.proofs.NameTests.{name_tested}
use Rattle.document_script.specs.Tokens.{is_word_byte}
use Rattle.document_script.proofs.IntLaws.{numeral_number}
use Rattle.document_format.proofs.Cuts.{are_word_bytes, whole_name, digits_bytes}
use Rattle.document_reader.specs.Lines.{words, is_blank}
use Rattle.document_reader.specs.Words.{number, one_number, two_numbers, name_and_number, one_name}
use Rattle.document_format.proofs.LineLaws.{are_shown, are_dense, word_then, word_last}
use Rattle.std.proofs.lemmas.Bool.{and_parts}

byte_dense : (b : ℕ) → is_word_byte b ≡ true → not (is_blank b) ≡ true
byte_dense b e = grind (arith, nat_tests, common_steps)

byte_shown : (b : ℕ) → is_word_byte b ≡ true → nat_le 32 b ≡ true
byte_shown b e = grind (arith, nat_tests)

pub word_dense : (w : List ℕ) → are_word_bytes w ≡ true → are_dense w ≡ true
word_dense [] e = refl
word_dense (b ∷ w) e = let h = and_parts (is_word_byte b) (are_word_bytes w) e in rw (byte_dense b h.0, word_dense w h.1) refl

pub word_shown : (w : List ℕ) → are_word_bytes w ≡ true → are_shown w ≡ true
word_shown [] e = refl
word_shown (b ∷ w) e = let h = and_parts (is_word_byte b) (are_word_bytes w) e in rw (byte_shown b h.0, word_shown w h.1) refl

-- some bytes, all of words
pub record IsWord (w : List ℕ) : Type 0 where
  pub some : 0 < length w
  pub bytes : are_word_bytes w ≡ true

pub name_word : (name : List ℕ) → IsName name → IsWord name
name_word [] is = absurd (omega (arith, is.some))
name_word (b ∷ w) is = record { some = omega arith; bytes = whole_name b w (name_tested (b ∷ w) is) }

pub decimal_word : (n : ℕ) → n < 65536 → IsWord (decimal n)
decimal_word n l = let d = (decimal_is_IsNumeral n (omega arith)).0 in record { some = d.0; bytes = digits_bytes (decimal n) d.1 }

pub words_last : (w : List ℕ) → IsWord w → words w ≡ w ∷ []
words_last [] is = absurd (omega (arith, is.some))
words_last (b ∷ w) is = word_last b w (word_dense (b ∷ w) is.bytes)

pub words_then : (w rest : List ℕ) → IsWord w → words (w ++ 32 ∷ rest) ≡ w ∷ words rest
words_then [] rest is = absurd (omega (arith, is.some))
words_then (b ∷ w) rest is = word_then b w rest (word_dense (b ∷ w) is.bytes)

-- Numbers.

pub number_again : (n : ℕ) → n < 65536 → number (decimal n) ≡ Some n
unfolding number
number_again n l =
    let d = decimal_is_IsNumeral n (omega arith) in
    let some : 0 < length (decimal n) = d.0.0 in
    let few : length (decimal n) ≤ 10 = length-decimal-le 10 n (omega arith) (omega arith) (omega arith) in
    let a : nat_lt 0 (length (decimal n)) ≡ true = grind (arith, nat_tests) in
    let b : nat_le (length (decimal n)) 10 ≡ true = grind (arith, nat_tests) in
    rw (a, b) (numeral_number (decimal n) d.0.1 ∙ ap Some d.1)

pub one_again : (n : ℕ) → n < 65536 → one_number (decimal n ∷ []) ≡ Some n
unfolding one_number
one_again n l = number_again n l

pub two_again : (a b : ℕ) → a < 65536 → b < 65536 → two_numbers (decimal a ∷ decimal b ∷ []) ≡ Some (a, b)
unfolding two_numbers
two_again a b l m = rw (number_again a l, number_again b m) refl

pub named_again : (name : List ℕ) (n : ℕ) → IsName name → n < 65536 → name_and_number (name ∷ decimal n ∷ []) ≡ Some (name, n)
unfolding name_and_number
named_again name n is l = rw (name_tested name is, number_again n l) refl

pub name_again : (name : List ℕ) → IsName name → one_name (name ∷ []) ≡ Some name
unfolding one_name
name_again name is = rw (name_tested name is) refl
