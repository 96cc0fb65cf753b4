-- Proves how a canonical text is cut into its tokens.
use Rattle.std.proofs.Common.{◌≡◌, ◌<◌, ◌≤◌, ℕ, suc, Bool, true, false, refl, sym, ap, ◌∙◌, arith, List, [], ◌∷◌, ◌++◌, length, append_assoc, rules}
use Rattle.std.specs.Prelude.{Some, pos, negsuc, nat_lt, codes, ◌==◌, ◌||◌, ◌&&◌}
use Rattle.std.specs.List.{list_all, flat_map}
use Rattle.std.specs.Char.{digit_value}
use Rattle.std.specs.Fmt.{signed_decimal, decimal}
use Rattle.std.specs.Str.Parse.{AllDigits}
use Rattle.std.proofs.lemmas.List.{append-nil}
use Rattle.std.proofs.lemmas.Fmt.{decimal_is_IsNumeral}
use Rattle.std.proofs.lemmas.Bool.Decides.{nat_tests}
use Rattle.filter_values.specs.Name.{IsName, is_letter, is_other_name_byte, are_name_bytes, is_name}
use Rattle.filter_values.specs.Text.{IsText}
use Rattle.filter_values.proofs.NameTests.{name_tested}
use Rattle.filter_values.specs.Value.{IsValue}
use Rattle.filter_values.specs.declared.value.Value.{Value}
use Rattle.filter_values.specs.declared.value.Value.TheVariants as values
use Rattle.filter_values.specs.declared.value.Kind.{Kind}
use Rattle.filter_values.specs.declared.value.Kind.TheVariants as kinds
use Rattle.filter_constraints.specs.declared.op.Op.{Op}
use Rattle.filter_constraints.specs.declared.op.Op.TheVariants as ops
use Rattle.filter_text.specs.ValueText.{escape, string_text, truth_word, value_text, kind_word, op_word}
use Rattle.document_script.specs.Tokens.{Token, is_word_byte, run_at, quoted_at, token_at, skip, tokens}
use Rattle.document_script.specs.Tokens.Token.{word, sign, string, semicolon}
use Rattle.document_script.proofs.TokenLaws.{nothing_left, cut_off}
use Rattle.std.proofs.lemmas.Bool.{and_parts, eqb-true}
use Rattle.base.proofs.Numbers.{digit-range}

-- nothing, or a byte that is none of a word
abbrev pub IsEnded : List ℕ → Type 0
IsEnded [] = Unit {0}
IsEnded (b ∷ rest) = is_word_byte b ≡ false

abbrev pub are_word_bytes : List ℕ → Bool
are_word_bytes w = list_all is_word_byte w

run_again : (read w tail : List ℕ) → are_word_bytes w ≡ true → IsEnded tail → run_at read (w ++ tail) ≡ (read ++ w, tail)
run_again read [] [] e s = ap (λ (x : List ℕ). (x, [])) (sym (append-nil read))
run_again read [] (b ∷ tail) e s = rw s (ap (λ (x : List ℕ). (x, b ∷ tail)) (sym (append-nil read)))
run_again read (b ∷ w) tail e s =
    let h = and_parts (is_word_byte b) (are_word_bytes w) e in
    rw h.0 (run_again (read ++ b ∷ []) w tail h.1 s ∙ ap (λ (x : List ℕ). (x, tail)) (append_assoc read (b ∷ []) w))

not_blank : (b : ℕ) → is_word_byte b ≡ true → (b == 32 || b == 9) ≡ false
not_blank b f = grind (arith, nat_tests)

pub word_cut : (b : ℕ) (w tail : List ℕ) → are_word_bytes (b ∷ w) ≡ true → IsEnded tail → tokens ((b ∷ w) ++ tail) ≡ word (b ∷ w) ∷ tokens tail
unfolding token_at
word_cut b w tail e s =
    let h = and_parts (is_word_byte b) (are_word_bytes w) e in
    let r : run_at (b ∷ []) (w ++ tail) ≡ (b ∷ w, tail) = run_again (b ∷ []) w tail h.1 s in
    cut_off ((b ∷ w) ++ tail) b (w ++ tail) tail (word (b ∷ w)) (rw (not_blank b h.0) refl) (rw (h.0, r) refl)

pub space_cut : (rest : List ℕ) → tokens (32 ∷ rest) ≡ tokens rest
space_cut rest = go (skip rest) refl
  where
    go : (left : List ℕ) → skip rest ≡ left → tokens (32 ∷ rest) ≡ tokens rest
    go [] e = nothing_left (32 ∷ rest) e ∙ sym (nothing_left rest e)
    go (b ∷ after) e = cut_off (32 ∷ rest) b after (token_at b after).1 (token_at b after).0 e refl ∙ sym (cut_off rest b after (token_at b after).1 (token_at b after).0 e refl)

pub semicolon_cut : (rest : List ℕ) → tokens (59 ∷ rest) ≡ semicolon ∷ tokens rest
unfolding token_at
semicolon_cut rest = cut_off (59 ∷ rest) 59 rest rest semicolon refl refl

-- one byte of a text is read as it
one : (read more : List ℕ) (b : ℕ) → quoted_at read false (escape b ++ more) ≡ quoted_at (read ++ b ∷ []) false more
one read more b = go (b == 34) refl (b == 92) refl (b == 10) refl (b == 9) refl
  where
    go : (p : Bool) → (b == 34) ≡ p → (q : Bool) → (b == 92) ≡ q → (r : Bool) → (b == 10) ≡ r → (s : Bool) → (b == 9) ≡ s → quoted_at read false (escape b ++ more) ≡ quoted_at (read ++ b ∷ []) false more
    go true p q qe r re s se = rw (eqb-true b 34 p) refl
    go false p true qe r re s se = rw (eqb-true b 92 qe) refl
    go false p false qe true re s se = rw (eqb-true b 10 re) refl
    go false p false qe false re true se = rw (eqb-true b 9 se) refl
    go false p false qe false re false se = simp (p, qe, re, se)

quoted_again : (read t tail : List ℕ) → quoted_at read false (flat_map escape t ++ 34 ∷ tail) ≡ Some (read ++ t, tail)
quoted_again read [] tail = ap (λ (x : List ℕ). Some (x, tail)) (sym (append-nil read))
quoted_again read (b ∷ t) tail =
    let e : quoted_at read false ((escape b ++ flat_map escape t) ++ 34 ∷ tail) ≡ quoted_at read false (escape b ++ (flat_map escape t ++ 34 ∷ tail)) = ap (λ (x : List ℕ). quoted_at read false x) (append_assoc (escape b) (flat_map escape t) (34 ∷ tail)) in
    e ∙ one read (flat_map escape t ++ 34 ∷ tail) b ∙ quoted_again (read ++ b ∷ []) t tail ∙ ap (λ (x : List ℕ). Some (x, tail)) (append_assoc read (b ∷ []) t)

pub string_cut : (t tail : List ℕ) → IsText t → tokens (string_text t ++ tail) ≡ string t ∷ tokens tail
unfolding token_at
string_cut t tail is =
    let q : quoted_at [] false ((flat_map escape t ++ 34 ∷ []) ++ tail) ≡ Some (t, tail) = ap (λ (x : List ℕ). quoted_at [] false x) (append_assoc (flat_map escape t) (34 ∷ []) tail) ∙ quoted_again [] t tail in
    let short : nat_lt 1024 (length t) ≡ false = let l : length t ≤ 1024 = is.short in grind (arith, nat_tests) in
    cut_off (string_text t ++ tail) 34 ((flat_map escape t ++ 34 ∷ []) ++ tail) tail (string t) refl (rw (q, is.utf8, is.open_bytes, short) refl)

-- Names, kinds and numbers.

name_byte : (b : ℕ) → (is_letter b || is_other_name_byte b) ≡ true → is_word_byte b ≡ true
name_byte b e = grind (arith, nat_tests)

letter_byte : (b : ℕ) → is_letter b ≡ true → is_word_byte b ≡ true
letter_byte b e = rw e refl

name_bytes : (w : List ℕ) → are_name_bytes w ≡ true → are_word_bytes w ≡ true
name_bytes [] e = refl
name_bytes (b ∷ w) e =
    let h = and_parts (is_letter b || is_other_name_byte b) (are_name_bytes w) e in
    rw (name_byte b h.0, name_bytes w h.1) refl

pub whole_name : (b : ℕ) (w : List ℕ) → is_name (b ∷ w) ≡ true → are_word_bytes (b ∷ w) ≡ true
unfolding is_name
whole_name b w e =
    let h = and_parts (is_letter b) (are_name_bytes w && nat_lt (length w) 64) e in
    rw (letter_byte b h.0, name_bytes w (and_parts (are_name_bytes w) (nat_lt (length w) 64) h.1).0) refl

pub name_cut : (name tail : List ℕ) → IsName name → IsEnded tail → tokens (name ++ tail) ≡ word name ∷ tokens tail
name_cut [] tail is s = absurd (omega (arith, is.some))
name_cut (b ∷ w) tail is s = word_cut b w tail (whole_name b w (name_tested (b ∷ w) is)) s

pub kind_cut : (k : Kind) (tail : List ℕ) → IsEnded tail → tokens (kind_word k ++ tail) ≡ word (kind_word k) ∷ tokens tail
kind_cut kinds.Bool tail s = word_cut 98 (codes "ool") tail refl s
kind_cut kinds.Int tail s = word_cut 105 (codes "nt") tail refl s
kind_cut kinds.Str tail s = word_cut 115 (codes "tr") tail refl s
kind_cut kinds.Time tail s = word_cut 116 (codes "ime") tail refl s

digit_byte : (d : ℕ) → digit_value d < 10 → is_word_byte d ≡ true
digit_byte d h = let r = digit-range d h in let lo : 48 ≤ d = r.0 in let hi : d ≤ 57 = r.1 in grind (arith, nat_tests)

pub digits_bytes : (ds : List ℕ) → AllDigits 10 ds → are_word_bytes ds ≡ true
digits_bytes [] h = refl
digits_bytes (d ∷ ds) h = rw (digit_byte d h.0, digits_bytes ds h.1) refl

digits_cut : (ds tail : List ℕ) → 0 < length ds → AllDigits 10 ds → IsEnded tail → tokens (ds ++ tail) ≡ word ds ∷ tokens tail
digits_cut [] tail l h s = absurd (omega arith)
digits_cut (d ∷ ds) tail l h s = word_cut d ds tail (digits_bytes (d ∷ ds) h) s

-- the token of a value
abbrev pub value_token : Value → Token
value_token (values.Bool b) = word (truth_word b)
value_token (values.Int z) = word (signed_decimal z)
value_token (values.Str t) = string t
value_token (values.Time n) = word (decimal n)

pub value_cut : (v : Value) (tail : List ℕ) → IsValue v → IsEnded tail → tokens (value_text v ++ tail) ≡ value_token v ∷ tokens tail
value_cut (values.Bool true) tail is s = word_cut 116 (codes "rue") tail refl s
value_cut (values.Bool false) tail is s = word_cut 102 (codes "alse") tail refl s
value_cut (values.Int (pos n)) tail is s = let w = (decimal_is_IsNumeral n (search rules)).0 in digits_cut (decimal n) tail w.0 w.1 s
value_cut (values.Int (negsuc n)) tail is s = let w = (decimal_is_IsNumeral (suc n) (search rules)).0 in word_cut 45 (decimal (suc n)) tail (rw (digits_bytes (decimal (suc n)) w.1) refl) s
value_cut (values.Str t) tail is s = string_cut t tail is
value_cut (values.Time n) tail is s = let w = (decimal_is_IsNumeral n is).0 in digits_cut (decimal n) tail w.0 w.1 s

-- the token of an operator
abbrev pub op_token : Op → Token
op_token ops.Any = word (op_word ops.Any)
op_token ops.Prefix = word (op_word ops.Prefix)
op_token ops.Suffix = word (op_word ops.Suffix)
op_token ops.Contains = word (op_word ops.Contains)
op_token op = sign op

pub any_cut : (tail : List ℕ) → IsEnded tail → tokens (op_word ops.Any ++ tail) ≡ op_token ops.Any ∷ tokens tail
any_cut tail s = word_cut 97 (codes "ny") tail refl s

pub op_cut : (op : Op) (rest : List ℕ) → tokens (op_word op ++ 32 ∷ rest) ≡ op_token op ∷ tokens (32 ∷ rest)
unfolding token_at
op_cut ops.Any rest = word_cut 97 (codes "ny") (32 ∷ rest) refl refl
op_cut ops.Eq rest = cut_off (61 ∷ 32 ∷ rest) 61 (32 ∷ rest) (32 ∷ rest) (sign ops.Eq) refl refl
op_cut ops.Ne rest = cut_off (33 ∷ 61 ∷ 32 ∷ rest) 33 (61 ∷ 32 ∷ rest) (32 ∷ rest) (sign ops.Ne) refl refl
op_cut ops.Lt rest = cut_off (60 ∷ 32 ∷ rest) 60 (32 ∷ rest) (32 ∷ rest) (sign ops.Lt) refl refl
op_cut ops.Le rest = cut_off (60 ∷ 61 ∷ 32 ∷ rest) 60 (61 ∷ 32 ∷ rest) (32 ∷ rest) (sign ops.Le) refl refl
op_cut ops.Gt rest = cut_off (62 ∷ 32 ∷ rest) 62 (32 ∷ rest) (32 ∷ rest) (sign ops.Gt) refl refl
op_cut ops.Ge rest = cut_off (62 ∷ 61 ∷ 32 ∷ rest) 62 (61 ∷ 32 ∷ rest) (32 ∷ rest) (sign ops.Ge) refl refl
op_cut ops.Prefix rest = word_cut 112 (codes "refix") (32 ∷ rest) refl refl
op_cut ops.Suffix rest = word_cut 115 (codes "uffix") (32 ∷ rest) refl refl
op_cut ops.Contains rest = word_cut 99 (codes "ontains") (32 ∷ rest) refl refl
