-- Tokens one after the other are the tokens of the line.
use Rattle.std.proofs.Common.{◌≡◌, ◌≤◌, ◌<◌, ℕ, zero, suc, Bool, true, false, cond, refl, sym, ap, ◌∙◌, arith, List, [], ◌∷◌, ◌++◌, ◌-◌, length, take, drop, get_or}
use Rattle.std.specs.Prelude.{Some, None, ◌==◌, ◌||◌, nat_lt}
use Rattle.std.proofs.lemmas.Bool.Decides.{nat_tests}
use Rattle.filter_constraints.specs.declared.op.Op.{Op}
use Rattle.filter_text.specs.Filters.{op_named}
use Rattle.document_script.specs.Form.{more_in, op_in, word_in}
use Rattle.document_script.specs.Reading.{TakesFront}
use Rattle.document_script.specs.Tokens.{is_string, string_seen}
use Rattle.std.specs.declared.option.Option.{Option}
use Rattle.filter_constraints.specs.declared.op.Op.TheVariants as ops
use Rattle.filter_text.specs.Values.{plain}
use Rattle.filter_text.proofs.Options.{bind_some, pair_in, none_not}
use Rattle.document_script.specs.Tokens.{Token, is_word_byte, run_at, quoted_at, string_token, equals_at, sign_token, token_at, skip, cut_by, tokens_in, tokens}
use Rattle.document_script.specs.Tokens.Token.{word, sign, string, long, semicolon, bad}

run_short : (read bytes : List ℕ) → length (run_at read bytes).1 ≤ length bytes
run_short read [] = omega arith
run_short read (b ∷ rest) = go (is_word_byte b) (run_short (read ++ b ∷ []) rest)
  where
    go : (p : Bool) → length (run_at (read ++ b ∷ []) rest).1 ≤ length rest → length (cond p (run_at (read ++ b ∷ []) rest) (read, b ∷ rest)).1 ≤ length (b ∷ rest)
    go true k = omega (arith, k)
    go false k = omega arith

run_first : (b : ℕ) (rest : List ℕ) → is_word_byte b ≡ true → length (run_at [] (b ∷ rest)).1 ≤ length rest
run_first b rest e = go (is_word_byte b) e
  where
    go : (p : Bool) → p ≡ true → length (cond p (run_at (b ∷ []) rest) ([], b ∷ rest)).1 ≤ length rest
    go true e = run_short (b ∷ []) rest
    go false e = absurd cc

quoted_short : (read : List ℕ) (slashed : Bool) (bytes : List ℕ) (x : List ℕ × List ℕ) → quoted_at read slashed bytes ≡ Some x → length x.1 ≤ length bytes
quoted_short read slashed [] x e = none_not x e
quoted_short read true (b ∷ rest) x e =
    let c = bind_some (plain b) (λ c. quoted_at (read ++ c ∷ []) false rest) x e in
    let k = quoted_short (read ++ c.0 ∷ []) false rest x c.2 in omega (arith, k)
quoted_short read false (b ∷ rest) x e = go (b == 34) (b == 92) (b == 10) e (λ h. quoted_short read true rest x h) (λ h. quoted_short (read ++ b ∷ []) false rest x h)
  where
    go : (p q r : Bool) → cond p (Some (read, rest)) (cond q (quoted_at read true rest) (cond r None (quoted_at (read ++ b ∷ []) false rest))) ≡ Some x
        → (quoted_at read true rest ≡ Some x → length x.1 ≤ length rest) → (quoted_at (read ++ b ∷ []) false rest ≡ Some x → length x.1 ≤ length rest) → length x.1 ≤ length (b ∷ rest)
    go true q r e k m = let p = pair_in read rest x.0 x.1 e in let l : length x.1 ≡ length rest = ap length (sym p.1) in omega (arith, l)
    go false true r e k m = omega (arith, k e)
    go false false true e k m = none_not x e
    go false false false e k m = omega (arith, m e)

string_short : (quoted : Option (List ℕ × List ℕ)) (rest : List ℕ) → ((x : List ℕ × List ℕ) → quoted ≡ Some x → length x.1 ≤ length rest) → length (string_token quoted rest).1 ≤ length rest
string_short None rest k = omega arith
string_short (Some x) rest k = k x refl

equals_short : (bytes : List ℕ) → length (equals_at bytes).1 ≤ length bytes
equals_short [] = omega arith
equals_short (b ∷ rest) = go (b == 61)
  where
    go : (p : Bool) → length (cond {A = Bool × List ℕ} p (true, rest) (false, b ∷ rest)).1 ≤ length (b ∷ rest)
    go true = omega arith
    go false = omega arith

sign_short : (x : Bool × List ℕ) (t u : Token) (n : ℕ) → length x.1 ≤ n → length (sign_token x t u).1 ≤ n
sign_short (true, rest) t u n k = k
sign_short (false, rest) t u n k = k

pick : (p : Bool) (x y : Token × List ℕ) (n : ℕ) → (p ≡ true → length x.1 ≤ n) → length y.1 ≤ n → length (cond p x y).1 ≤ n
pick true x y n h k = h refl
pick false x y n h k = k

token_short : (b : ℕ) (rest : List ℕ) → length (token_at b rest).1 ≤ length rest
unfolding token_at
token_short b rest =
    let equals = equals_short rest in
    let here : length rest ≤ length rest = omega arith in
    pick (is_word_byte b) _ _ (length rest) (λ e. run_first b rest e)
    (pick (b == 34) _ _ (length rest) (λ e. string_short (quoted_at [] false rest) rest (λ x h. quoted_short [] false rest x h))
    (pick (b == 59) _ _ (length rest) (λ e. here)
    (pick (b == 61) _ _ (length rest) (λ e. here)
    (pick (b == 60) _ _ (length rest) (λ e. sign_short (equals_at rest) (sign ops.Le) (sign ops.Lt) (length rest) equals)
    (pick (b == 62) _ _ (length rest) (λ e. sign_short (equals_at rest) (sign ops.Ge) (sign ops.Gt) (length rest) equals)
    (pick (b == 33) _ _ (length rest) (λ e. sign_short (equals_at rest) (sign ops.Ne) bad (length rest) equals) here))))))

skip_short : (bytes : List ℕ) → length (skip bytes) ≤ length bytes
skip_short [] = omega arith
skip_short (b ∷ rest) = go (b == 32 || b == 9) (skip_short rest)
  where
    go : (p : Bool) → length (skip rest) ≤ length rest → length (cond p (skip rest) (b ∷ rest)) ≤ length (b ∷ rest)
    go true k = omega (arith, k)
    go false k = omega arith

empty : (n : ℕ) → tokens_in n [] ≡ []
unfolding tokens_in
empty zero = refl
empty (suc n) = refl

enough : (n m : ℕ) (bytes : List ℕ) → length bytes ≤ n → length bytes ≤ m → tokens_in n bytes ≡ tokens_in m bytes
unfolding tokens_in
enough zero m [] h k = sym (empty m)
enough zero m (b ∷ rest) h k = absurd (omega arith)
enough (suc n) zero [] h k = empty (suc n)
enough (suc n) zero (b ∷ rest) h k = absurd (omega arith)
enough (suc n) (suc m) bytes h k = go (skip bytes) (skip_short bytes) (λ rest a b. enough n m rest a b)
  where
    go : (left : List ℕ) → length left ≤ length bytes → ((rest : List ℕ) → length rest ≤ n → length rest ≤ m → tokens_in n rest ≡ tokens_in m rest) → cut_by (λ rest. tokens_in n rest) left ≡ cut_by (λ rest. tokens_in m rest) left
    go [] l more = refl
    go (b ∷ rest) l more = let s = token_short b rest in ap (λ (z : List Token). (token_at b rest).0 ∷ z) (more (token_at b rest).1 (omega (arith, s, l, h)) (omega (arith, s, l, k)))

pub nothing_left : (bytes : List ℕ) → skip bytes ≡ [] → tokens bytes ≡ []
unfolding tokens_in
nothing_left [] e = refl
nothing_left (b ∷ rest) e = ap (cut_by (λ rest'. tokens_in (length rest) rest')) e

pub cut_off : (bytes : List ℕ) (first : ℕ) (after left : List ℕ) (t : Token) → skip bytes ≡ first ∷ after → (t, left) ≡ token_at first after → tokens bytes ≡ t ∷ tokens left
unfolding tokens_in
cut_off [] first after left t e c = absurd cc
cut_off (b ∷ rest) first after left t e c =
    let s = token_short first after in
    let k : length (skip (b ∷ rest)) ≤ length (b ∷ rest) = skip_short (b ∷ rest) in
    let l : length (skip (b ∷ rest)) ≡ length (first ∷ after) = ap length e in
    let same : left ≡ (token_at first after).1 = ap (λ (z : Token × List ℕ). z.1) c in
    let small : length left ≤ length rest = let m : length left ≡ length (token_at first after).1 = ap length same in omega (arith, s, k, l, m) in
    let one : tokens (b ∷ rest) ≡ (token_at first after).0 ∷ tokens_in (length rest) (token_at first after).1 = ap (cut_by (λ rest'. tokens_in (length rest) rest')) e in
    let two : (token_at first after).0 ∷ tokens_in (length rest) (token_at first after).1 ≡ t ∷ tokens_in (length rest) left = ap (λ (z : Token × List ℕ). z.0 ∷ tokens_in (length rest) z.1) (sym c) in
    one ∙ two ∙ ap (λ (z : List Token). t ∷ z) (enough (length rest) (length left) left small (omega arith))

pub at_end : (bytes left : List ℕ) → left ≡ skip bytes → length left < 1 → (tokens bytes ≡ []) × (tokens left ≡ [])
at_end bytes [] e l = (nothing_left bytes (sym e), empty 0)
at_end bytes (b ∷ left) e l = absurd (omega arith)

take_all : (xs : List ℕ) → take (length xs) xs ≡ xs
take_all [] = refl
take_all (x ∷ xs) = ap (λ (z : List ℕ). x ∷ z) (take_all xs)

pub first_and_rest : (xs : List ℕ) → 1 ≤ length xs → xs ≡ get_or xs 0 0 ∷ take (length xs - 1) (drop 1 xs)
first_and_rest [] l = absurd (omega arith)
first_and_rest (x ∷ xs) l = let e : length (x ∷ xs) - 1 ≡ length xs = omega arith in ap (λ (z : List ℕ). x ∷ z) (sym (ap (λ (n : ℕ). take n xs) e ∙ take_all xs))

pub next_cut : (bytes left : List ℕ) (first : ℕ) (after more : List ℕ) (t : Token) → (t, more) ≡ token_at first after → left ≡ skip bytes → left ≡ first ∷ after → tokens bytes ≡ t ∷ tokens more
next_cut bytes left first after more t c e f = cut_off bytes first after more t (sym e ∙ f) c

-- What stands in front, by its first byte.

pub cut_here : (bytes left : List ℕ) → left ≡ skip bytes → tokens bytes ≡ cut_by tokens left
cut_here bytes [] e = nothing_left bytes (sym e)
cut_here bytes (b ∷ rest) e = cut_off bytes b rest (token_at b rest).1 (token_at b rest).0 (sym e) refl

by_test : (P : Token → Type 0) (p : Bool) (x y : Token × List ℕ) → (p ≡ true → P x.0) → (p ≡ false → P y.0) → P (cond p x y).0
by_test P true x y h k = h refl
by_test P false x y h k = k refl

by_sign : (P : Token → Type 0) (x : Bool × List ℕ) (t u : Token) → P t → P u → P (sign_token x t u).0
by_sign P (true, rest) t u h k = h
by_sign P (false, rest) t u h k = k

by_bytes : (P : Token → Type 0) (t : List ℕ) → P (string t) → P long → P bad → P (string_seen t)
by_bytes P t h l k = go (is_string t) (nat_lt 1024 (length t))
  where
    go : (p q : Bool) → P (cond p (cond q long (string t)) bad)
    go true true = l
    go true false = h
    go false q = k

by_string : (P : Token → Type 0) (quoted : Option (List ℕ × List ℕ)) (rest : List ℕ) → ((t : List ℕ) → P (string t)) → P long → P bad → P (string_token quoted rest).0
by_string P None rest h l k = k
by_string P (Some x) rest h l k = by_bytes P x.0 (h x.0) l k

by_token : (P : Token → Type 0) (b : ℕ) (rest : List ℕ) → (is_word_byte b ≡ true → (w : List ℕ) → P (word w)) → ((op : Op) → P (sign op)) → ((t : List ℕ) → P (string t)) → P long
    → ((b == 59) ≡ true → P semicolon) → P bad → P (token_at b rest).0
unfolding token_at
by_token P b rest w s t l m k =
    by_test P (is_word_byte b) _ _ (λ e. w e (run_at [] (b ∷ rest)).0)
    (λ e. by_test P (b == 34) _ _ (λ e. by_string P (quoted_at [] false rest) rest t l k)
    (λ e. by_test P (b == 59) _ _ (λ e. m e)
    (λ e. by_test P (b == 61) _ _ (λ e. s ops.Eq)
    (λ e. by_test P (b == 60) _ _ (λ e. by_sign P (equals_at rest) (sign ops.Le) (sign ops.Lt) (s ops.Le) (s ops.Lt))
    (λ e. by_test P (b == 62) _ _ (λ e. by_sign P (equals_at rest) (sign ops.Ge) (sign ops.Gt) (s ops.Ge) (s ops.Gt))
    (λ e. by_test P (b == 33) _ _ (λ e. by_sign P (equals_at rest) (sign ops.Ne) bad (s ops.Ne) k) (λ e. k)))))))

chosen : {A : Type 0} (p : Bool) (x y : A) → p ≡ true → x ≡ cond p x y
chosen true x y e = refl
chosen false x y e = absurd cc

token_word : (b : ℕ) (rest w more : List ℕ) → is_word_byte b ≡ true → (w, more) ≡ run_at [] (b ∷ rest) → (word w, more) ≡ token_at b rest
unfolding token_at
token_word b rest w more p r =
    let one : (word w, more) ≡ (word (run_at [] (b ∷ rest)).0, (run_at [] (b ∷ rest)).1) = ap (λ (z : List ℕ × List ℕ). (word z.0, z.1)) r in
    one ∙ chosen (is_word_byte b) _ _ p

pub word_cut : (bytes left w more : List ℕ) → left ≡ skip bytes → 1 ≤ length left → is_word_byte (get_or left 0 0) ≡ true → (w, more) ≡ run_at [] left → tokens bytes ≡ word w ∷ tokens more
word_cut bytes [] w more s l p r = absurd (omega (arith, l))
word_cut bytes (b ∷ rest) w more s l p r = cut_off bytes b rest more (word w) (sym s) (token_word b rest w more p r)

pub no_word : (bytes left : List ℕ) → left ≡ skip bytes → 1 ≤ length left → is_word_byte (get_or left 0 0) ≡ false → word_in (tokens bytes) ≡ None
no_word bytes [] s l p = absurd (omega (arith, l))
no_word bytes (b ∷ rest) s l p = ap word_in (cut_here bytes (b ∷ rest) s) ∙ by_token (λ t. word_in (t ∷ tokens (token_at b rest).1) ≡ None) b rest (λ e w. absurd (differ (is_word_byte b) e p)) (λ op. refl) (λ t. refl) refl (λ e. refl) refl
  where
    differ : (x : Bool) → x ≡ true → x ≡ false → ⊥
    differ true e f = cc
    differ false e f = cc

pub none_word : (bytes left : List ℕ) → left ≡ skip bytes → length left < 1 → word_in (tokens bytes) ≡ None
none_word bytes left s l = ap word_in (at_end bytes left s l).0

pub no_more : (bytes left : List ℕ) → left ≡ skip bytes → 1 ≤ length left → (get_or left 0 0 ≡ 59 → ⊥) → more_in (tokens bytes) ≡ None
no_more bytes [] s l n = absurd (omega (arith, l))
no_more bytes (b ∷ rest) s l n = ap more_in (cut_here bytes (b ∷ rest) s) ∙ by_token (λ t. more_in (t ∷ tokens (token_at b rest).1) ≡ None) b rest (λ e w. refl) (λ op. refl) (λ t. refl) refl (λ e. absurd (n (same b e))) refl
  where
    same : (b : ℕ) → (b == 59) ≡ true → b ≡ 59
    same b e = grind (arith, nat_tests)

token_semicolon : (rest : List ℕ) → token_at 59 rest ≡ (semicolon, rest)
unfolding token_at
token_semicolon rest = refl

pub semicolon_cut : (bytes left after : List ℕ) → left ≡ skip bytes → left ≡ 59 ∷ after → more_in (tokens bytes) ≡ Some (true, tokens after)
semicolon_cut bytes left after s l = ap more_in (cut_off bytes 59 after after semicolon (sym s ∙ l) (sym (token_semicolon after)))

pub end_cut : (bytes left : List ℕ) → left ≡ skip bytes → length left < 1 → more_in (tokens bytes) ≡ Some (false, tokens left)
end_cut bytes left s l = let e = at_end bytes left s l in ap more_in e.0 ∙ ap (λ (z : List Token). Some (false, z)) (sym e.1)

pub none_op : (bytes left : List ℕ) → left ≡ skip bytes → length left < 1 → op_in (tokens bytes) ≡ None
none_op bytes left s l = ap op_in (at_end bytes left s l).0

pub word_op : (result : Option Op) (bytes left w more : List ℕ) → result ≡ op_named w → left ≡ skip bytes → 1 ≤ length left → is_word_byte (get_or left 0 0) ≡ true → (w, more) ≡ run_at [] left → TakesFront (λ o. o) result (op_in (tokens bytes)) (tokens more)
word_op None bytes left w more o s l p r = rw (word_cut bytes left w more s l p r, ← o) refl
word_op (Some op) bytes left w more o s l p r = rw (word_cut bytes left w more s l p r, ← o) refl

pub sign_op : (result : Option Op) (bytes left : List ℕ) (b : ℕ) (after more : List ℕ) → left ≡ skip bytes → left ≡ b ∷ after → TakesFront (λ o. o) result (op_in (cut_by tokens (b ∷ after))) (tokens more) → TakesFront (λ o. o) result (op_in (tokens bytes)) (tokens more)
sign_op result bytes left b after more s l t = rw (cut_here bytes left s, l) t
