-- A name and a kind, read a word at a time; and which bytes are no name and no string.
use Rattle.std.proofs.Common.{◌≡◌, ◌<◌, ◌+◌, ℕ, Bool, true, false, not, cond, refl, arith, List, [], ◌∷◌, length, position}
use Rattle.std.specs.Prelude.{Some, None, ◌&&◌}
use Rattle.std.specs.List.{list_all, prefix_len}
use Rattle.std.specs.Str.{is_utf8}
use Rattle.std.proofs.lemmas.Bool.Decides.{nat_tests}
use Rattle.filter_values.specs.declared.value.Kind.{Kind}
use Rattle.filter_values.specs.Name.{IsFirstBad, IsName, is_name}
use Rattle.filter_values.specs.Text.{is_open_byte}
use Rattle.filter_values.proofs.NameTests.{name_tested, tested_name}
use Rattle.filter_text.specs.Reading.{◌>>=◌}
use Rattle.filter_text.proofs.Options.{bind_some, pair_in}
use Rattle.document_script.specs.Tokens.{Token, is_string, string_seen}
use Rattle.document_script.specs.Tokens.Token.{bad}
use Rattle.document_script.specs.Form.{head_in, kind_by, kind_in, word_in}
use Rattle.std.proofs.lemmas.Bool.{false_from_ne_true}

pub no_name : (w : List ℕ) → (IsName w → ⊥) → is_name w ≡ false
no_name w k = false_from_ne_true (is_name w) (λ e. k (tested_name w e))

pub empty_no_name : (w : List ℕ) → length w ≡ 0 → is_name w ≡ false
empty_no_name w l = no_name w (λ is. let s = is.some in omega (arith, s, l))

pub long_no_name : (w : List ℕ) → 64 < length w → is_name w ≡ false
long_no_name w l = no_name w (λ is. let s = is.short in omega (arith, s, l))

pub bad_no_name : (w : List ℕ) (i : ℕ) → IsFirstBad w i → is_name w ≡ false
bad_no_name w i b = no_name w (λ is. b.bad (is.each i b.inside))

pub no_head : (version : ℕ) (ts others left : List Token) (w : List ℕ) (kind : Kind) → word_in ts ≡ Some (w, others) → kind_in version others ≡ Some (kind, left) → is_name w ≡ false → head_in version ts ≡ None
unfolding head_in
no_head version ts others left w kind f k n =
    let a = bind_some (word_in others) (λ k. kind_by version k.0 >>= λ kind. Some (kind, k.1)) (kind, left) k in
    let b = bind_some (kind_by version a.0.0) (λ kind. Some (kind, a.0.1)) (kind, left) a.2 in
    rw (f, a.1, b.1, n) refl

pub head_is : (version : ℕ) (ts others left : List Token) (w : List ℕ) (kind : Kind) → word_in ts ≡ Some (w, others) → kind_in version others ≡ Some (kind, left) → IsName w → head_in version ts ≡ Some ((w, kind), left)
unfolding head_in
head_is version ts others left w kind f k n =
    let a = bind_some (word_in others) (λ k. kind_by version k.0 >>= λ kind. Some (kind, k.1)) (kind, left) k in
    let b = bind_some (kind_by version a.0.0) (λ kind. Some (kind, a.0.1)) (kind, left) a.2 in
    let same = pair_in b.0 a.0.1 kind left b.2 in
    rw (f, a.1, b.1, name_tested w n, same.0, same.1) refl

bad_seen : (t : List ℕ) → is_string t ≡ false → bad ≡ string_seen t
bad_seen t e = rw e refl

pub broken_seen : (t : List ℕ) → is_utf8 t ≡ false → bad ≡ string_seen t
broken_seen t u = bad_seen t (go (is_utf8 t) u)
  where
    go : (p : Bool) → p ≡ false → (p && list_all is_open_byte t) ≡ false
    go true e = absurd cc
    go false e = refl

pub closed_seen : (t : List ℕ) → (list_all is_open_byte t ≡ true → ⊥) → bad ≡ string_seen t
closed_seen t u = bad_seen t (go (is_utf8 t) (false_from_ne_true (list_all is_open_byte t) u))
  where
    go : (p : Bool) → list_all is_open_byte t ≡ false → (p && list_all is_open_byte t) ≡ false
    go true e = e
    go false e = refl

all_len : (p : ℕ → Bool) (xs : List ℕ) → list_all p xs ≡ true → prefix_len (λ b. not (not (p b))) xs ≡ length xs
all_len p [] e = refl
all_len p (x ∷ xs) e = go (p x) e (λ h. all_len p xs h)
  where
    go : (b : Bool) → (b && list_all p xs) ≡ true → (list_all p xs ≡ true → prefix_len (λ b. not (not (p b))) xs ≡ length xs) → cond (not (not b)) (1 + prefix_len (λ b. not (not (p b))) xs) 0 ≡ length (x ∷ xs)
    go true h k = let l = k h in omega (arith, l)
    go false h k = absurd cc

pub control_seen : (t : List ℕ) (i : ℕ) → position (λ b. not (is_open_byte b)) t ≡ Some i → bad ≡ string_seen t
control_seen t i e = closed_seen t (λ a. let l = all_len is_open_byte t a in absurd (grind (arith, nat_tests)))
