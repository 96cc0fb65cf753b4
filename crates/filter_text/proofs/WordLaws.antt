-- Words, names, kinds and numbers, read as they are written.
use Rattle.std.proofs.Common.{◌≡◌, ◌<◌, ◌≤◌, ◌^◌, ℕ, suc, ℤ, Bool, true, false, not, cond, refl, sym, ap, subst, ◌∙◌, inl, inr, arith, List, [], ◌∷◌, ◌++◌, length, append_assoc, FitsSigned, rules}
use Rattle.std.specs.Prelude.{Some, pos, negsuc, nat_le, nat_lt, codes, ◌&&◌, ◌||◌, ◌==◌}
use Rattle.std.specs.List.{list_all}
use Rattle.std.specs.Int.{w64, IsInRange}
use Rattle.std.specs.Char.{digit_value}
use Rattle.std.specs.Fmt.{signed_decimal, decimal}
use Rattle.std.specs.Str.{bytes_eq}
use Rattle.std.specs.Str.Parse.{AllDigits}
use Rattle.std.proofs.lemmas.List.{append-nil}
use Rattle.std.proofs.lemmas.Fmt.{decimal_is_IsNumeral}
use Rattle.std.proofs.lemmas.Bool.Decides.{nat_tests}
use Rattle.std.proofs.lemmas.Option.{same_Some}
use Rattle.filter_constraints.proofs.BytesLemmas.{bytes_eq-tells}
use Rattle.filter_values.specs.Name.{IsName, is_letter, is_other_name_byte, are_name_bytes, is_name}
use Rattle.filter_values.proofs.NameTests.{name_tested, tested_name}
use Rattle.filter_values.specs.declared.value.Kind.{Kind}
use Rattle.filter_values.specs.declared.value.Kind.TheVariants as kinds
use Rattle.filter_text.specs.ValueText.{kind_word}
use Rattle.filter_text.specs.Reading.{◌>>=◌}
use Rattle.filter_text.specs.Words.{is_stop, word_at, space_at, name_at, kind_named, kind_at, head_at, int_of, when_within, number_at}
use Rattle.filter_text.proofs.Options.{bind_some, pair_in, choose, tested, none_not}
use Rattle.filter_text.proofs.IntLaws.{int_again, int_spelled}
use Rattle.std.proofs.lemmas.Bool.{and_parts}

-- nothing, or a byte that ends a word
abbrev pub IsStopped : List ℕ → Type 0
IsStopped [] = Unit {0}
IsStopped (b ∷ rest) = is_stop b ≡ true

abbrev pub is_word : List ℕ → Bool
is_word w = list_all (λ b. not (is_stop b)) w

pub word_again : (read w tail : List ℕ) → is_word w ≡ true → IsStopped tail → word_at read (w ++ tail) ≡ (read ++ w, tail)
unfolding word_at
word_again read [] [] e s = ap (λ (x : List ℕ). (x, [])) (sym (append-nil read))
word_again read [] (b ∷ tail) e s = rw s (ap (λ (x : List ℕ). (x, b ∷ tail)) (sym (append-nil read)))
word_again read (b ∷ w) tail e s = go (is_stop b) refl e (λ f. word_again (read ++ b ∷ []) w tail f s)
  where
    go : (p : Bool) → is_stop b ≡ p → (not p && is_word w) ≡ true → (is_word w ≡ true → word_at (read ++ b ∷ []) (w ++ tail) ≡ ((read ++ b ∷ []) ++ w, tail)) → cond (is_stop b) (read, b ∷ (w ++ tail)) (word_at (read ++ b ∷ []) (w ++ tail)) ≡ (read ++ b ∷ w, tail)
    go true p e k = absurd cc
    go false p e k = rw p (k e ∙ ap (λ (x : List ℕ). (x, tail)) (append_assoc read (b ∷ []) w))

word_back : (read bytes : List ℕ) → read ++ bytes ≡ (word_at read bytes).0 ++ (word_at read bytes).1
unfolding word_at
word_back read [] = refl
word_back read (b ∷ rest) = go (is_stop b) (word_back (read ++ b ∷ []) rest)
  where
    go : (p : Bool) → (read ++ b ∷ []) ++ rest ≡ (word_at (read ++ b ∷ []) rest).0 ++ (word_at (read ++ b ∷ []) rest).1 → read ++ b ∷ rest ≡ (cond p (read, b ∷ rest) (word_at (read ++ b ∷ []) rest)).0 ++ (cond p (read, b ∷ rest) (word_at (read ++ b ∷ []) rest)).1
    go true k = refl
    go false k = sym (append_assoc read (b ∷ []) rest) ∙ k

-- the word in front, and what follows it, are the bytes
pub word_spelled : (bytes w rest : List ℕ) → (word_at [] bytes).0 ≡ w → (word_at [] bytes).1 ≡ rest → bytes ≡ w ++ rest
word_spelled bytes w rest e f = word_back [] bytes ∙ rw (e, f) refl

pub space_spelled : (bytes rest : List ℕ) (u : Unit {0}) → space_at bytes ≡ Some (u, rest) → bytes ≡ 32 ∷ rest
space_spelled [] rest u e = none_not (u, rest) e
space_spelled (b ∷ more) rest u e =
    let w = tested (b == 32) (tt, more) (u, rest) e in
    let one : b ≡ 32 = let p : (b == 32) ≡ true = w.0 in grind (arith, nat_tests) in
    let two : more ≡ rest = (pair_in tt more u rest (ap Some w.1)).1 in
    cc

fit_word : (w : List ℕ) → are_name_bytes w ≡ true → is_word w ≡ true
fit_word [] e = refl
fit_word (b ∷ w) e =
    let h = and_parts (is_letter b || is_other_name_byte b) (are_name_bytes w) e in
    let f : (is_letter b || is_other_name_byte b) ≡ true = h.0 in
    let g : not (is_stop b) ≡ true = grind (arith, nat_tests) in
    rw (g, fit_word w h.1) refl

name_word : (w : List ℕ) → is_name w ≡ true → is_word w ≡ true
unfolding is_name
name_word [] e = absurd cc
name_word (b ∷ w) e =
    let h = and_parts (is_letter b) (are_name_bytes w && nat_lt (length w) 64) e in
    let f : is_letter b ≡ true = h.0 in
    let g : not (is_stop b) ≡ true = grind (arith, nat_tests) in
    rw (g, fit_word w (and_parts (are_name_bytes w) (nat_lt (length w) 64) h.1).0) refl

pub name_again : (name tail : List ℕ) → IsName name → IsStopped tail → name_at (name ++ tail) ≡ Some (name, tail)
unfolding name_at
name_again name tail is s = rw (word_again [] name tail (name_word name (name_tested name is)) s, name_tested name is) refl

pub name_spelled : (bytes name rest : List ℕ) → name_at bytes ≡ Some (name, rest) → IsName name × (bytes ≡ name ++ rest)
unfolding name_at
name_spelled bytes name rest e =
    let w = tested (is_name (word_at [] bytes).0) (word_at [] bytes) (name, rest) e in
    let p : (word_at [] bytes).0 ≡ name = ap (λ (z : List ℕ × List ℕ). z.0) w.1 in
    (tested_name name (sym (ap is_name p) ∙ w.0), word_spelled bytes name rest p (ap (λ (z : List ℕ × List ℕ). z.1) w.1))

pub kind_again : (k : Kind) (tail : List ℕ) → IsStopped tail → kind_at (kind_word k ++ tail) ≡ Some (k, tail)
unfolding kind_at
kind_again kinds.Bool tail s = rw (word_again [] (kind_word kinds.Bool) tail refl s) refl
kind_again kinds.Int tail s = rw (word_again [] (kind_word kinds.Int) tail refl s) refl
kind_again kinds.Str tail s = rw (word_again [] (kind_word kinds.Str) tail refl s) refl
kind_again kinds.Time tail s = rw (word_again [] (kind_word kinds.Time) tail refl s) refl

kind_is : (w : List ℕ) (k : Kind) → kind_named w ≡ Some k → w ≡ kind_word k
kind_is w k e = elim (choose (bytes_eq w (codes "bool")) _ _ _ e) [
  | inl a ↦ bytes_eq-tells w (codes "bool") a.0 ∙ ap kind_word (same_Some kinds.Bool k a.1)
  | inr b ↦ elim (choose (bytes_eq w (codes "int")) _ _ _ b.1) [
    | inl a ↦ bytes_eq-tells w (codes "int") a.0 ∙ ap kind_word (same_Some kinds.Int k a.1)
    | inr c ↦ elim (choose (bytes_eq w (codes "str")) _ _ _ c.1) [
      | inl a ↦ bytes_eq-tells w (codes "str") a.0 ∙ ap kind_word (same_Some kinds.Str k a.1)
      | inr d ↦ elim (choose (bytes_eq w (codes "time")) _ _ _ d.1) [
        | inl a ↦ bytes_eq-tells w (codes "time") a.0 ∙ ap kind_word (same_Some kinds.Time k a.1)
        | inr f ↦ none_not k f.1
      ]
    ]
  ]
]

pub kind_spelled : (bytes : List ℕ) (k : Kind) (rest : List ℕ) → kind_at bytes ≡ Some (k, rest) → bytes ≡ kind_word k ++ rest
unfolding kind_at
kind_spelled bytes k rest e =
    let w = bind_some (kind_named (word_at [] bytes).0) (λ k. Some (k, (word_at [] bytes).1)) (k, rest) e in
    let p = pair_in w.0 (word_at [] bytes).1 k rest w.2 in
    word_spelled bytes (kind_word k) rest (kind_is (word_at [] bytes).0 w.0 w.1 ∙ ap kind_word p.0) p.1

pub head_again : (name : List ℕ) (k : Kind) (tail : List ℕ) → IsName name → IsStopped tail → head_at (name ++ 32 ∷ (kind_word k ++ tail)) ≡ Some ((name, k), tail)
unfolding head_at
head_again name k tail is s = rw (name_again name (32 ∷ (kind_word k ++ tail)) is refl, kind_again k tail s) refl

headed : (bytes m a b c : List ℕ) (d : Kind) (name : List ℕ) (k : Kind) (rest : List ℕ) → bytes ≡ m ++ a → a ≡ 32 ∷ b → b ≡ kind_word d ++ c → m ≡ name → d ≡ k → c ≡ rest → bytes ≡ name ++ 32 ∷ (kind_word k ++ rest)
headed bytes m a b c d name k rest one two three same_name same_kind left = one ∙ rw (two, three, same_name, same_kind, left) refl

pub head_spelled : (bytes name : List ℕ) (k : Kind) (rest : List ℕ) → head_at bytes ≡ Some ((name, k), rest) → IsName name × (bytes ≡ name ++ 32 ∷ (kind_word k ++ rest))
unfolding head_at
head_spelled bytes name k rest e =
    let n = bind_some (name_at bytes) (λ n. space_at n.1 >>= λ r. kind_at r.1 >>= λ k. Some ((n.0, k.0), k.1)) ((name, k), rest) e in
    let r = bind_some (space_at n.0.1) (λ r. kind_at r.1 >>= λ k. Some ((n.0.0, k.0), k.1)) ((name, k), rest) n.2 in
    let d = bind_some (kind_at r.0.1) (λ k. Some ((n.0.0, k.0), k.1)) ((name, k), rest) r.2 in
    let p = pair_in (n.0.0, d.0.0) d.0.1 (name, k) rest d.2 in
    let same_name : n.0.0 ≡ name = ap (λ (z : List ℕ × Kind). z.0) p.0 in
    let same_kind : d.0.0 ≡ k = ap (λ (z : List ℕ × Kind). z.1) p.0 in
    let one = name_spelled bytes n.0.0 n.0.1 n.1 in
    let two = space_spelled n.0.1 r.0.1 r.0.0 r.1 in
    let three = kind_spelled r.0.1 d.0.0 d.0.1 d.1 in
    (subst IsName same_name one.0, headed bytes n.0.0 n.0.1 r.0.1 d.0.1 d.0.0 name k rest one.1 two three same_name same_kind p.1)

digit_ok : (c : ℕ) → digit_value c < 10 → not (is_stop c) ≡ true
digit_ok c d = go (c == 32) refl (c == 59) refl (c == 125) refl
  where
    eq_of : (a b : ℕ) → (a == b) ≡ true → a ≡ b
    eq_of a b e = grind (arith, nat_tests)

    go : (p : Bool) → (c == 32) ≡ p → (q : Bool) → (c == 59) ≡ q → (r : Bool) → (c == 125) ≡ r → not (is_stop c) ≡ true
    go true p q qe r re = let z : digit_value 32 < 10 = subst (λ (n : ℕ). digit_value n < 10) (eq_of c 32 p) d in absurd (omega (arith, z))
    go false p true qe r re = let z : digit_value 59 < 10 = subst (λ (n : ℕ). digit_value n < 10) (eq_of c 59 qe) d in absurd (omega (arith, z))
    go false p false qe true re = let z : digit_value 125 < 10 = subst (λ (n : ℕ). digit_value n < 10) (eq_of c 125 re) d in absurd (omega (arith, z))
    go false p false qe false re = simp (p, qe, re)

digits_word : (ds : List ℕ) → AllDigits 10 ds → is_word ds ≡ true
digits_word [] h = refl
digits_word (c ∷ ds) h = rw (digit_ok c h.0, digits_word ds h.1) refl

pub int_word : (z : ℤ) → FitsSigned w64 z → is_word (signed_decimal z) ≡ true
int_word (pos n) fits = digits_word (decimal n) (decimal_is_IsNumeral n (search rules)).0.1
int_word (negsuc n) fits = digits_word (decimal (suc n)) (decimal_is_IsNumeral (suc n) (search rules)).0.1

pub time_word : (n : ℕ) → n < 2 ^ 64 → is_word (decimal n) ≡ true
time_word n fits = digits_word (decimal n) (decimal_is_IsNumeral n fits).0.1

pub number_again : (most n : ℕ) (tail : List ℕ) → most < 2 ^ 32 → IsInRange 1 most n → IsStopped tail → number_at most (decimal n ++ tail) ≡ Some (n, tail)
unfolding number_at
number_again most n tail small is s =
    let lo : 0 < n = omega (arith, is.0) in
    let hi : n ≤ most = is.1 in
    let a : nat_lt 0 n ≡ true = grind (arith, nat_tests) in
    let b : nat_le n most ≡ true = grind (arith, nat_tests) in
    let fits : FitsSigned w64 (pos n) = search (rules, arith) in
    rw (word_again [] (decimal n) tail (int_word (pos n) fits) s, int_again (pos n) fits, a, b) refl

within_is : (most : ℕ) (z : ℤ) (n : ℕ) → when_within most z ≡ Some n → IsInRange 1 most n × (z ≡ pos n)
within_is most (pos m) n e =
    let w = tested (nat_lt 0 m && nat_le m most) m n e in
    let h = and_parts (nat_lt 0 m) (nat_le m most) w.0 in
    let a : nat_lt 0 m ≡ true = h.0 in
    let b : nat_le m most ≡ true = h.1 in
    let lo : 1 ≤ m = grind (arith, nat_tests) in
    let hi : m ≤ most = grind (arith, nat_tests) in
    (subst (IsInRange 1 most) w.1 (lo, hi), ap pos w.1)
within_is most (negsuc m) n e = none_not n e

pub number_spelled : (most : ℕ) (bytes : List ℕ) (n : ℕ) (rest : List ℕ) → number_at most bytes ≡ Some (n, rest) → IsInRange 1 most n × (bytes ≡ decimal n ++ rest)
unfolding number_at
number_spelled most bytes n rest e =
    let z = bind_some (int_of (word_at [] bytes).0) (λ z. when_within most z >>= λ n. Some (n, (word_at [] bytes).1)) (n, rest) e in
    let m = bind_some (when_within most z.0) (λ n. Some (n, (word_at [] bytes).1)) (n, rest) z.2 in
    let p = pair_in m.0 (word_at [] bytes).1 n rest m.2 in
    let is = within_is most z.0 m.0 m.1 in
    let spelled = int_spelled (word_at [] bytes).0 z.0 z.1 in
    (subst (IsInRange 1 most) p.0 is.0, word_spelled bytes (decimal n) rest (spelled.1 ∙ ap signed_decimal (is.1 ∙ ap pos p.0)) p.1)
