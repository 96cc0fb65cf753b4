-- Joined members of a canonical text, as the parts of a command; lists that are canonical already.
use Rattle.std.proofs.Common.{◌≡◌, ℕ, zero, suc, ◌+◌, ◌<◌, ◌≤◌, Bool, true, false, refl, ap, subst, ◌∙◌, arith, List, [], ◌∷◌, ◌++◌, length, map, append_assoc}
use Rattle.std.specs.Prelude.{Some, None}
use Rattle.std.specs.declared.option.Option.{Option}
use Rattle.std.specs.declared.cmp.Ordering.TheVariants.{Less}
use Rattle.std.specs.Ordering.{nat_cmp}
use Rattle.std.specs.Cmp.Lexicographic.{slice_cmp, nat_list_cmp_total}
use Rattle.std.specs.Str.{bytes_eq}
use Rattle.std.proofs.lemmas.Cmp.{tied_itself}
use Rattle.filter_constraints.proofs.BytesLemmas.{bytes_eq-tells}
use Rattle.filter_constraints.specs.Constraint.{ConstraintParts}
use Rattle.filter_types.specs.Canonical.{canonical, AreInCanonicalOrder}
use Rattle.filter_types.specs.Notice.{Attribute, AreRising, has_name, twice_from, first_twice}
use Rattle.filter_types.proofs.CanonicalLaws.{rises, unique-contains, canonical_contains, contains_canonical}
use Rattle.filter_text.specs.NoticeText.{later, joined}
use Rattle.filter_text.specs.MessageText.{Each}
use Rattle.document_script.specs.Tokens.{Token, tokens}
use Rattle.document_script.specs.Form.{parts_in}
use Rattle.document_script.proofs.TokenLaws.{nothing_left}
use Rattle.document_format.proofs.Cuts.{IsEnded, space_cut, semicolon_cut}
use Rattle.document_script.proofs.UniqueLaws.{rest_rising}

-- how a member is cut and read
pub record IsItem {A B : Type 0} (P : A → Type 0) (text : A → List ℕ) (toks : A → List Token) (view : A → B) (one : List Token → Option (B × List Token)) : Type 0 where
  pub cut : (x : A) (tail : List ℕ) → P x → IsEnded tail → tokens (text x ++ tail) ≡ toks x ++ tokens tail
  pub again : (x : A) (ts : List Token) → P x → one (toks x ++ ts) ≡ Some (view x, ts)

pub parts_again : {A B : Type 0} (P : A → Type 0) (text : A → List ℕ) (toks : A → List Token) (view : A → B) (one : List Token → Option (B × List Token)) → IsItem P text toks view one
    → (n : ℕ) (read : List B) (x : A) (xs : List A) → Each P (x ∷ xs) → length xs < n → parts_in one n read (tokens (joined text (x ∷ xs))) ≡ Some (read ++ map view (x ∷ xs))
unfolding parts_in
parts_again P text toks view one is zero read x xs each lt = absurd (omega arith)
parts_again P text toks view one is (suc n) read x [] each lt =
    let e : tokens (text x ++ []) ≡ toks x ++ [] = is.cut x [] each.0 tt ∙ ap (λ ts. toks x ++ ts) (nothing_left [] refl) in
    ap (parts_in one (suc n) read) e ∙ rw (is.again x [] each.0) refl
parts_again {B = B} P text toks view one is (suc n) read x (y ∷ ys) each lt =
    let e : tokens (joined text (x ∷ y ∷ ys)) ≡ toks x ++ tokens (59 ∷ 32 ∷ joined text (y ∷ ys)) = is.cut x (59 ∷ 32 ∷ joined text (y ∷ ys)) each.0 refl in
    let f : tokens (59 ∷ 32 ∷ joined text (y ∷ ys)) ≡ Token.semicolon ∷ tokens (joined text (y ∷ ys)) = semicolon_cut (32 ∷ joined text (y ∷ ys)) ∙ ap (λ ts. Token.semicolon ∷ ts) (space_cut (joined text (y ∷ ys))) in
    ap (parts_in one (suc n) read) (e ∙ ap (λ ts. toks x ++ ts) f)
    ∙ rw (is.again x (Token.semicolon ∷ tokens (joined text (y ∷ ys))) each.0) (parts_again P text toks view one is n (read ++ view x ∷ []) y ys each.1 (omega arith) ∙ ap (λ (z : List B). Some z) (append_assoc read (view x ∷ []) (map view (y ∷ ys))))

length-append : (xs ys : List ℕ) → length (xs ++ ys) ≡ length xs + length ys
length-append [] ys = omega arith
length-append (x ∷ xs) ys = omega (arith, length-append xs ys)

later_long : {A : Type 0} (text : A → List ℕ) (xs : List A) → length xs ≤ length (later text xs)
later_long text [] = omega arith
later_long text (x ∷ xs) =
    let e = length-append (text x) (later text xs) in
    let k = later_long text xs in
    let f : length (later text (x ∷ xs)) ≡ suc (suc (length (text x ++ later text xs))) = ap length (append_assoc (59 ∷ 32 ∷ []) (text x) (later text xs)) in
    omega (arith, e, f, k)

-- each of the members has a byte before it at least
pub joined_long : {A : Type 0} (text : A → List ℕ) (x : A) (xs : List A) → length xs ≤ length (joined text (x ∷ xs))
joined_long text x xs = omega (arith, length-append (text x) (later text xs), later_long text xs)

-- Canonical lists.

pub canonical_same : (f : List ConstraintParts) → AreInCanonicalOrder f → canonical f ≡ f
canonical_same f r = unique-contains (canonical f) f (rises f) r (λ x. (canonical_contains x f, contains_canonical x f))

-- Rising names.

abbrev below_all : Attribute → List Attribute → Type 0
below_all a [] = Unit {0}
below_all a (b ∷ n) = (slice_cmp nat_cmp a.0 b.0 ≡ Less) × below_all a n

above : (a : Attribute) (n : List Attribute) → AreRising (a ∷ n) → below_all a n
above a [] r = tt
above a (b ∷ n) r = (r.0, more n (above b n r.1))
  where
    more : (m : List Attribute) → below_all b m → below_all a m
    more [] h = tt
    more (c ∷ m) h = (nat_list_cmp_total.trans a.0 b.0 c.0 r.0 h.0, more m h.1)

-- each of those seen is below each of the others
abbrev all_below : List Attribute → List Attribute → Type 0
all_below [] n = Unit {0}
all_below (s ∷ seen) n = below_all s n × all_below seen n

not_same : (s a : Attribute) → slice_cmp nat_cmp s.0 a.0 ≡ Less → bytes_eq s.0 a.0 ≡ false
not_same s a h = go (bytes_eq s.0 a.0) refl
  where
    go : (p : Bool) → bytes_eq s.0 a.0 ≡ p → bytes_eq s.0 a.0 ≡ false
    go false e = e
    go true e =
        let same : s.0 ≡ a.0 = bytes_eq-tells s.0 a.0 e in
        let l : slice_cmp nat_cmp a.0 a.0 ≡ Less = subst (λ (x : List ℕ). slice_cmp nat_cmp x a.0 ≡ Less) same h in
        let t = tied_itself nat_list_cmp_total a.0 in absurd cc

no_name : (seen : List Attribute) (a : Attribute) (n : List Attribute) → all_below seen (a ∷ n) → has_name seen a.0 ≡ false
no_name [] a n h = refl
no_name (s ∷ seen) a n h = rw (not_same s a h.0.0, no_name seen a n h.1) refl

tail_below : (seen : List Attribute) (a : Attribute) (n : List Attribute) → all_below seen (a ∷ n) → below_all a n → all_below (seen ++ a ∷ []) n
tail_below [] a n h k = (k, tt)
tail_below (s ∷ seen) a n h k = (h.0.1, tail_below seen a n h.1 k)

none_from : (seen : List Attribute) (i : ℕ) (n : List Attribute) → all_below seen n → AreRising n → twice_from seen i n ≡ None
none_from seen i [] h r = refl
none_from seen i (a ∷ n) h r = rw (no_name seen a n h) (none_from (seen ++ a ∷ []) (i + 1) n (tail_below seen a n h (above a n r)) (rest_rising a n r))

pub rising_once : (n : List Attribute) → AreRising n → first_twice n ≡ None
unfolding first_twice
rising_once n r = none_from [] 0 n tt r
