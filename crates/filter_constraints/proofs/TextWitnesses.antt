-- Builds texts that one normal form allows and another doesn't, for the proof that covering is complete.
use Rattle.std.proofs.Common.{◌≡◌, ℕ, zero, suc, ◌+◌, ◌<◌, ◌≤◌, Bool, true, false, ◌||◌, refl, sym, ap, ◌∙◌, arith, List, [], ◌∷◌, ◌++◌, length, length-append, append-nil}
use Rattle.std.specs.Str.{IsAscii}
use Rattle.std.proofs.lemmas.Str.{IsUtf8-append, IsUtf8-from_is_utf8, is_utf8-from_IsUtf8, IsUtf8-nil, IsUtf8-from_ascii}
use Rattle.std.proofs.lemmas.List.Folds.{list_all-append}
use Rattle.filter_values.specs.Text.{IsText, is_open_byte}
use Rattle.filter_constraints.specs.Bytes.{has_prefix, has_suffix, has_part}
use Rattle.filter_constraints.specs.Texts.{Texts, text_allows, text_covers, IsTextForm, IsUnordered, IsShortPattern, IsWider}
use Rattle.filter_constraints.specs.Texts.Texts.{all, equal, unequal, prefix, suffix, contains}
use Rattle.filter_constraints.proofs.BytesLemmas.{HasSuffix, HasPart, has_prefix-tells, has_prefix-told, has_suffix-tells, has_suffix-told, has_part-tells, has_part-told, has_prefix-self, has_suffix-self, has_part-self, two_ends, bytes_eq-tells, bytes_eq-told}
use Rattle.base.proofs.Lists.{bytes_eq-self}

pub IsText-append : (a b : List ℕ) → IsText a → IsText b → length a + length b ≤ 1024 → IsText (a ++ b)
IsText-append a b p q h = record {
  short = simp length-append h;
  utf8 = is_utf8-from_IsUtf8 (a ++ b) (IsUtf8-append a b (IsUtf8-from_is_utf8 a p.utf8) (IsUtf8-from_is_utf8 b q.utf8));
  open_bytes = list_all-append is_open_byte a b ∙ (rw (p.open_bytes, q.open_bytes) refl);
}

pub IsText-nil : IsText []
IsText-nil = record { short = omega arith; utf8 = is_utf8-from_IsUtf8 [] IsUtf8-nil; open_bytes = refl }

small : (d : ℕ) → d < 128 → IsAscii (d ∷ [])
small d h zero = h
small d h (suc i) = omega arith

pub IsText-letter : (d : ℕ) → d < 128 → is_open_byte d ≡ true → IsText (d ∷ [])
IsText-letter d h o = record { short = omega arith; utf8 = is_utf8-from_IsUtf8 (d ∷ []) (IsUtf8-from_ascii (d ∷ []) (small d h)); open_bytes = rw o refl }

pub IsText-a : IsText (97 ∷ [])
IsText-a = IsText-letter 97 (omega arith) refl

pub IsText-b : IsText (98 ∷ [])
IsText-b = IsText-letter 98 (omega arith) refl

-- no list but the empty one begins two lists that differ at the front
no_front : (c : ℕ) (u v : List ℕ) → has_prefix (97 ∷ v) (c ∷ u) ≡ true → has_prefix (98 ∷ v) (c ∷ u) ≡ true → ⊥
no_front c u v p q =
    let a = has_prefix-tells (97 ∷ v) (c ∷ u) p in let b = has_prefix-tells (98 ∷ v) (c ∷ u) q in
    let e = a.1 in let f = b.1 in
    let x : 97 ≡ c = cc in let y : 98 ≡ c = cc in absurd (omega arith)

last_alone : (d c : ℕ) (u : List ℕ) → has_suffix (d ∷ []) (c ∷ u) ≡ true → c ∷ u ≡ d ∷ []
last_alone d c u h = go (has_suffix-tells (d ∷ []) (c ∷ u) h)
  where
    go : HasSuffix (d ∷ []) (c ∷ u) → c ∷ u ≡ d ∷ []
    go ([], e) = sym e
    go (x ∷ [], e) = cc
    go (x ∷ y ∷ ys, e) = cc

ends_so : (d c : ℕ) (u v : List ℕ) → has_suffix (v ++ (d ∷ [])) (c ∷ u) ≡ true → has_suffix (c ∷ u) (d ∷ []) ≡ true
ends_so d c u v p =
    let t = two_ends (v ++ (d ∷ [])) (c ∷ u) (d ∷ []) p (has_suffix-told (v ++ (d ∷ [])) (d ∷ []) v refl) in
    by (has_suffix (c ∷ u) (d ∷ [])) (has_suffix (d ∷ []) (c ∷ u)) t (λ h. has_suffix-told (c ∷ u) (d ∷ []) [] (last_alone d c u h))
  where
    by : (a b : Bool) → (a || b) ≡ true → (b ≡ true → a ≡ true) → a ≡ true
    by true b h k = refl
    by false b h k = k h

apart_letters : (has_suffix (97 ∷ []) (98 ∷ []) || has_suffix (98 ∷ []) (97 ∷ [])) ≡ true → ⊥
unfolding has_suffix
apart_letters h = cc

no_end : (c : ℕ) (u v : List ℕ) → has_suffix (v ++ (97 ∷ [])) (c ∷ u) ≡ true → has_suffix (v ++ (98 ∷ [])) (c ∷ u) ≡ true → ⊥
no_end c u v p q = apart_letters (two_ends (c ∷ u) (97 ∷ []) (98 ∷ []) (ends_so 97 c u v p) (ends_so 98 c u v q))

not_in_nil : (c : ℕ) (u : List ℕ) → has_part [] (c ∷ u) ≡ true → ⊥
not_in_nil c u h = go (has_part-tells [] (c ∷ u) h)
  where
    go : HasPart [] (c ∷ u) → ⊥
    go ([], r, e) = cc
    go (x ∷ xs, r, e) = cc

has_prefix-has_part : (x u : List ℕ) → has_prefix x u ≡ true → has_part x u ≡ true
has_prefix-has_part x u h = let a = has_prefix-tells x u h in has_part-told x u [] a.0 a.1

has_suffix-has_part : (x u : List ℕ) → has_suffix x u ≡ true → has_part x u ≡ true
has_suffix-has_part x u h = let a = has_suffix-tells x u h in has_part-told x u a.0 [] (a.1 ∙ ap (λ y. a.0 ++ y) (sym (append-nil u)))

-- the eight texts that tell
pub record Told (k m : Texts) (v : List ℕ) : Type 0 where
  pub at_nil : text_allows m [] ≡ true → text_allows k [] ≡ true
  pub at_a : text_allows m (97 ∷ []) ≡ true → text_allows k (97 ∷ []) ≡ true
  pub at_b : text_allows m (98 ∷ []) ≡ true → text_allows k (98 ∷ []) ≡ true
  pub itself : text_allows m v ≡ true → text_allows k v ≡ true
  pub a_before : text_allows m (97 ∷ v) ≡ true → text_allows k (97 ∷ v) ≡ true
  pub b_before : text_allows m (98 ∷ v) ≡ true → text_allows k (98 ∷ v) ≡ true
  pub a_after : text_allows m (v ++ (97 ∷ [])) ≡ true → text_allows k (v ++ (97 ∷ [])) ≡ true
  pub b_after : text_allows m (v ++ (98 ∷ [])) ≡ true → text_allows k (v ++ (98 ∷ [])) ≡ true

pub told : (k m : Texts) (v : List ℕ) → IsText v → length v ≤ 1023 → IsWider k m → Told k m v
told k m v t l h = record {
  at_nil = h [] IsText-nil;
  at_a = h (97 ∷ []) IsText-a;
  at_b = h (98 ∷ []) IsText-b;
  itself = h v t;
  a_before = h (97 ∷ v) (IsText-append (97 ∷ []) v IsText-a t (omega arith));
  b_before = h (98 ∷ v) (IsText-append (98 ∷ []) v IsText-b t (omega arith));
  a_after = h (v ++ (97 ∷ [])) (IsText-append v (97 ∷ []) t IsText-a (omega arith));
  b_after = h (v ++ (98 ∷ [])) (IsText-append v (98 ∷ []) t IsText-b (omega arith));
}

pub covered_one : (k : Texts) (v : List ℕ) → IsText v → IsWider k (equal v) → text_covers k (equal v) ≡ true
covered_one k v t h = let a = h v t (bytes_eq-self v) in grind arith

pub covering_but : (u : List ℕ) (m : Texts) → IsText u → IsWider (unequal u) m → text_covers (unequal u) m ≡ true
covering_but u m t h = let a = h u t in grind (arith, bytes_eq-self, bytes_eq-tells, bytes_eq-told)

-- a form that refuses the empty text, and each of two letters' texts or one of them
nil_begins : (c : ℕ) (u : List ℕ) → has_prefix [] (c ∷ u) ≡ true → ⊥
nil_begins c u h = not_in_nil c u (has_prefix-has_part [] (c ∷ u) h)

nil_finishes : (c : ℕ) (u : List ℕ) → has_suffix [] (c ∷ u) ≡ true → ⊥
nil_finishes c u h = not_in_nil c u (has_suffix-has_part [] (c ∷ u) h)

holds_one : (d c : ℕ) (u : List ℕ) → has_part (d ∷ []) (c ∷ u) ≡ true → has_prefix (d ∷ []) (c ∷ u) ≡ true
holds_one d c u h = go (has_part-tells (d ∷ []) (c ∷ u) h)
  where
    go : HasPart (d ∷ []) (c ∷ u) → has_prefix (d ∷ []) (c ∷ u) ≡ true
    go ([], r, e) = has_prefix-told (d ∷ []) (c ∷ u) r e
    go (x ∷ [], r, e) = cc
    go (x ∷ y ∷ ys, r, e) = cc

has_suffix-after : (d : ℕ) (v : List ℕ) → has_suffix (d ∷ v) v ≡ true
has_suffix-after d v = has_suffix-told (d ∷ v) v (d ∷ []) refl

has_prefix-before : (d : ℕ) (v : List ℕ) → has_prefix (v ++ (d ∷ [])) v ≡ true
has_prefix-before d v = has_prefix-told (v ++ (d ∷ [])) v (d ∷ []) refl

-- the operand of a pattern, or the empty text
abbrev pub mark : Texts → List ℕ
mark (prefix v) = v
mark (suffix v) = v
mark (contains v) = v
mark m = []

pub among_patterns : (k m : Texts) → IsTextForm k → IsUnordered k → IsUnordered m → Told k m (mark m) → IsWider k m → text_covers k m ≡ true
among_patterns all m i p q t h = refl
among_patterns (prefix (c ∷ u)) all i p q t h = absurd (nil_begins c u (t.at_nil refl))
among_patterns (prefix (c ∷ u)) (unequal []) i p q t h = absurd (no_front c u [] (t.at_a refl) (t.at_b refl))
among_patterns (prefix (c ∷ u)) (unequal (d ∷ w)) i p q t h = absurd (nil_begins c u (t.at_nil refl))
among_patterns (prefix (c ∷ u)) (prefix v) i p q t h = t.itself (has_prefix-self v)
among_patterns (prefix (c ∷ u)) (suffix v) i p q t h = absurd (no_front c u v (t.a_before (has_suffix-after 97 v)) (t.b_before (has_suffix-after 98 v)))
among_patterns (prefix (c ∷ u)) (contains v) i p q t h = absurd (no_front c u v (t.a_before (has_suffix-has_part (97 ∷ v) v (has_suffix-after 97 v))) (t.b_before (has_suffix-has_part (98 ∷ v) v (has_suffix-after 98 v))))
among_patterns (suffix (c ∷ u)) all i p q t h = absurd (nil_finishes c u (t.at_nil refl))
among_patterns (suffix (c ∷ u)) (unequal []) i p q t h = absurd (no_end c u [] (t.at_a refl) (t.at_b refl))
among_patterns (suffix (c ∷ u)) (unequal (d ∷ w)) i p q t h = absurd (nil_finishes c u (t.at_nil refl))
among_patterns (suffix (c ∷ u)) (prefix v) i p q t h = absurd (no_end c u v (t.a_after (has_prefix-before 97 v)) (t.b_after (has_prefix-before 98 v)))
among_patterns (suffix (c ∷ u)) (suffix v) i p q t h = t.itself (has_suffix-self v)
among_patterns (suffix (c ∷ u)) (contains v) i p q t h = absurd (no_end c u v (t.a_after (has_prefix-has_part (v ++ (97 ∷ [])) v (has_prefix-before 97 v))) (t.b_after (has_prefix-has_part (v ++ (98 ∷ [])) v (has_prefix-before 98 v))))
among_patterns (contains (c ∷ u)) all i p q t h = absurd (not_in_nil c u (t.at_nil refl))
among_patterns (contains (c ∷ u)) (unequal []) i p q t h = absurd (no_front c u [] (holds_one 97 c u (t.at_a refl)) (holds_one 98 c u (t.at_b refl)))
among_patterns (contains (c ∷ u)) (unequal (d ∷ w)) i p q t h = absurd (not_in_nil c u (t.at_nil refl))
among_patterns (contains (c ∷ u)) (prefix v) i p q t h = t.itself (has_prefix-self v)
among_patterns (contains (c ∷ u)) (suffix v) i p q t h = t.itself (has_suffix-self v)
among_patterns (contains (c ∷ u)) (contains v) i p q t h = t.itself (has_part-self v)
among_patterns (prefix []) m i p q t h = absurd (omega arith)
among_patterns (suffix []) m i p q t h = absurd (omega arith)
among_patterns (contains []) m i p q t h = absurd (omega arith)
among_patterns (unequal u) m i p q t h = covering_but u m i h
among_patterns k m i p q t h = absurd (assumption)

mark-IsText : (m : Texts) → IsTextForm m → IsText (mark m)
mark-IsText (prefix v) j = j.0
mark-IsText (suffix v) j = j.0
mark-IsText (contains v) j = j.0
mark-IsText m j = IsText-nil

mark-short : (m : Texts) → IsShortPattern m → length (mark m) ≤ 1023
mark-short (prefix v) q = q
mark-short (suffix v) q = q
mark-short (contains v) q = q
mark-short m q = omega arith

pub patterns : (k m : Texts) → IsTextForm k → IsTextForm m → IsUnordered k → IsUnordered m → IsShortPattern m → IsWider k m → text_covers k m ≡ true
patterns k m i j p q s h = among_patterns k m i p q (told k m (mark m) (mark-IsText m j) (mark-short m s) h) h
