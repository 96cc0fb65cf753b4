-- An input is cut in one way, as far as its lines go.
use Rattle.std.proofs.Common.{◌≡◌, ◌⊎◌, inl, inr, ℕ, ◌≤◌, Bool, true, false, ◌&&◌, List, [], ◌∷◌, ◌++◌, length, refl, sym, ap, ◌∙◌, arith, length-append, append_assoc}
use Rattle.std.specs.Prelude.{nat_eq, nat_lt, if◌then◌else◌}
use Rattle.std.specs.Str.{bytes_eq}
use Rattle.std.proofs.lemmas.Grind.{common_steps}
use Rattle.document_reader.specs.Lines.{at_newline, before_first, lines}
use Rattle.document_reader.specs.Places.{document_of}
use Rattle.document_reader.specs.Cut.{IsCutAt, IsNoLine}
use Rattle.base.proofs.Lists.{bytes_eq-self, append-cancel}
use Rattle.std.proofs.lemmas.List.{append-nil}

not_itself : (x word : List ℕ) → x ≡ word → bytes_eq x word ≡ false → ⊥
not_itself x word e f = clash (bytes_eq x word) (ap (λ z. bytes_eq z word) e ∙ bytes_eq-self word) f
  where
    clash : (b : Bool) → b ≡ true → b ≡ false → ⊥
    clash b p q = cc

-- before the first such line there is one list
pub one_cut : (word : List ℕ) (xs xs' ys ys' : List (List ℕ)) → IsNoLine word xs → IsNoLine word xs' → xs ++ word ∷ ys ≡ xs' ++ word ∷ ys' → (xs ≡ xs') × (ys ≡ ys')
one_cut word [] [] ys ys' h k e = (refl, cc)
one_cut word [] (x ∷ xs') ys ys' h k e = let f : x ≡ word = cc in absurd (not_itself x word f k.0)
one_cut word (x ∷ xs) [] ys ys' h k e = let f : x ≡ word = cc in absurd (not_itself x word f h.0)
one_cut word (x ∷ xs) (x' ∷ xs') ys ys' h k e =
    let f : x ≡ x' = cc in
    let g : xs ++ word ∷ ys ≡ xs' ++ word ∷ ys' = cc in
    let t = one_cut word xs xs' ys ys' h.1 k.1 g in
    (ap (λ z. z ∷ xs) f ∙ ap (λ z. x' ∷ z) t.0, t.1)

pub no_such : (word : List ℕ) (xs ys : List (List ℕ)) → IsNoLine word (xs ++ word ∷ ys) → ⊥
no_such word [] ys h = not_itself word word refl h.0
no_such word (x ∷ xs) ys h = no_such word xs ys h.1

-- what stands before is no longer than the whole
pub before_short : (word bytes before after : List ℕ) → IsCutAt word bytes before after → length before ≤ length bytes
before_short word bytes before after c =
    omega (arith, length-append before c.own, length-append (before ++ c.own) after, ap length c.parts)

short : (n : ℕ) → n ≤ 4194304 → nat_lt 4194304 n ≡ false
short n le = grind (arith, common_steps)

pub same_document : (d d' : List ℕ) → length d ≤ 4194304 → length d' ≤ 4194304 → lines d ≡ lines d' → document_of d ≡ document_of d'
unfolding document_of
same_document d d' h k e = rw (short (length d) h, short (length d') k, e) refl

-- The bytes of a cut.

-- of two beginnings of a list one begins the other
pub one_begins : (xs ys us vs : List ℕ) → xs ++ us ≡ ys ++ vs
    → ((s : List ℕ) × (ys ≡ xs ++ s) × (us ≡ s ++ vs)) ⊎ ((s : List ℕ) × (xs ≡ ys ++ s) × (vs ≡ s ++ us))
one_begins [] ys us vs e = inl (ys, refl, e)
one_begins (x ∷ xs) [] us vs e = inr (x ∷ xs, refl, sym e)
one_begins (x ∷ xs) (y ∷ ys) us vs e =
    let same : x ≡ y = cc in
    let rest : xs ++ us ≡ ys ++ vs = cc in
    go same (one_begins xs ys us vs rest)
  where
    go : x ≡ y → ((s : List ℕ) × (ys ≡ xs ++ s) × (us ≡ s ++ vs)) ⊎ ((s : List ℕ) × (xs ≡ ys ++ s) × (vs ≡ s ++ us))
        → ((s : List ℕ) × (y ∷ ys ≡ x ∷ xs ++ s) × (us ≡ s ++ vs)) ⊎ ((s : List ℕ) × (x ∷ xs ≡ y ∷ ys ++ s) × (vs ≡ s ++ us))
    go same (inl (s, f, g)) = inl (s, (λ i. (sym same) i ∷ f i), g)
    go same (inr (s, f, g)) = inr (s, (λ i. same i ∷ f i), g)

some_line : (b : ℕ) (bs : List ℕ) → lines (b ∷ bs) ≡ [] → ⊥
unfolding lines
some_line b bs = go (nat_eq b 10) (nat_eq b 13) bs (some_next bs)
  where
    some_next : (cs : List ℕ) → at_newline cs ≡ true → lines cs ≡ [] → ⊥
    some_next [] n e = cc
    some_next (c ∷ cs) n e = some_here (nat_eq c 10) n e
      where
        some_here : (t : Bool) → t ≡ true → (if t then [] ∷ lines cs else if nat_eq c 13 && at_newline cs then lines cs else before_first c (lines cs)) ≡ [] → ⊥
        some_here true n e = cc
        some_here false n e = cc

    first : (ls : List (List ℕ)) → before_first b ls ≡ [] → ⊥
    first [] e = cc
    first (l ∷ ls) e = cc

    go : (t u : Bool) (cs : List ℕ) → (at_newline cs ≡ true → lines cs ≡ [] → ⊥)
        → (if t then [] ∷ lines cs else if u && at_newline cs then lines cs else before_first b (lines cs)) ≡ [] → ⊥
    go true u cs h e = cc
    go false false cs h e = first (lines cs) e
    go false true cs h e = by (at_newline cs) h e
      where
        by : (v : Bool) → (v ≡ true → lines cs ≡ [] → ⊥) → (if v then lines cs else before_first b (lines cs)) ≡ [] → ⊥
        by true h e = h refl e
        by false h e = first (lines cs) e

no_bytes : (bs : List ℕ) → lines bs ≡ [] → bs ≡ []
no_bytes [] e = refl
no_bytes (b ∷ bs) e = absurd (some_line b bs e)

nothing_behind : (xs ys : List (List ℕ)) → xs ≡ xs ++ ys → ys ≡ []
nothing_behind [] ys e = sym e
nothing_behind (x ∷ xs) ys e = let rest : xs ≡ xs ++ ys = cc in nothing_behind xs ys rest

-- an input is cut at a word in one way
module _ (word bytes b b' a a' : List ℕ) (c : IsCutAt word bytes b a) (c' : IsCutAt word bytes b' a') where
  same_lines : lines b ≡ lines b'
  same_lines = (one_cut word (lines b) (lines b') (lines a) (lines a') c.first c'.first (sym c.cut ∙ c'.cut)).0

  no_longer : (s : List ℕ) → b' ≡ b ++ s → b ≡ b'
  no_longer s e =
      let none : s ≡ [] = no_bytes s (nothing_behind (lines b) (lines s) (same_lines ∙ ap lines e ∙ c.whole s)) in
      sym (append-nil b) ∙ ap (λ l. b ++ l) (sym none) ∙ sym e

module _ (word bytes b b' a a' : List ℕ) (c : IsCutAt word bytes b a) (c' : IsCutAt word bytes b' a') where
  pub one_before : b ≡ b'
  one_before = go (one_begins b b' (c.own ++ a) (c'.own ++ a') (sym (append_assoc b c.own a) ∙ sym c.parts ∙ c'.parts ∙ append_assoc b' c'.own a'))
    where
      go : ((s : List ℕ) × (b' ≡ b ++ s) × (c.own ++ a ≡ s ++ (c'.own ++ a'))) ⊎ ((s : List ℕ) × (b ≡ b' ++ s) × (c'.own ++ a' ≡ s ++ (c.own ++ a))) → b ≡ b'
      go (inl (s, e, f)) = no_longer word bytes b b' a a' c c' s e
      go (inr (s, e, f)) = sym (no_longer word bytes b' b a' a c' c s e)

second_none : (xs ys : List ℕ) → [] ≡ xs ++ ys → ys ≡ []
second_none [] ys e = sym e
second_none (x ∷ xs) ys e = cc

module _ (word bytes b b' a a' : List ℕ) (c : IsCutAt word bytes b a) (c' : IsCutAt word bytes b' a') where
  same_after : (s : List ℕ) → c'.own ≡ c.own ++ s → a ≡ s ++ a' → a ≡ a'
  same_after s e f = go c.ends
    where
      go : (a ≡ []) ⊎ ((more : List ℕ) → lines (c.own ++ more) ≡ word ∷ lines more) → a ≡ a'
      go (inl z) = z ∙ sym (second_none s a' (sym z ∙ f))
      go (inr h) =
          let more : word ∷ lines s ≡ word ∷ [] = sym (h s) ∙ ap lines (sym e) ∙ c'.alone in
          let none_lines : lines s ≡ [] = cc in
          f ∙ ap (λ l. l ++ a') (no_bytes s none_lines)

module _ (word bytes b b' a a' : List ℕ) (c : IsCutAt word bytes b a) (c' : IsCutAt word bytes b' a') where
  pub one_after : a ≡ a'
  one_after = go (one_begins c.own c'.own a a' (append-cancel b (c.own ++ a) (c'.own ++ a')
      (sym (append_assoc b c.own a) ∙ sym c.parts ∙ c'.parts ∙ append_assoc b' c'.own a' ∙ ap (λ l. l ++ (c'.own ++ a')) (sym (one_before word bytes b b' a a' c c')))))
    where
      go : ((s : List ℕ) × (c'.own ≡ c.own ++ s) × (a ≡ s ++ a')) ⊎ ((s : List ℕ) × (c.own ≡ c'.own ++ s) × (a' ≡ s ++ a)) → a ≡ a'
      go (inl (s, e, f)) = same_after word bytes b b' a a' c c' s e f
      go (inr (s, e, f)) = sym (same_after word bytes b' b a' a c' c s e f)
