-- The numbers of words as a list that rises.
use Rattle.std.proofs.Common.{◌≡◌, ◌≢◌, ◌↔◌, ◌⊎◌, inl, inr, ℕ, ◌+◌, ◌-◌, ◌*◌, ◌^◌, ◌<◌, ◌≤◌, ◌==◌, nat_lt, List, [], ◌∷◌, ◌++◌, length, get_or, bit_and, sym, ap, subst, ◌∙◌, arith, w64, eqb-true, eq-eqb}
use Rattle.std.specs.Int.{bit_at, trailing_zeros}
use Rattle.std.proofs.lemmas.Bool.{cases_lt, cases_eq}
use Rattle.std.proofs.lemmas.Nat.{and_le_l}
use Rattle.std.proofs.lemmas.Nat.Bits.{bit_at-zero, bit_at_above, bit_at-trailing_zeros}
use Rattle.base.specs.Sets.{Has, IsRising}
use Rattle.base_bits.specs.Words.{bit, IsInWord, members_of}
use Rattle.base_bits.specs.Rows.{IsKept}
use Rattle.base_bits.proofs.Bits.{bit-at, bit-past}
use Rattle.base_bits.proofs.Passing.{has-push, push-old, push-new, rising-push, passing-is}
use Rattle.base_bits.proofs.Picks.{lowest-gone, others-left}

-- what is left of the word is still to be listed
pub record ListsTo (old : List ℕ) (place word left : ℕ) (list : List ℕ) : Type 0 where
  pub fits : left < 2 ^ 64
  pub less : (p : ℕ) → bit_at left p ≡ 1 → bit_at word p ≡ 1
  pub rising : IsRising nat_lt list
  pub before : (i p : ℕ) → Has i list → bit_at left p ≡ 1 → i < place * 64 + p
  pub sound : (i : ℕ) → Has i list → Has i old ⊎ IsInWord place word i
  pub kept : (i : ℕ) → Has i old → Has i list
  pub whole : (p : ℕ) → bit_at word p ≡ 1 → (bit_at left p ≡ 1) ⊎ Has (place * 64 + p) list

module _ (old : List ℕ) (place word : ℕ) where
  pub lists-first : word < 2 ^ 64 → IsRising nat_lt old → ((i : ℕ) → Has i old → i < place * 64) → ListsTo old place word word old
  lists-first l rising before = record {
    fits = l;
    less = λ p h. h;
    rising = rising;
    before = λ i p h b. let m = before i h in omega (arith, m);
    sound = λ i h. inl h;
    kept = λ i h. h;
    whole = λ p h. inl h;
  }

  module _ (left : ℕ) (list : List ℕ) (is : ListsTo old place word left list) where
    pub lists-more : left ≢ 0 → ListsTo old place word (bit_and left (left - 1)) (list ++ (place * 64 + trailing_zeros w64 left) ∷ [])
    lists-more d = record {
      fits = omega (arith, and_le_l left (left - 1), is.fits);
      less = λ p h. is.less p (still p h).1;
      rising = rising-push number list is.rising (λ i h. is.before i low h z.1);
      before = λ i p h b. (let s = still p b in elim (has-push i number list h) [
        | inl m ↦ is.before i p m s.1
        | inr q ↦ omega (arith, q, higher p s.0 s.1)
      ]);
      sound = λ i h. elim (has-push i number list h) [ inl m ↦ is.sound i m | inr q ↦ inr (low, is.less low z.1, q) ];
      kept = λ i h. push-old i number list (is.kept i h);
      whole = λ p h. elim (is.whole p h) [
        | inl l ↦ elim (cases_eq p low) [
          | inl e ↦ inr (subst (λ j. Has (place * 64 + j) (list ++ number ∷ [])) (sym e) (push-new number list))
          | inr n ↦ inl (others-left left some is.fits p n ∙ l)
        ]
        | inr m ↦ inr (push-old (place * 64 + p) number list m)
      ];
    }
      where
        some : 0 < left
        some = omega arith

        low : ℕ
        low = trailing_zeros w64 left

        number : ℕ
        number = place * 64 + trailing_zeros w64 left

        z : (low < 64) × (bit_at left low ≡ 1) × ((i : ℕ) → i < low → bit_at left i ≡ 0)
        z = bit_at-trailing_zeros w64 left some is.fits

        still : (p : ℕ) → bit_at (bit_and left (left - 1)) p ≡ 1 → (p ≢ low) × (bit_at left p ≡ 1)
        still p h = elim (cases_eq p low) [
          | inl e ↦ absurd (omega (arith, ap (bit_at (bit_and left (left - 1))) e, lowest-gone left some is.fits, h))
          | inr n ↦ (n, sym (others-left left some is.fits p n) ∙ h)
        ]

        higher : (p : ℕ) → p ≢ low → bit_at left p ≡ 1 → low < p
        higher p n h = elim (cases_lt p low) [ inl l ↦ absurd (omega (arith, z.2 p l, h)) | inr l ↦ omega (arith, l, n) ]

    pub lists-all : left ≡ 0 → (i : ℕ) → Has i list ↔ (Has i old ⊎ IsInWord place word i)
    lists-all e i = (is.sound i, from)
      where
        from : Has i old ⊎ IsInWord place word i → Has i list
        from (inl m) = is.kept i m
        from (inr (p, b, q)) = elim (is.whole p b) [
          | inl l ↦ absurd (omega (arith, l, ap (λ z. bit_at z p) e, bit_at-zero p))
          | inr m ↦ subst (λ j. Has j list) (sym q) m
        ]

-- the numbers of the first words are listed
pub record IsListedUpTo (words : List ℕ) (k : ℕ) (list : List ℕ) : Type 0 where
  pub rising : IsRising nat_lt list
  pub sound : (i : ℕ) → Has i list → (i < k * 64) × (bit words i ≡ 1)
  pub whole : (i : ℕ) → i < k * 64 → bit words i ≡ 1 → Has i list

module _ (words : List ℕ) (k : ℕ) (list : List ℕ) where
  pub listed-more : IsListedUpTo words k list → get_or words k 0 < 2 ^ 64 → (new : List ℕ) → IsRising nat_lt new → ((i : ℕ) → Has i new ↔ (Has i list ⊎ IsInWord k (get_or words k 0) i)) → IsListedUpTo words (k + 1) new
  listed-more is l new rising exact = record { rising = rising; sound = λ i h. to i ((exact i).0 h); whole = from }
    where
      to : (i : ℕ) → Has i list ⊎ IsInWord k (get_or words k 0) i → (i < (k + 1) * 64) × (bit words i ≡ 1)
      to i (inl m) = let s = is.sound i m in (omega (arith, s.0), s.1)
      to i (inr (p, b, q)) = elim (cases_lt p 64) [
        | inl s ↦ (omega (arith, s, q), ap (bit words) q ∙ (bit-at words k p s ∙ b))
        | inr s ↦ absurd (omega (arith, b, bit_at_above (get_or words k 0) 64 p l s))
      ]

      from : (i : ℕ) → i < (k + 1) * 64 → bit words i ≡ 1 → Has i new
      from i m b = elim (cases_lt i (k * 64)) [
        | inl s ↦ (exact i).1 (inl (is.whole i s b))
        | inr s ↦
            let e : i ≡ k * 64 + (i - k * 64) = omega arith in
            (exact i).1 (inr (i - k * 64, sym (bit-at words k (i - k * 64) (omega arith)) ∙ (ap (bit words) (sym e) ∙ b), e))
      ]

  pub listed-all : IsListedUpTo words k list → length words ≤ k → (i : ℕ) → Has i list ↔ (bit words i ≡ 1)
  listed-all is l i = ((λ h. (is.sound i h).1), (λ b. elim (cases_lt i (k * 64)) [ inl s ↦ is.whole i s b | inr s ↦ absurd (omega (arith, b, bit-past words i (omega arith))) ]))

-- the numbers of the words of a set are its members
pub listed-members : (words : List ℕ) (width : ℕ) (list : List ℕ) → IsKept words width → IsRising nat_lt list → ((i : ℕ) → Has i list ↔ (bit words i ≡ 1)) → members_of words width ≡ list
listed-members words width list kept rising exact =
    passing-is (λ i. bit words i == 1) width list rising (λ i e. (exact i).1 (eqb-true (bit words i) 1 e))
    (λ i h. let b = (exact i).0 h in (kept.within i b, eq-eqb (bit words i) 1 b))
