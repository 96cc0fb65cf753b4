-- Unions of words that the bits of other words pick.
use Rattle.std.proofs.Common.{◌≡◌, ◌≢◌, ◌↔◌, ◌⊎◌, inl, inr, ℕ, suc, ◌+◌, ◌-◌, ◌*◌, ◌/◌, ◌%◌, ◌^◌, ◌<◌, ◌≤◌, List, length, get_or, bit_and, bit_or, sym, ap, subst, ◌∙◌, arith, w64}
use Rattle.std.specs.Int.{bit_at, trailing_zeros}
use Rattle.std.proofs.lemmas.Bool.{cases_lt, cases_eq}
use Rattle.std.proofs.Math.Nat.{pow-suc}
use Rattle.std.proofs.lemmas.Nat.{and_le_l, mod_below, pow_pos, div-add-mod'}
use Rattle.std.proofs.lemmas.Nat.Bits.{bit_at-lt, bit_at-zero, bit_at_and, bit_at_or, bit_at_above, bit_at-trailing_zeros, bit_at-pow_same, bit_at-pow_other, bit_at_ones_above, bit_at_cat_low, bit_at_cat_high, same_from_bits_below}
use Rattle.base_bits.specs.Words.{bit, IsPicked, IsPickedByBoth}
use Rattle.base_bits.proofs.Bits.{bit-past, bit-small}
use Rattle.base_bits.proofs.Common.{both-at}

-- a word without its lowest bit
module _ (n : ℕ) (some : 0 < n) (fits : n < 2 ^ 64) where
  abbrev low : ℕ
  low = trailing_zeros w64 n

  is-low : (low < 64) × (bit_at n low ≡ 1) × ((i : ℕ) → i < low → bit_at n i ≡ 0)
  is-low = bit_at-trailing_zeros w64 n some fits

  power : 2 ^ (low + 1) ≡ 2 * 2 ^ low
  power = let e : low + 1 ≡ suc low = omega arith in ap (λ z. 2 ^ z) e ∙ omega (arith, pow-suc 2 low)

  positive : 0 < 2 ^ low
  positive = pow_pos low

  whole-is : n ≡ n / 2 ^ (low + 1) * 2 ^ (low + 1) + n % 2 ^ (low + 1)
  whole-is = sym (div-add-mod' n (2 ^ (low + 1)))

  rest-is : n % 2 ^ (low + 1) ≡ 2 ^ low
  rest-is = same_from_bits_below (low + 1) (n % 2 ^ (low + 1)) (2 ^ low) (mod_below n (2 ^ (low + 1)) (omega (arith, power, positive))) (omega (arith, power, positive)) each
    where
      each : (i : ℕ) → i < low + 1 → bit_at (n % 2 ^ (low + 1)) i ≡ bit_at (2 ^ low) i
      each i l =
          let e = bit_at_cat_low (n / 2 ^ (low + 1)) (low + 1) (n % 2 ^ (low + 1)) i l in
          let f : bit_at n i ≡ bit_at (n % 2 ^ (low + 1)) i = ap (λ z. bit_at z i) whole-is ∙ e in
          elim (cases_eq i low) [
            | inl q ↦ sym f ∙ (ap (bit_at n) q ∙ (is-low.1 ∙ (sym (bit_at-pow_same low) ∙ ap (bit_at (2 ^ low)) (sym q))))
            | inr d ↦ sym f ∙ (is-low.2 i (omega arith) ∙ sym (bit_at-pow_other low i d))
          ]

  less-is : n - 1 ≡ n / 2 ^ (low + 1) * 2 ^ (low + 1) + (2 ^ low - 1)
  less-is = omega (arith, whole-is, rest-is, positive)

  pub lowest-gone : bit_at (bit_and n (n - 1)) (trailing_zeros w64 n) ≡ 0
  lowest-gone =
      let e = bit_at_cat_low (n / 2 ^ (low + 1)) (low + 1) (2 ^ low - 1) low (omega arith) in
      let f : bit_at (n - 1) low ≡ 0 = ap (λ z. bit_at z low) less-is ∙ (e ∙ bit_at_ones_above low low (omega arith)) in
      omega (arith, f, bit_at_and n (n - 1) low)

  pub others-left : (i : ℕ) → i ≢ trailing_zeros w64 n → bit_at (bit_and n (n - 1)) i ≡ bit_at n i
  others-left i d = elim (cases_lt i low) [
    | inl l ↦ omega (arith, is-low.2 i l, bit_at_and n (n - 1) i)
    | inr l ↦
        let h = n / 2 ^ (low + 1) in
        let e = bit_at_cat_high h (low + 1) (n % 2 ^ (low + 1)) i (mod_below n (2 ^ (low + 1)) (omega (arith, power, positive))) (omega arith) in
        let f : bit_at n i ≡ bit_at h (i - (low + 1)) = ap (λ z. bit_at z i) whole-is ∙ e in
        let g = bit_at_cat_high h (low + 1) (2 ^ low - 1) i (omega (arith, power, positive)) (omega arith) in
        let k : bit_at (n - 1) i ≡ bit_at h (i - (low + 1)) = ap (λ z. bit_at z i) less-is ∙ g in
        omega (arith, f, k, bit_at_and n (n - 1) i)
  ]

-- what is left of the bits is still to be picked
pub record PicksTo (words : List ℕ) (from bits left all : ℕ) : Type 0 where
  pub fits : left < 2 ^ 64
  pub less : (p : ℕ) → bit_at left p ≡ 1 → bit_at bits p ≡ 1
  pub sound : (q : ℕ) → bit_at all q ≡ 1 → IsPicked words from bits q
  pub whole : (p q : ℕ) → bit_at bits p ≡ 1 → bit_at (get_or words (from + p) 0) q ≡ 1 → (bit_at left p ≡ 1) ⊎ (bit_at all q ≡ 1)

module _ (words : List ℕ) (from bits : ℕ) where
  pub picks-first : bits < 2 ^ 64 → PicksTo words from bits bits 0
  picks-first l = record { fits = l; less = λ p h. h; sound = λ q h. absurd (omega (arith, h, bit_at-zero q)); whole = λ p q h m. inl h }

  module _ (left all : ℕ) (is : PicksTo words from bits left all) where
    pub picks-place : left ≢ 0 → (trailing_zeros w64 left < 64) × (bit_at bits (trailing_zeros w64 left) ≡ 1)
    picks-place d = let z = bit_at-trailing_zeros w64 left (omega arith) is.fits in (z.0, is.less (trailing_zeros w64 left) z.1)

    pub picks-more : left ≢ 0 → PicksTo words from bits (bit_and left (left - 1)) (bit_or all (get_or words (from + trailing_zeros w64 left) 0))
    picks-more d = record {
      fits = omega (arith, and_le_l left (left - 1), is.fits);
      less = λ p h. elim (cases_eq p place) [
        | inl e ↦ absurd (omega (arith, ap (bit_at (bit_and left (left - 1))) e, gone, h))
        | inr n ↦ is.less p (sym (others-left left some is.fits p n) ∙ h)
      ];
      sound = λ q h. elim (cases_eq (bit_at all q) 1) [
        | inl e ↦ is.sound q e
        | inr n ↦ (place, is.less place z.1, omega (arith, bit_at_or all w q, h, n, bit_at-lt all q, bit_at-lt w q))
      ];
      whole = λ p q h m. elim (is.whole p q h m) [
        | inl l ↦ elim (cases_eq p place) [
          | inl e ↦ inr (let y = subst (λ j. bit_at (get_or words (from + j) 0) q ≡ 1) e m in omega (arith, bit_at_or all w q, y, bit_at-lt all q))
          | inr n ↦ inl (others-left left some is.fits p n ∙ l)
        ]
        | inr e ↦ inr (omega (arith, bit_at_or all w q, e, bit_at-lt w q))
      ];
    }
      where
        some : 0 < left
        some = omega arith

        place : ℕ
        place = trailing_zeros w64 left

        w : ℕ
        w = get_or words (from + place) 0

        z : (place < 64) × (bit_at left place ≡ 1) × ((i : ℕ) → i < place → bit_at left i ≡ 0)
        z = bit_at-trailing_zeros w64 left some is.fits

        gone : bit_at (bit_and left (left - 1)) place ≡ 0
        gone = lowest-gone left some is.fits

    pub picks-all : left ≡ 0 → (q : ℕ) → (bit_at all q ≡ 1) ↔ IsPicked words from bits q
    picks-all e q = (
      is.sound q,
      λ h. elim (is.whole h.0 q h.1 h.2) [ inl l ↦ absurd (omega (arith, l, ap (λ z. bit_at z h.0) e, bit_at-zero h.0)) | inr m ↦ m ],
    )

-- the numbers below 64 k have picked
pub record PicksUpTo (words : List ℕ) (from : ℕ) (a b : List ℕ) (k all : ℕ) : Type 0 where
  pub sound : (q : ℕ) → bit_at all q ≡ 1 → IsPickedByBoth words from a b q
  pub whole : (i q : ℕ) → i < 64 * k → bit a i ≡ 1 → bit b i ≡ 1 → bit_at (get_or words (from + i) 0) q ≡ 1 → bit_at all q ≡ 1

module _ (words : List ℕ) (from : ℕ) (a b : List ℕ) where
  pub up-first : PicksUpTo words from a b 0 0
  up-first = record { sound = λ q h. absurd (omega (arith, h, bit_at-zero q)); whole = λ i q l. absurd (omega (arith, l)) }

  module _ (small : (j : ℕ) → get_or a j 0 < 2 ^ 64) (k : ℕ) where
    abbrev both : ℕ
    both = bit_and (get_or a k 0) (get_or b k 0)

    -- a bit of the words at k is a number of both
    pub of-both : (p : ℕ) → bit_at (bit_and (get_or a k 0) (get_or b k 0)) p ≡ 1 → (p < 64) × (bit a (k * 64 + p) ≡ 1) × (bit b (k * 64 + p) ≡ 1)
    of-both p h = elim (cases_lt p 64) [
      | inl l ↦ let e = both-at a b k p l in (l, omega (arith, e, h, bit-small a (k * 64 + p), bit-small b (k * 64 + p)), omega (arith, e, h, bit-small a (k * 64 + p), bit-small b (k * 64 + p)))
      | inr l ↦ absurd (omega (arith, h, bit_at_above both 64 p (omega (arith, and_le_l (get_or a k 0) (get_or b k 0), small k)) l))
    ]

    pub up-more : (all w : ℕ) → PicksUpTo words from a b k all → ((q : ℕ) → (bit_at w q ≡ 1) ↔ IsPicked words (from + 64 * k) (bit_and (get_or a k 0) (get_or b k 0)) q) → PicksUpTo words from a b (k + 1) (bit_or all w)
    up-more all w is picked = record {
      sound = λ q h. elim (cases_eq (bit_at all q) 1) [
        | inl e ↦ is.sound q e
        | inr n ↦
            let m = (picked q).0 (omega (arith, bit_at_or all w q, h, n, bit_at-lt all q, bit_at-lt w q)) in
            let f = of-both m.0 m.1 in
            let e : from + 64 * k + m.0 ≡ from + (k * 64 + m.0) = omega arith in
            (k * 64 + m.0, f.1, f.2, subst (λ z. bit_at (get_or words z 0) q ≡ 1) e m.2)
      ];
      whole = λ i q l x y m. elim (cases_lt i (64 * k)) [
        | inl s ↦ omega (arith, bit_at_or all w q, is.whole i q s x y m, bit_at-lt w q)
        | inr s ↦
            let p = i - k * 64 in
            let e : k * 64 + (i - k * 64) ≡ i = omega arith in
            let f : from + i ≡ from + 64 * k + (i - k * 64) = omega arith in
            let r = both-at a b k (i - k * 64) (omega arith) in
            let x2 : bit a (k * 64 + (i - k * 64)) ≡ 1 = ap (bit a) e ∙ x in
            let y2 : bit b (k * 64 + (i - k * 64)) ≡ 1 = ap (bit b) e ∙ y in
            let g = (picked q).1 (i - k * 64, omega (arith, r, x2, y2), subst (λ z. bit_at (get_or words z 0) q ≡ 1) f m) in
            omega (arith, bit_at_or all w q, g, bit_at-lt all q)
      ];
    }

  pub up-all : (k all : ℕ) → length a ≤ k → PicksUpTo words from a b k all → (q : ℕ) → (bit_at all q ≡ 1) ↔ IsPickedByBoth words from a b q
  up-all k all l is q = (is.sound q, λ h. is.whole h.0 q (inside h.0 h.1) h.1 h.2 h.3)
    where
      inside : (i : ℕ) → bit a i ≡ 1 → i < 64 * k
      inside i e = elim (cases_lt i (64 * k)) [ inl s ↦ s | inr s ↦ absurd (omega (arith, e, bit-past a i (omega arith))) ]
