-- The least number that two sets have in common, by words.
use Rattle.std.proofs.Common.{◌≡◌, ◌≢◌, ℕ, ◌+◌, ◌-◌, ◌*◌, ◌/◌, ◌%◌, ◌^◌, ◌<◌, ◌≤◌, ◌⊎◌, inl, inr, min, List, length, get_or, bit_and, bit_or, sym, ap, ap₂, subst, ◌∙◌, arith, w64}
use Rattle.std.specs.Int.{bit_at, trailing_zeros}
use Rattle.std.proofs.lemmas.Bool.{cases_lt, cases_eq}
use Rattle.std.proofs.lemmas.Nat.{and_le_l}
use Rattle.std.proofs.lemmas.Nat.Bits.{bit_at-lt, bit_at-zero, bit_at_and, bit_at_or, same_from_bits, bit_at-trailing_zeros, ones_shl, bit_at_mask_inside, bit_at_mask_below}
use Rattle.base_bits.specs.Words.{bit, HaveCommonWord}
use Rattle.base_bits.proofs.Bits.{bit-at, bit-small, bit-past}

pub both-at : (a b : List ℕ) (k p : ℕ) → p < 64 → bit_at (bit_and (get_or a k 0) (get_or b k 0)) p ≡ min (bit a (k * 64 + p)) (bit b (k * 64 + p))
both-at a b k p l = bit_at_and (get_or a k 0) (get_or b k 0) p ∙ sym (ap₂ min (bit-at a k p l) (bit-at b k p l))

-- words that share a bit share a number
pub meeting : (a b : List ℕ) (k : ℕ) → bit_and (get_or a k 0) (get_or b k 0) ≢ 0 → ((j : ℕ) → get_or a j 0 < 2 ^ 64) → (i : ℕ) × (bit a i ≡ 1) × (bit b i ≡ 1)
meeting a b k some fits =
    let w = bit_and (get_or a k 0) (get_or b k 0) in
    let low : w < 2 ^ 64 = omega (arith, and_le_l (get_or a k 0) (get_or b k 0), fits k) in
    let z = bit_at-trailing_zeros w64 w (omega arith) low in
    let i = k * 64 + trailing_zeros w64 w in
    let e = both-at a b k (trailing_zeros w64 w) z.0 in
    (i, omega (arith, e, z.1, bit-small a i, bit-small b i), omega (arith, e, z.1, bit-small a i, bit-small b i))

pub masked : (w s b : ℕ) → s < 64 → s ≤ b → b < 64 → bit_at (bit_and w (18446744073709551615 * 2 ^ s % 18446744073709551616)) b ≡ bit_at w b
masked w s b h l m =
    let o : 18446744073709551615 * 2 ^ s % 18446744073709551616 ≡ 2 ^ 64 - 2 ^ s = ones_shl 64 s (omega arith) in
    let e = bit_at_and w (18446744073709551615 * 2 ^ s % 18446744073709551616) b in
    let f : bit_at (18446744073709551615 * 2 ^ s % 18446744073709551616) b ≡ 1 = ap (λ z. bit_at z b) o ∙ bit_at_mask_inside s 64 b l m in
    omega (arith, e, f, bit_at-lt w b)

pub masked-low : (w s b : ℕ) → s < 64 → b < s → bit_at (bit_and w (18446744073709551615 * 2 ^ s % 18446744073709551616)) b ≡ 0
masked-low w s b h l =
    let o : 18446744073709551615 * 2 ^ s % 18446744073709551616 ≡ 2 ^ 64 - 2 ^ s = ones_shl 64 s (omega arith) in
    let e = bit_at_and w (18446744073709551615 * 2 ^ s % 18446744073709551616) b in
    let f : bit_at (18446744073709551615 * 2 ^ s % 18446744073709551616) b ≡ 0 = ap (λ z. bit_at z b) o ∙ bit_at_mask_below s 64 b l in
    omega (arith, e, f)

-- numbers from `from` on that are in both sets: the word at `at` has those of its place, and there are none before
pub record Looks (a b : List ℕ) (from at word : ℕ) : Type 0 where
  pub within : at < length a
  pub fits : word < 2 ^ 64
  pub start : from < at * 64 + 64
  pub here : (p : ℕ) → p < 64 → from ≤ at * 64 + p → bit_at word p ≡ min (bit a (at * 64 + p)) (bit b (at * 64 + p))
  pub low : (p : ℕ) → p < 64 → at * 64 + p < from → bit_at word p ≡ 0
  pub none : (k : ℕ) → from ≤ k → k < at * 64 → min (bit a k) (bit b k) ≡ 0

module _ (a b : List ℕ) (from : ℕ) (small : (j : ℕ) → get_or a j 0 < 2 ^ 64) where
  both-small : (j : ℕ) → bit_and (get_or a j 0) (get_or b j 0) < 2 ^ 64
  both-small j = omega (arith, and_le_l (get_or a j 0) (get_or b j 0), small j)

  pub looks-first : from / 64 < length a → Looks a b from (from / 64) (bit_and (bit_and (get_or a (from / 64) 0) (get_or b (from / 64) 0)) (18446744073709551615 * 2 ^ (from % 64) % 18446744073709551616))
  looks-first l =
      let w = bit_and (get_or a (from / 64) 0) (get_or b (from / 64) 0) in
      record {
        within = l;
        fits = omega (arith, and_le_l w (18446744073709551615 * 2 ^ (from % 64) % 18446744073709551616), both-small (from / 64));
        start = omega arith;
        here = λ p m n. masked w (from % 64) p (omega arith) (omega arith) m ∙ both-at a b (from / 64) p m;
        low = λ p m n. masked-low w (from % 64) p (omega arith) (omega arith);
        none = λ k m n. absurd (omega arith);
      }

  module _ (at word : ℕ) (is : Looks a b from at word) where
    below-next : word ≡ 0 → (k : ℕ) → from ≤ k → k < at * 64 + 64 → min (bit a k) (bit b k) ≡ 0
    below-next zero-word k l m = elim (cases_lt k (at * 64)) [
      | inl n ↦ is.none k l n
      | inr n ↦
          let p : at * 64 + (k - at * 64) ≡ k = omega arith in
          let e = is.here (k - at * 64) (omega arith) (omega arith) in
          subst (λ z. min (bit a z) (bit b z) ≡ 0) p (sym e ∙ (ap (λ z. bit_at z (k - at * 64)) zero-word ∙ bit_at-zero (k - at * 64)))
    ]

    pub looks-next : word ≡ 0 → at + 1 < length a → Looks a b from (at + 1) (bit_and (get_or a (at + 1) 0) (get_or b (at + 1) 0))
    looks-next zero-word l =
        let s = is.start in
        record {
          within = l;
          fits = both-small (at + 1);
          start = omega arith;
          here = λ p m n. both-at a b (at + 1) p m;
          low = λ p m n. absurd (omega arith);
          none = λ k m n. below-next zero-word k m (omega arith);
        }

    pub looks-none : word ≡ 0 → at + 1 ≡ length a → (k : ℕ) → from ≤ k → min (bit a k) (bit b k) ≡ 0
    looks-none zero-word l k m = elim (cases_lt k (at * 64 + 64)) [
      | inl n ↦ below-next zero-word k m n
      | inr n ↦ let z = bit-past a k (omega arith) in omega (arith, z)
    ]

    module _ (some : 0 < word) where
      pub found-fits : trailing_zeros w64 word < 64
      found-fits = (bit_at-trailing_zeros w64 word some is.fits).0

      pub found-from : from ≤ at * 64 + trailing_zeros w64 word
      found-from =
          let z = bit_at-trailing_zeros w64 word some is.fits in
          elim (cases_lt (at * 64 + trailing_zeros w64 word) from) [
            | inl l ↦ absurd (omega (arith, is.low (trailing_zeros w64 word) z.0 l, z.1))
            | inr l ↦ l
          ]

      pub found : (bit a (at * 64 + trailing_zeros w64 word) ≡ 1) × (bit b (at * 64 + trailing_zeros w64 word) ≡ 1)
      found =
          let z = bit_at-trailing_zeros w64 word some is.fits in
          let i = at * 64 + trailing_zeros w64 word in
          let e = is.here (trailing_zeros w64 word) z.0 found-from in
          (omega (arith, e, z.1, bit-small a i, bit-small b i), omega (arith, e, z.1, bit-small a i, bit-small b i))

      pub found-least : (k : ℕ) → from ≤ k → k < at * 64 + trailing_zeros w64 word → min (bit a k) (bit b k) ≡ 0
      found-least k l m = elim (cases_lt k (at * 64)) [
        | inl n ↦ is.none k l n
        | inr n ↦
            let z = bit_at-trailing_zeros w64 word some is.fits in
            let p : at * 64 + (k - at * 64) ≡ k = omega arith in
            let e = is.here (k - at * 64) (omega (arith, z.0)) (omega arith) in
            subst (λ z. min (bit a z) (bit b z) ≡ 0) p (sym e ∙ z.2 (k - at * 64) (omega arith))
      ]

or-none : (x y : ℕ) → bit_or x y ≡ 0 → (x ≡ 0) × (y ≡ 0)
or-none x y e = (same_from_bits x 0 one, same_from_bits y 0 other)
  where
    both : (i : ℕ) → bit_at (bit_or x y) i ≡ 0
    both i = ap (λ z. bit_at z i) e ∙ bit_at-zero i

    one : (i : ℕ) → bit_at x i ≡ bit_at 0 i
    one i = omega (arith, both i, bit_at_or x y i, bit_at-zero i)

    other : (i : ℕ) → bit_at y i ≡ bit_at 0 i
    other i = omega (arith, both i, bit_at_or x y i, bit_at-zero i)

or-some : (x y : ℕ) → bit_or x y ≢ 0 → (x ≢ 0) ⊎ (y ≢ 0)
or-some x y n = elim (cases_eq x 0) [
  | inr d ↦ inl d
  | inl e ↦ elim (cases_eq y 0) [ inr d ↦ inr d | inl f ↦ absurd (n (ap₂ bit_or e f)) ]
]

module _ (a b : List ℕ) (k : ℕ) where
  pub four-some : bit_or (bit_or (bit_or (bit_and (get_or a k 0) (get_or b k 0)) (bit_and (get_or a (k + 1) 0) (get_or b (k + 1) 0))) (bit_and (get_or a (k + 2) 0) (get_or b (k + 2) 0))) (bit_and (get_or a (k + 3) 0) (get_or b (k + 3) 0)) ≢ 0
      → HaveCommonWord a b
  four-some n = elim (or-some (bit_or (bit_or (bit_and (get_or a k 0) (get_or b k 0)) (bit_and (get_or a (k + 1) 0) (get_or b (k + 1) 0))) (bit_and (get_or a (k + 2) 0) (get_or b (k + 2) 0))) (bit_and (get_or a (k + 3) 0) (get_or b (k + 3) 0)) n) [
    | inr d ↦ (k + 3, d)
    | inl m ↦ elim (or-some (bit_or (bit_and (get_or a k 0) (get_or b k 0)) (bit_and (get_or a (k + 1) 0) (get_or b (k + 1) 0))) (bit_and (get_or a (k + 2) 0) (get_or b (k + 2) 0)) m) [
      | inr d ↦ (k + 2, d)
      | inl l ↦ elim (or-some (bit_and (get_or a k 0) (get_or b k 0)) (bit_and (get_or a (k + 1) 0) (get_or b (k + 1) 0)) l) [ inr d ↦ (k + 1, d) | inl d ↦ (k, d) ]
    ]
  ]

  pub four-none : bit_or (bit_or (bit_or (bit_and (get_or a k 0) (get_or b k 0)) (bit_and (get_or a (k + 1) 0) (get_or b (k + 1) 0))) (bit_and (get_or a (k + 2) 0) (get_or b (k + 2) 0))) (bit_and (get_or a (k + 3) 0) (get_or b (k + 3) 0)) ≡ 0
      → (j : ℕ) → k ≤ j → j < k + 4 → bit_and (get_or a j 0) (get_or b j 0) ≡ 0
  four-none e j l m =
      let p = or-none (bit_or (bit_or (bit_and (get_or a k 0) (get_or b k 0)) (bit_and (get_or a (k + 1) 0) (get_or b (k + 1) 0))) (bit_and (get_or a (k + 2) 0) (get_or b (k + 2) 0))) (bit_and (get_or a (k + 3) 0) (get_or b (k + 3) 0)) e in
      let q = or-none (bit_or (bit_and (get_or a k 0) (get_or b k 0)) (bit_and (get_or a (k + 1) 0) (get_or b (k + 1) 0))) (bit_and (get_or a (k + 2) 0) (get_or b (k + 2) 0)) p.0 in
      let r = or-none (bit_and (get_or a k 0) (get_or b k 0)) (bit_and (get_or a (k + 1) 0) (get_or b (k + 1) 0)) q.0 in
      elim (cases_eq j k) [
        | inl e0 ↦ at j k e0 r.0
        | inr n0 ↦ elim (cases_eq j (k + 1)) [
          | inl e1 ↦ at j (k + 1) e1 r.1
          | inr n1 ↦ elim (cases_eq j (k + 2)) [ inl e2 ↦ at j (k + 2) e2 q.1 | inr n2 ↦ at j (k + 3) (omega arith) p.1 ]
        ]
      ]
    where
      at : (j m : ℕ) → j ≡ m → bit_and (get_or a m 0) (get_or b m 0) ≡ 0 → bit_and (get_or a j 0) (get_or b j 0) ≡ 0
      at j m q e = subst (λ z. bit_and (get_or a z 0) (get_or b z 0) ≡ 0) (sym q) e
