-- The bits of words, where a word is written or each is made of two others.
use Rattle.std.proofs.Common.{◌≡◌, ◌≢◌, ℕ, ◌+◌, ◌-◌, ◌*◌, ◌/◌, ◌%◌, ◌^◌, ◌<◌, ◌≤◌, inl, inr, min, max, List, length, replicate, get_or, set, bit_and, bit_or, refl, sym, ap, ap₂, ◌∙◌, arith, w64}
use Rattle.std.specs.Int.{bit_at, bit_not}
use Rattle.std.proofs.lemmas.Bool.{cases_lt, cases_eq}
use Rattle.std.proofs.lemmas.List.{length-replicate, get_or-replicate, get_or_past, get_or-set_same, get_or-set_other, ext_get_or}
use Rattle.std.proofs.lemmas.Nat.Bits.{bit_at-lt, bit_at-zero, bit_at_or, bit_at_and, bit_at_not, same_from_bits_below}
use Rattle.base_bits.specs.Words.{bit}

pub bit-small : (words : List ℕ) (i : ℕ) → bit words i < 2
unfolding bit
bit-small words i = bit_at-lt (get_or words (i / 64) 0) (i % 64)

pub bit-past : (words : List ℕ) (i : ℕ) → length words ≤ i / 64 → bit words i ≡ 0
unfolding bit
bit-past words i l = ap (λ w. bit_at w (i % 64)) (get_or_past words (i / 64) 0 l) ∙ bit_at-zero (i % 64)

-- the bit at a place of a word
pub bit-at : (words : List ℕ) (k b : ℕ) → b < 64 → bit words (k * 64 + b) ≡ bit_at (get_or words k 0) b
unfolding bit
bit-at words k b l =
    let q : (k * 64 + b) / 64 ≡ k = omega arith in
    let r : (k * 64 + b) % 64 ≡ b = omega arith in
    ap₂ (λ m n. bit_at (get_or words m 0) n) q r

pub set-same : (words : List ℕ) (i w : ℕ) → i < 64 * length words → bit (set words (i / 64) w) i ≡ bit_at w (i % 64)
unfolding bit
set-same words i w l = ap (λ z. bit_at z (i % 64)) (get_or-set_same words (i / 64) w 0 (omega arith))

pub set-other : (words : List ℕ) (i k w : ℕ) → i < 64 * length words → k ≢ i → (k % 64 ≢ i % 64 → bit_at w (k % 64) ≡ bit_at (get_or words (i / 64) 0) (k % 64)) → bit (set words (i / 64) w) k ≡ bit words k
unfolding bit
set-other words i k w l n h = elim (cases_eq (k / 64) (i / 64)) [
  | inl e ↦
      let place : k % 64 ≢ i % 64 = λ q. n (omega arith) in
      ap (λ z. bit_at (get_or (set words (i / 64) w) z 0) (k % 64)) e
      ∙ (ap (λ z. bit_at z (k % 64)) (get_or-set_same words (i / 64) w 0 (omega arith)) ∙ (h place ∙ ap (λ z. bit_at (get_or words z 0) (k % 64)) (sym e)))
  | inr e ↦ ap (λ z. bit_at z (k % 64)) (get_or-set_other words (i / 64) (k / 64) w 0 e)
]

-- each word is made of those at its place
module _ (a b c : List ℕ) (long : length c ≡ length a) (same : length b ≡ length a) where
  by-words : (f : ℕ → ℕ → ℕ) → f 0 0 ≡ 0 → ((j : ℕ) → j < length a → (p : ℕ) → p < 64 → bit_at (get_or c j 0) p ≡ f (bit_at (get_or a j 0) p) (bit_at (get_or b j 0) p)) → (k : ℕ) → bit c k ≡ f (bit a k) (bit b k)
  unfolding bit
  by-words f none each k = elim (cases_lt (k / 64) (length a)) [
    | inl l ↦ each (k / 64) l (k % 64) (omega arith)
    | inr l ↦ bit-past c k (omega arith) ∙ (sym none ∙ ap₂ f (sym (bit-past a k l)) (sym (bit-past b k (omega arith))))
  ]

  pub or-bits : ((j : ℕ) → j < length a → get_or c j 0 ≡ bit_or (get_or a j 0) (get_or b j 0)) → (k : ℕ) → bit c k ≡ max (bit a k) (bit b k)
  or-bits each = by-words max refl (λ j l p q. ap (λ z. bit_at z p) (each j l) ∙ bit_at_or (get_or a j 0) (get_or b j 0) p)

  pub and-bits : ((j : ℕ) → j < length a → get_or c j 0 ≡ bit_and (get_or a j 0) (get_or b j 0)) → (k : ℕ) → bit c k ≡ min (bit a k) (bit b k)
  and-bits each = by-words min refl (λ j l p q. ap (λ z. bit_at z p) (each j l) ∙ bit_at_and (get_or a j 0) (get_or b j 0) p)

  pub and_not-bits : ((j : ℕ) → get_or b j 0 < 2 ^ 64) → ((j : ℕ) → j < length a → get_or c j 0 ≡ bit_and (get_or a j 0) (bit_not w64 (get_or b j 0))) → (k : ℕ) → bit c k ≡ bit a k - bit b k
  and_not-bits fits each = by-words (λ x y. x - y) refl word
    where
      word : (j : ℕ) → j < length a → (p : ℕ) → p < 64 → bit_at (get_or c j 0) p ≡ bit_at (get_or a j 0) p - bit_at (get_or b j 0) p
      word j l p q =
          let x = bit_at_and (get_or a j 0) (bit_not w64 (get_or b j 0)) p in
          let y = bit_at_not w64 (get_or b j 0) p (fits j) q in
          let z : bit_at (get_or c j 0) p ≡ bit_at (bit_and (get_or a j 0) (bit_not w64 (get_or b j 0))) p = ap (λ z. bit_at z p) (each j l) in
          omega (arith, x, y, z, bit_at-lt (get_or a j 0) p, bit_at-lt (get_or b j 0) p)

-- words with the same bits are the same
pub same-words : (a b : List ℕ) → length a ≡ length b → ((j : ℕ) → get_or a j 0 < 2 ^ 64) → ((j : ℕ) → get_or b j 0 < 2 ^ 64) → ((i : ℕ) → bit a i ≡ bit b i) → a ≡ b
same-words a b long low small same =
    ext_get_or 0 a b long
    (λ j l. same_from_bits_below 64 (get_or a j 0) (get_or b j 0) (low j) (small j) (λ p q. sym (bit-at a j p q) ∙ (same (j * 64 + p) ∙ bit-at b j p q)))

pub no-bits : (c : List ℕ) → ((j : ℕ) → j < length c → get_or c j 0 ≡ 0) → (k : ℕ) → bit c k ≡ 0
unfolding bit
no-bits c each k = elim (cases_lt (k / 64) (length c)) [
  | inl l ↦ ap (λ z. bit_at z (k % 64)) (each (k / 64) l) ∙ bit_at-zero (k % 64)
  | inr l ↦ bit-past c k l
]

-- words with no bit in common
pub apart-bits : (a b : List ℕ) → length a ≡ length b → ((j : ℕ) → j < length a → bit_and (get_or a j 0) (get_or b j 0) ≡ 0) → (k : ℕ) → min (bit a k) (bit b k) ≡ 0
unfolding bit
apart-bits a b long each k = elim (cases_lt (k / 64) (length a)) [
  | inl l ↦ sym (bit_at_and (get_or a (k / 64) 0) (get_or b (k / 64) 0) (k % 64)) ∙ (ap (λ z. bit_at z (k % 64)) (each (k / 64) l) ∙ bit_at-zero (k % 64))
  | inr l ↦ ap₂ min (bit-past a k l) (bit-past b k (omega arith))
]

pub zero-bits : (n k : ℕ) → bit (replicate n 0) k ≡ 0
zero-bits n k = no-bits (replicate n 0) (λ j l. get_or-replicate n j 0 0 (omega (arith, l, length-replicate {A = ℕ} n 0))) k
