-- Unions of words that the numbers of a list pick.
use Rattle.std.proofs.Common.{◌≡◌, ◌≢◌, ◌↔◌, inl, inr, ℕ, ◌+◌, ◌<◌, ◌≤◌, List, length, get_or, bit_or, sym, ap, subst, ◌∙◌, arith}
use Rattle.std.specs.Int.{bit_at}
use Rattle.std.proofs.lemmas.Bool.{cases_eq}
use Rattle.std.proofs.lemmas.Nat.Bits.{bit_at-lt, bit_at-zero, bit_at_or}
use Rattle.base.proofs.Sets.{get_or-has, has-get_or}
use Rattle.base_bits.specs.Words.{bit, IsPickedByList}

-- the first k numbers have picked
pub record HavePicked (words : List ℕ) (from : ℕ) (list set : List ℕ) (k all : ℕ) : Type 0 where
  pub sound : (q : ℕ) → bit_at all q ≡ 1 → IsPickedByList words from list set q
  pub whole : (j q : ℕ) → j < k → bit set (get_or list j 0) ≡ 1 → bit_at (get_or words (from + get_or list j 0) 0) q ≡ 1 → bit_at all q ≡ 1

module _ (words : List ℕ) (from : ℕ) (list set : List ℕ) where
  pub list-first : HavePicked words from list set 0 0
  list-first = record { sound = λ q h. absurd (omega (arith, h, bit_at-zero q)); whole = λ j q l. absurd (omega (arith, l)) }

  module _ (k all : ℕ) (is : HavePicked words from list set k all) where
    pub list-more : k < length list → bit set (get_or list k 0) ≡ 1 → HavePicked words from list set (k + 1) (bit_or all (get_or words (from + get_or list k 0) 0))
    list-more l b = record {
      sound = λ q h. elim (cases_eq (bit_at all q) 1) [
        | inl e ↦ is.sound q e
        | inr n ↦ (get_or list k 0, get_or-has list k 0 l, b, omega (arith, bit_at_or all w q, h, n, bit_at-lt all q, bit_at-lt w q))
      ];
      whole = λ j q m x y. elim (cases_eq j k) [
        | inl e ↦
            let z = subst (λ i. bit_at (get_or words (from + get_or list i 0) 0) q ≡ 1) e y in
            omega (arith, bit_at_or all w q, z, bit_at-lt all q)
        | inr n ↦ omega (arith, bit_at_or all w q, is.whole j q (omega (arith, m, n)) x y, bit_at-lt w q)
      ];
    }
      where
        w : ℕ
        w = get_or words (from + get_or list k 0) 0

    pub list-skip : bit set (get_or list k 0) ≢ 1 → HavePicked words from list set (k + 1) all
    list-skip n = record {
      sound = is.sound;
      whole = λ j q m x y. elim (cases_eq j k) [
        | inl e ↦ absurd (n (subst (λ i. bit set (get_or list i 0) ≡ 1) e x))
        | inr d ↦ is.whole j q (omega (arith, m, d)) x y
      ];
    }

    pub list-all : length list ≤ k → (q : ℕ) → (bit_at all q ≡ 1) ↔ IsPickedByList words from list set q
    list-all l q = (is.sound q, from-list)
      where
        from-list : IsPickedByList words from list set q → bit_at all q ≡ 1
        from-list h =
            let a = has-get_or list h.0 h.1 in
            is.whole a.0 q (omega (arith, a.1, l)) (ap (bit set) a.2 ∙ h.2) (subst (λ i. bit_at (get_or words (from + i) 0) q ≡ 1) (sym a.2) h.3)
