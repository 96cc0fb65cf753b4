-- The filters that the first cell has, an ask after the other.
use Rattle.std.proofs.Common.{◌≡◌, ◌≢◌, ◌↔◌, ◌⊎◌, ◌==◌, ◌∙◌, ℕ, ◌+◌, ◌<◌, inl, inr, cond, List, length, take, get_or, refl, sym, ap, arith, eqb-true, eq-eqb}
use Rattle.std.proofs.lemmas.Bool.{cases_eq, false_from_ne_true}
use Rattle.std.proofs.lemmas.List.Sums.{sum_by_more}
use Rattle.base_bits.specs.Words.{bit}
use Rattle.match_cells.specs.declared.ask.Ask.{Ask}
use Rattle.match_cells.specs.Asks.{own}

-- the words have the filters with an ask and nothing missed, and what they had
abbrev pub Has : List ℕ → List ℕ → List Ask → List ℕ → Type 0
Has first lost asks words = (k : ℕ) → (bit words k ≡ 1) ↔ (((0 < own k asks) × (get_or lost k 0 ≡ 0)) ⊎ (bit first k ≡ 1))

same-one : (m k : ℕ) → m ≡ k → ◌≡◌ {A = ℕ} (cond (m == k) 1 0) 1
same-one m k e = rw (eq-eqb m k e) refl

other-one : (m k : ℕ) → k ≢ m → ◌≡◌ {A = ℕ} (cond (m == k) 1 0) 0
other-one m k n = rw (false_from_ne_true (m == k) (λ t. n (sym (eqb-true m k t)))) refl

module _ (asks : List Ask) (i : ℕ) (d : Ask) (inside : i < length asks) (first lost words : List ℕ) (h : Has first lost (take i asks) words) where
  own-more : (k : ℕ) → own k (take (i + 1) asks) ≡ own k (take i asks) + cond ((get_or asks i d).id == k) 1 0
  own-more k = sum_by_more (λ a. cond (a.id == k) 1 0) asks i d inside

  others : (new : List ℕ) (k : ℕ) → k ≢ (get_or asks i d).id → bit new k ≡ bit words k → (bit new k ≡ 1) ↔ (((0 < own k (take (i + 1) asks)) × (get_or lost k 0 ≡ 0)) ⊎ (bit first k ≡ 1))
  others new k n e =
      let o = other-one (get_or asks i d).id k n in
      let m = own-more k in
      (λ b. elim ((h k).0 (sym e ∙ b)) [ inl p ↦ inl (omega (arith, p.0, m, o), p.1) | inr p ↦ inr p ], λ s. e ∙ (h k).1 (elim s [ inl p ↦ inl (omega (arith, p.0, m, o), p.1) | inr p ↦ inr p ]))

  pub has-put : (new : List ℕ) → get_or lost (get_or asks i d).id 0 ≡ 0 → bit new (get_or asks i d).id ≡ 1 → ((k : ℕ) → k ≢ (get_or asks i d).id → bit new k ≡ bit words k) → Has first lost (take (i + 1) asks) new
  has-put new none there o k = elim (cases_eq k (get_or asks i d).id) [
    | inl e ↦
        let m = own-more k in
        (λ b. inl (omega (arith, m, same-one (get_or asks i d).id k (sym e)), ap (λ z. get_or lost z 0) e ∙ none), λ s. ap (bit new) e ∙ there)
    | inr n ↦ others new k n (o k n)
  ]

  pub has-still : get_or lost (get_or asks i d).id 0 ≢ 0 → Has first lost (take (i + 1) asks) words
  has-still some k = elim (cases_eq k (get_or asks i d).id) [
    | inl e ↦
        let m = own-more k in (
          λ b. elim ((h k).0 b) [ inl p ↦ inl (omega (arith, p.0, m), p.1) | inr p ↦ inr p ],
          λ s. elim s [ inl p ↦ absurd (some (ap (λ z. get_or lost z 0) (sym e) ∙ p.1)) | inr p ↦ (h k).1 (inr p) ],
        )
    | inr n ↦ others words k n refl
  ]
