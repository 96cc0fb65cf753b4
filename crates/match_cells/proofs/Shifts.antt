-- One ask more that has gone from one side of its operand to another.
use Rattle.std.proofs.Common.{◌≡◌, ◌≢◌, ◌↔◌, ◌==◌, ◌&&◌, ◌∙◌, ℕ, ◌+◌, ◌<◌, inl, inr, Bool, true, false, not, cond, List, length, take, get_or, set, refl, sym, ap, arith, eqb-true, eq-eqb}
use Rattle.std.proofs.lemmas.Bool.{cases_eq, false_from_ne_true}
use Rattle.std.proofs.lemmas.List.{get_or-set_same, get_or-set_other}
use Rattle.std.proofs.lemmas.List.Sums.{sum_by_more}
use Rattle.base_bits.specs.Words.{bit}
use Rattle.match_cells.specs.Changes.{Past, present, Continues, IsPut}
use Rattle.match_cells.specs.declared.ask.Ask.{Ask}
use Rattle.match_cells.specs.declared.ask.Side.{Side}
use Rattle.match_cells.specs.Asks.{met, missed}
use Rattle.match_cells.specs.Moves.{Show, AreMembers}

pub continues-more : (a b c : Past) → Continues a b → Continues b c → Continues a c
continues-more a b c h g = record { first = g.first ∙ h.first; longer = omega (arith, h.longer, g.longer); same = λ r l. g.same r (omega (arith, l, h.longer)) ∙ h.same r l }

same-term : (m : ℕ) (k : ℕ) (b : Bool) → m ≡ k → ◌≡◌ {A = ℕ} (cond ((m == k) && not b) 1 0) (cond b 0 1)
same-term m k true e = rw (eq-eqb m k e) refl
same-term m k false e = rw (eq-eqb m k e) refl

other-term : (m : ℕ) (k : ℕ) (b : Bool) → k ≢ m → ◌≡◌ {A = ℕ} (cond ((m == k) && not b) 1 0) 0
other-term m k b n = rw (false_from_ne_true (m == k) (λ t. n (sym (eqb-true m k t)))) refl

module _ (asks : List Ask) (i : ℕ) (d : Ask) (inside : i < length asks) where
  missed-more : (side : Side) (k : ℕ) → missed side k (take (i + 1) asks) ≡ missed side k (take i asks) + cond (((get_or asks i d).id == k) && not (met side (get_or asks i d))) 1 0
  missed-more side k = sum_by_more (λ a. cond ((a.id == k) && not (met side a)) 1 0) asks i d inside

  pub lost-more : (lost first : List ℕ) (v : ℕ) (from to : Side) → (get_or asks i d).id < length lost → v + cond (met from (get_or asks i d)) 0 1 ≡ get_or lost (get_or asks i d).id 0 + cond (met to (get_or asks i d)) 0 1
      → ((k : ℕ) → get_or lost k 0 + missed from k (take i asks) ≡ get_or first k 0 + missed to k (take i asks))
      → (k : ℕ) → get_or (set lost (get_or asks i d).id v) k 0 + missed from k (take (i + 1) asks) ≡ get_or first k 0 + missed to k (take (i + 1) asks)
  lost-more lost first v from to l e h k =
      let a = get_or asks i d in
      elim (cases_eq k a.id) [
        | inl q ↦
            let g : get_or (set lost a.id v) k 0 ≡ v = ap (λ z. get_or (set lost a.id v) z 0) q ∙ get_or-set_same lost a.id v 0 l in
            let o : get_or lost k 0 ≡ get_or lost a.id 0 = ap (λ z. get_or lost z 0) q in
            omega (arith, g, o, e, h k, missed-more from k, missed-more to k, same-term a.id k (met from a) (sym q), same-term a.id k (met to a) (sym q))
        | inr n ↦
            let g : get_or (set lost a.id v) k 0 ≡ get_or lost k 0 = get_or-set_other lost a.id k v 0 n in
            omega (arith, g, h k, missed-more from k, missed-more to k, other-term a.id k (met from a) n, other-term a.id k (met to a) n)
      ]

  pub show-more : (lost first : List ℕ) (v : ℕ) (is : Bool) (begun old new : Past) → (get_or asks i d).id < length lost → (is ≡ true ↔ v ≡ 0) → IsPut (get_or asks i d).id is old new
      → ((members : ℕ → Bool) → AreMembers members asks → Show members first (present begun) → Show members lost (present old))
      → (members : ℕ → Bool) → AreMembers members asks → Show members first (present begun) → Show members (set lost (get_or asks i d).id v) (present new)
  show-more lost first v is begun old new l e p h members m s k =
      let a = get_or asks i d in
      let was = h members m s k in
      elim (cases_eq k a.id) [
        | inl q ↦
            let g : get_or (set lost a.id v) k 0 ≡ v = ap (λ z. get_or (set lost a.id v) z 0) q ∙ get_or-set_same lost a.id v 0 l in (
              λ b. (ap members q ∙ m d i inside, g ∙ e.0 (sym p.there ∙ eq-eqb (bit (present new) a.id) 1 (ap (bit (present new)) (sym q) ∙ b))),
              λ b. ap (bit (present new)) q ∙ eqb-true (bit (present new) a.id) 1 (p.there ∙ e.1 (sym g ∙ b.1)),
            )
        | inr n ↦
            let g : get_or (set lost a.id v) k 0 ≡ get_or lost k 0 = get_or-set_other lost a.id k v 0 n in
            let o = p.others k n in
            (λ b. let w = was.0 (sym o ∙ b) in (w.0, g ∙ w.1), λ b. o ∙ was.1 (b.0, sym g ∙ b.1))
      ]
