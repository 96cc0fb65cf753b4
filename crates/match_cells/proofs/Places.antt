-- What is missed in the cell of a value is what the value misses.
use Rattle.std.proofs.Common.{◌≡◌, ◌∙◌, ℕ, zero, suc, ◌+◌, ◌*◌, ◌<◌, true, false, List, [], ◌∷◌, length, get_or, refl, sym, ap, ap₂, subst, inl, inr, ◌≤◌, arith}
use Rattle.std.specs.Cmp.{IsTotalOrder}
use Rattle.std.proofs.lemmas.Bool.{cases_eq, false≢true}
use Rattle.std.specs.declared.cmp.Ordering.{Ordering}
use Rattle.std.specs.declared.cmp.Ordering.TheVariants.{Less, Equal, Greater}
use Rattle.std.specs.Ordering.{is_lt, is_eq, is_gt}
use Rattle.match_cells.specs.Asks.{missed}
use Rattle.match_cells.specs.Cells.{Groups, lost_in}
use Rattle.match_cells.specs.Places.{side_of, AreRising, IsCell, missed_by}
use Rattle.match_index.proofs.Orders.{greater-is}
use Rattle.base.proofs.Bools.{is_eq-equal, is_lt-less}

module _ {K : Type 0} (order : K → K → Ordering) (x : K) where
  -- without the first operand
  from-zero : (u : K) (us : List K) (cell : ℕ) → cell < 2 → IsCell order x (u ∷ us) cell → IsCell order x us 0
  from-zero u us cell l is =
      record {
        before = λ d k m n. absurd (omega arith);
        there = λ d k m n. absurd (omega arith);
        behind = λ d k m n. is.behind d (suc k) (omega arith) (omega arith);
      }

  from-two : (u : K) (us : List K) (cell : ℕ) → IsCell order x (u ∷ us) (suc (suc cell)) → IsCell order x us cell
  from-two u us cell is =
      record {
        before = λ d k m n. is.before d (suc k) (omega arith) (omega arith);
        there = λ d k m n. is.there d (suc k) (omega arith) (omega arith);
        behind = λ d k m n. is.behind d (suc k) (omega arith) (omega arith);
      }

  pub cell-misses : (k : ℕ) (cuts : List K) (groups : Groups) (cell : ℕ) → length cuts ≡ length groups → IsCell order x cuts cell → lost_in k groups cell ≡ missed_by order x k cuts groups
  cell-misses k [] [] cell e is = refl
  cell-misses k [] (g ∷ gs) cell e is = absurd (omega arith)
  cell-misses k (u ∷ us) [] cell e is = absurd (omega arith)
  cell-misses k (u ∷ us) (g ∷ gs) zero e is =
      ap₂ ◌+◌ (ap (λ o. missed (side_of o) k g.items) (sym (greater-is (order u x) (is.behind u 0 (omega arith) (omega arith))))) (cell-misses k us gs zero (omega arith) (from-zero u us zero (omega arith) is))
  cell-misses k (u ∷ us) (g ∷ gs) (suc zero) e is =
      ap₂ ◌+◌ (ap (λ o. missed (side_of o) k g.items) (sym (is_eq-equal (order u x) (is.there u 0 (omega arith) (omega arith))))) (cell-misses k us gs zero (omega arith) (from-zero u us 1 (omega arith) is))
  cell-misses k (u ∷ us) (g ∷ gs) (suc (suc cell)) e is =
      ap₂ ◌+◌ (ap (λ o. missed (side_of o) k g.items) (sym (is_lt-less (order u x) (is.before u 0 (omega arith) (omega arith))))) (cell-misses k us gs cell (omega arith) (from-two u us cell is))

module _ {K : Type 0} {order : K → K → Ordering} (total : IsTotalOrder order) (exact : (x y : K) → order x y ≡ Equal → x ≡ y) (x : K) (cuts : List K) where
  -- an operand that isn't less than a value, nor the same, is greater, and the later ones are
  later : (d : K) (p k : ℕ) → AreRising order cuts → k < length cuts → p < k → is_lt (order (get_or cuts p d) x) ≡ false → is_lt (order (get_or cuts k d) x) ≡ false → is_gt (order (get_or cuts k d) x) ≡ true
  later d p k rising l m h g = go (order (get_or cuts k d) x) refl
    where
      go : (o : Ordering) → order (get_or cuts k d) x ≡ o → is_gt o ≡ true
      go Less e = absurd (false≢true (sym g ∙ ap is_lt e))
      go Equal e = absurd (false≢true (sym h ∙ (ap (λ y. is_lt (order (get_or cuts p d) y)) (sym (exact (get_or cuts k d) x e)) ∙ rising d p k m l)))
      go Greater e = refl

  here : (u : K) → is_lt (order u x) ≡ false → is_eq (order u x) ≡ false → is_gt (order u x) ≡ true
  here u h e = go (order u x) h e
    where
      go : (o : Ordering) → is_lt o ≡ false → is_eq o ≡ false → is_gt o ≡ true
      go Less a b = absurd (false≢true (sym a))
      go Equal a b = absurd (false≢true (sym b))
      go Greater a b = refl

  pub between : (p : ℕ) → p < length cuts → AreRising order cuts → ((d : K) (k : ℕ) → k < p → is_lt (order (get_or cuts k d) x) ≡ true) → ((d : K) (k : ℕ) → p ≤ k → k < length cuts → is_lt (order (get_or cuts k d) x) ≡ false)
      → ((d : K) → is_eq (order (get_or cuts p d) x) ≡ false) → IsCell order x cuts (2 * p)
  between p l rising before behind other =
      record {
        before = λ d k m n. before d k (omega arith);
        there = λ d k m n. absurd (omega arith);
        behind = λ d k m n. elim (cases_eq k p) [
          | inl e ↦ subst (λ (z : ℕ). is_gt (order (get_or cuts z d) x) ≡ true) (sym e) (here (get_or cuts p d) (behind d p (omega arith) l) (other d))
          | inr e ↦ later d p k rising m (omega (arith, n, e)) (behind d p (omega arith) l) (behind d k (omega (arith, n)) m)
        ];
      }
