-- Lemmas on ranges of numbers, places in lists, and members.
use Rattle.std.proofs.Common.{ℕ, zero, suc, ◌+◌, ◌≤◌, Bool, true, false, cond, List, [], ◌∷◌, inl, inr, filter, arith}
use Rattle.std.specs.List.{range_with_len}
use Rattle.base.specs.Numbers.{IsDistinct}
use Rattle.base.proofs.Roots.{filter-Has}
use Rattle.base.proofs.Sets.{has-range-low}

-- each number stands once in a range
pub distinct-range : (a n : ℕ) → IsDistinct (range_with_len a n)
distinct-range a zero = tt
distinct-range a (suc n) = ((λ h. absurd (omega (arith, has-range-low (a + 1) n a h))), distinct-range (a + 1) n)

-- and in what passes a test of it
pub distinct-filter : (p : ℕ → Bool) (xs : List ℕ) → IsDistinct xs → IsDistinct (filter p xs)
distinct-filter p [] d = tt
distinct-filter p (x ∷ xs) d = go (p x) (distinct-filter p xs d.1)
  where
    go : (b : Bool) → IsDistinct (filter p xs) → IsDistinct (cond b (x ∷ filter p xs) (filter p xs))
    go true ih = ((λ h. d.0 (filter-Has p x xs h).0), ih)
    go false ih = ih
