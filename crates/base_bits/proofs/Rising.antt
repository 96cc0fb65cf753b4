-- Rising numbers by their places.
use Rattle.std.proofs.Common.{ℕ, zero, suc, ◌+◌, ◌<◌, ◌≤◌, nat_lt, List, [], ◌∷◌, length, get_or, arith}
use Rattle.std.specs.List.Sorted.{IsStrictlyIncreasing}
use Rattle.base.specs.Sets.{IsRising}
use Rattle.base.proofs.Sets.{get_or-has}
use Rattle.base.proofs.Numbers.{nat_lt-true}

pub rising-at : (xs : List ℕ) → IsRising nat_lt xs → (j k : ℕ) → j < k → k < length xs → get_or xs j 0 < get_or xs k 0
rising-at [] r j k l m = absurd (omega (arith, m))
rising-at (x ∷ xs) r j zero l m = absurd (omega (arith, l))
rising-at (x ∷ xs) r zero (suc k) l m = nat_lt-true x (get_or xs k 0) (r.0 (get_or xs k 0) (get_or-has xs k 0 (omega (arith, m))))
rising-at (x ∷ xs) r (suc j) (suc k) l m = rising-at xs r.1 j k (omega (arith, l)) (omega (arith, m))

pub climbs : (xs : List ℕ) → IsRising nat_lt xs → (j k : ℕ) → j ≤ k → k < length xs → get_or xs j 0 ≤ get_or xs k 0
climbs [] r j k l m = absurd (omega (arith, m))
climbs (x ∷ xs) r zero zero l m = omega arith
climbs (x ∷ xs) r zero (suc k) l m =
    let s : x < get_or xs k 0 = nat_lt-true x (get_or xs k 0) (r.0 (get_or xs k 0) (get_or-has xs k 0 (omega (arith, m)))) in
    omega (arith, s)
climbs (x ∷ xs) r (suc j) zero l m = absurd (omega (arith, l))
climbs (x ∷ xs) r (suc j) (suc k) l m = climbs xs r.1 j k (omega (arith, l)) (omega (arith, m))

pub rising-increasing : (xs : List ℕ) → IsRising nat_lt xs → IsStrictlyIncreasing xs
rising-increasing xs r k l = rising-at xs r k (k + 1) (omega arith) l
