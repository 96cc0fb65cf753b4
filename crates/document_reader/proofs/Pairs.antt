-- Proves that a new table of pairs has no pair.
use Rattle.std.proofs.Common.{◌≡◌, ℕ, zero, suc, List, [], get_or, replicate, refl}

abbrev zeros : ℕ → List ℕ
zeros n = replicate n 0

empty : (k : ℕ) → ◌≡◌ {A = ℕ} (get_or [] k 0) 0
empty zero = refl
empty (suc k) = refl

pub none_there : (n k : ℕ) → ◌≡◌ {A = ℕ} (get_or (zeros n) k 0) 0
none_there zero k = empty k
none_there (suc n) zero = refl
none_there (suc n) (suc k) = none_there n k
