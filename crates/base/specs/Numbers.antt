-- Defines lists of numbers without repeats, and sums over lists.
use Rattle.std.specs.Prelude.{ℕ, ◌+◌, Bool, cond, List, [], ◌∷◌}
use Rattle.base.specs.Sets.{Has}

-- no number stands twice
abbrev pub IsDistinct : List ℕ → Type 0
IsDistinct [] = Unit {0}
IsDistinct (x ∷ xs) = (Has x xs → ⊥) × IsDistinct xs

-- the sum of a quantity over a list
abbrev pub sum_over : {T : Type 0} → (T → ℕ) → List T → ℕ
sum_over quantity [] = 0
sum_over quantity (x ∷ xs) = quantity x + sum_over quantity xs

-- 1 where a test holds, else 0
abbrev pub count : Bool → ℕ
count holds = cond holds 1 0
