-- Defines the counts of members of lists.
use Rattle.std.specs.Prelude.{ℕ, List, length}
use Rattle.base.specs.Numbers.{sum_over}

abbrev pub total : {A : Type 0} → List (List A) → ℕ
total lists = sum_over length lists
