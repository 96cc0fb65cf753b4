-- Defines how often a number was found.
use Rattle.std.specs.Prelude.{◌==◌, ℕ, List}
use Rattle.match_index.specs.Pairs.{tally}

abbrev pub hits_of : ℕ → List ℕ → ℕ
hits_of k found = tally (λ x. x == k) found
