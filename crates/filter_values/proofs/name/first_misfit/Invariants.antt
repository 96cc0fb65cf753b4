use Rattle.std.proofs.Common.{ℕ, ◌<◌, get_or}
use Rattle.filter_values.specs.Name.{FitsNameAt}
use Rattle.filter_values.proofs.name.first_misfit.Given as goal

-- each byte so far fits its place
abbrev pub invariant-loop-i : goal.invariant-loop-i
invariant-loop-i l = (k : ℕ) → k < l.i → FitsNameAt k (get_or l.bytes k 0)
