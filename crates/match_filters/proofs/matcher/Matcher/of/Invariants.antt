use Rattle.std.proofs.Common.{◌≡◌, take}
use Rattle.match_filters.proofs.matcher.Matcher.of.Given as goal

abbrev pub invariant-loop-filter : goal.invariant-loop-filter
invariant-loop-filter l = l.builder ≡ take l.filter-index l.filters
