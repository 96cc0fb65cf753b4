use Rattle.std.proofs.Common.{◌≡◌, ◌++◌, All}
use Rattle.output_patterns.specs.Watch.{IsSoundPattern}
use Rattle.output_patterns.proofs.searched.all_searched.Given as goal

abbrev pub invariant-loop-pattern : goal.invariant-loop-pattern
invariant-loop-pattern l = (l.all.items ++ l.pattern-iterator.rest.items ≡ l.fn.patterns.items) × All (IsSoundPattern l.clients) l.pattern-iterator.rest.items
