use Rattle.std.proofs.Common.{drop}
use Rattle.match_filters.proofs.Satisfied.{Walked}
use Rattle.match_filters.proofs.count.find.Given as goal

abbrev pub invariant-loop-name : goal.invariant-loop-name
invariant-loop-name l = Walked l.name-items (drop l.name-index l.name-items) l.index.texts l.found.items
