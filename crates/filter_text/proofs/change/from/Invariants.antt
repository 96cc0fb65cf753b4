use Rattle.std.proofs.Common.{◌≡◌, drop}
use Rattle.filter_text.specs.Changes.{from}
use Rattle.filter_text.proofs.change.from.Given as goal

abbrev pub invariant-loop-i : goal.invariant-loop-i
invariant-loop-i g l = from g.L.Listed.order l.least (drop l.i l.lists) ≡ from g.L.Listed.order l.least l.lists
