use Rattle.std.proofs.Common.{◌≡◌, drop}
use Rattle.filter_text.specs.Changes.{apart}
use Rattle.filter_text.proofs.change.apart.Given as goal

abbrev pub invariant-loop-list : goal.invariant-loop-list
invariant-loop-list g l = apart g.L.Listed.order l.rest (drop l.list-index l.add) ≡ apart g.L.Listed.order l.out l.add
