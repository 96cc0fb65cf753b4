use Rattle.std.proofs.Common.{◌∙◌, ap}
use Rattle.base_bits.specs.Words.{bit}
use Rattle.base_bits.proofs.Bits.{zero-bits}
use Rattle.match_cells.proofs.cells.begin.Goals as goal

pub put_all-requires-clause-none : goal.put_all-requires-clause-none
put_all-requires-clause-none c k = ap (λ w. bit w k) (c.deref_mut.ensures.value ∙ c.in_ok-words.ensures.items_if_clones_equal (λ y e. e)) ∙ zero-bits c.args.span k
