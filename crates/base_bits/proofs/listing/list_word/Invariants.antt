use Rattle.base_bits.proofs.Lists.{ListsTo}
use Rattle.base_bits.proofs.listing.list_word.Given as goal

abbrev pub invariant-loop-left : goal.invariant-loop-left
invariant-loop-left l = ListsTo l.fn.list.items l.place l.word l.left l.list.items

abbrev pub decreases-loop-left : goal.decreases-loop-left
decreases-loop-left l = l.left
