use Rattle.base_bits.proofs.Lists.{IsListedUpTo}
use Rattle.base_bits.proofs.listing.listed.Given as goal

abbrev pub invariant-loop-k : goal.invariant-loop-k
invariant-loop-k l = IsListedUpTo l.words l.k l.list.items
