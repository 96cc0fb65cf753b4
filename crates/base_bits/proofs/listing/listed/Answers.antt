use Rattle.std.proofs.Common.{arith, rules}
use Rattle.base_bits.proofs.Lists.{listed-more, listed-all}
use Rattle.base_bits.proofs.listing.listed.Goals as goal

pub list_word-requires-clause-before : goal.list_word-requires-clause-before
list_word-requires-clause-before c i h = (c.loop-k.invariant.sound i h).0

pub loop-k-preserved : goal.loop-k-preserved
loop-k-preserved c =
    listed-more c.args.words.now c.loop-k.k c.loop-k.list.items c.loop-k.invariant (search (rules, c.type_inv.words)) c.list_word.new.list.items c.in_ok-list_word.ensures.rising
    c.in_ok-list_word.ensures.exact

pub returns-clause-exact : goal.returns-clause-exact
returns-clause-exact c = listed-all c.args.words.now c.loop-k.k c.loop-k.list.items c.loop-k.invariant (omega arith)
