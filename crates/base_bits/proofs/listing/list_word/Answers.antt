use Rattle.std.proofs.Common.{sym, subst, arith}
use Rattle.base_bits.proofs.Lists.{ListsTo, lists-first, lists-more, lists-all}
use Rattle.base_bits.proofs.listing.list_word.Goals as goal

pub loop-left-init : goal.loop-left-init
loop-left-init c = lists-first c.args.list.now.items c.args.place c.args.word (omega arith) c.requires.rising c.requires.before

pub loop-left-preserved : goal.loop-left-preserved
loop-left-preserved c =
    subst (ListsTo c.args.list.now.items c.args.place c.args.word _) (sym c.in_ok-push.ensures.items)
    (lists-more c.args.list.now.items c.args.place c.args.word c.loop-left.left c.loop-left.list.items c.loop-left.invariant (omega arith))

pub returns-clause-exact : goal.returns-clause-exact
returns-clause-exact c = lists-all c.args.list.now.items c.args.place c.args.word c.loop-left.left c.loop-left.list.items c.loop-left.invariant (omega arith)
