use Rattle.match_filters.proofs.GoalLaws.{entered-none, entered-more}
use Rattle.match_filters.proofs.builder.enter.Goals as goal

pub loop-i-init : goal.loop-i-init
loop-i-init c = entered-none c.args.id c.args.index.now

pub loop-i-preserved : goal.loop-i-preserved
loop-i-preserved c = entered-more c.args.id c.loop-i.i c.args.constraints.now c.index-constraints-i.result c.args.index.now c.loop-i.index c.add.new.self c.loop-i-test.true c.index-constraints-i.is c.loop-i.invariant c.in_ok-add.ensures
