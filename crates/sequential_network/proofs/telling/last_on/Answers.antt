use Rattle.std.proofs.Common.{slice_index_or, ◌∙◌}
use Rattle.sequential_network.specs.Links.{messages_at}
use Rattle.sequential_network.proofs.Last.{index-has, told_none, told_more, told_all}
use Rattle.sequential_network.proofs.telling.last_on.Goals as goal

pub loop-to-init : goal.loop-to-init
loop-to-init c = told_none (messages_at c.args.links.now) c.args.server c.args.outs.now c.in_ok-told.told.items c.in_ok-told.ensures.items

pub last_sent-requires : goal.last_sent-requires
last_sent-requires c = record {
  small = c.requires.small (slice_index_or c.args.outs.now c.loop-to.to-index 0) (index-has c.args.outs.now c.loop-to.to-index c.loop-to-test.true);
  run = c.requires.run (slice_index_or c.args.outs.now c.loop-to.to-index 0);
}

pub loop-to-preserved : goal.loop-to-preserved
loop-to-preserved c = told_more c.loop-to.to-index (messages_at c.args.links.now) c.args.server c.args.outs.now c.loop-to.told.items c.push.new.self.items c.in_ok-sent.sent c.loop-to-test.true
    c.in_ok-sent.ensures c.in_ok-push.ensures.items c.loop-to.invariant

pub returns : goal.returns
returns c = λ sent lies. c.of.ensures ∙ told_all c.loop-to.to-index (messages_at c.args.links.now) c.args.server c.args.outs.now c.loop-to.told.items c.loop-to.auto.to-index-end c.loop-to-test.false c.loop-to.invariant sent lies
