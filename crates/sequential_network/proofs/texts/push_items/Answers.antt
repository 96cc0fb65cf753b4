use Rattle.std.proofs.Common.{slice_index_or, ◌∙◌}
use Rattle.sequential_network.proofs.Last.{index-has}
use Rattle.sequential_network.proofs.Picked.{put-more}
use Rattle.sequential_network.proofs.texts.push_items.Goals as goal

pub at-requires : goal.at-requires
at-requires g c = c.requires (slice_index_or c.args.numbers.now c.loop-number.number-index 0) (index-has c.args.numbers.now c.loop-number.number-index c.loop-number-test.true)

pub loop-number-preserved : goal.loop-number-preserved
loop-number-preserved g c =
    put-more g.T.Changing.constraints c.args.sign c.args.items.now c.args.numbers.now c.loop-number.number-index c.at.result.now c.args.out.now.items c.loop-number.out.items c.push_signed.new.out.items c.deref.result.now c.loop-number-test.true
    c.at.ensures c.loop-number.invariant (c.deref.ensures.value ∙ c.in_ok-text.ensures) c.in_ok-push_signed.ensures
