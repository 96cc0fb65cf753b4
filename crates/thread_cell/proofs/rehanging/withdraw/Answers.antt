use Rattle.std.proofs.Common.{get_or, ◌∙◌}
use Rattle.std.proofs.lemmas.Option.{slice_get-get_or}
use Rattle.thread_cell.specs.Relinking.{takes}
use Rattle.thread_cell.proofs.HandOver.{known-later}
use Rattle.thread_cell.proofs.WithdrawAll.{one-more-change}
use Rattle.thread_cell.proofs.Shown.{same-on}
use Rattle.thread_cell.proofs.rehanging.withdraw.Goals as goal
use Rattle.base.proofs.Sets.{get-has}

pub hand-requires-clause-known : goal.hand-requires-clause-known
hand-requires-clause-known c =
    let x = get_or c.args.numbers.now c.loop-number.number-index 0 in
    let at = slice_get-get_or c.args.numbers.now c.loop-number.number-index 0 c.loop-number-test.true in
    known-later c.args.publisher.now c.loop-number.publisher (takes c.args.link x) c.loop-number.invariant.same (c.requires.known x (get-has c.args.numbers.now c.loop-number.number-index x at))

pub loop-number-preserved : goal.loop-number-preserved
loop-number-preserved c =
    let x = get_or c.args.numbers.now c.loop-number.number-index 0 in
    let at = slice_get-get_or c.args.numbers.now c.loop-number.number-index 0 c.loop-number-test.true in
    record {
      same = same-on c.args.publisher.now c.loop-number.publisher c.hand.new.publisher c.loop-number.invariant.same c.hand.ensures.same.0;
      shown = c.hand.ensures.same.1 ∙ c.loop-number.invariant.shown;
      kept = c.hand.ensures.handed;
      more = one-more-change (takes c.args.link) c.args.numbers.now c.args.handed.now.items c.loop-number.handed.items c.hand.new.handed.items c.loop-number.number-index x at c.in_ok-hand.ensures.more c.loop-number.invariant.more;
    }
