use Rattle.std.proofs.Common.{◌<◌, ◌^◌, length, arith}
use Rattle.thread_lane.specs.Lane.{put_list, spare}
use Rattle.thread_cell.proofs.HandAll.{handed-by, handing-more, handing-at, handing-end, handing-has}
use Rattle.thread_cell.proofs.link.hand_all.Goals as goal

pub put_first-requires-clause-room : goal.put_first-requires-clause-room
put_first-requires-clause-room c = handing-at c.requires.net.0 (λ link. 0 < spare link.enter) _ _ _ _ _ _ _ (omega arith) (c.loop-link.invariant c.requires.net.0 c.requires.net.1) c.requires.room

pub put_first-requires-clause-few : goal.put_first-requires-clause-few
put_first-requires-clause-few c = handing-at c.requires.net.0 (λ link. length (put_list link.enter) < 2 ^ 63) _ _ _ _ _ _ _ (omega arith) (c.loop-link.invariant c.requires.net.0 c.requires.net.1) c.requires.few

pub loop-link-preserved : goal.loop-link-preserved
loop-link-preserved c net of =
    let p = c.put_first.ensures.put net (λ s h. of s (handing-has net _ _ _ _ _ _ (c.loop-link.invariant net of) s h)) in
    handing-more net _ _ _ _ _ _ _ _ _ (omega arith) (c.loop-link.invariant net of)
    (handed-by _ c.put_first.new.self c.flush.new.self p c.flush.ensures.same.0 c.flush.ensures.put c.flush.ensures.done c.flush.ensures.mark)
    c.put_first.ensures.rest

pub returns : goal.returns
returns c net of = handing-end net _ _ _ _ _ _ (omega arith) c.requires.distinct c.requires.order (c.loop-link.invariant net of)
