use Rattle.std.proofs.Common.{◌≡◌, ◌≤◌, ◌+◌, ◌++◌, length}
use Rattle.std.specs.VecDeque.{deque_len, deque_capacity}
use mathlib.Core.List.{IsPrefix}
use Rattle.rtrb.specs.Ring.{sent, known_free, SameProducer}
use Rattle.thread_lane.proofs.putting.move_out.Given as goal

abbrev pub invariant-loop-producer : goal.invariant-loop-producer
invariant-loop-producer g l = record {
  same : SameProducer l.initial.producer l.producer;
  items : sent l.producer ++ l.outbox.items ≡ sent l.initial.producer ++ l.initial.outbox.items;
  moved : IsPrefix (sent l.initial.producer) (sent l.producer);
  count : length (sent l.producer) ≡ length (sent l.initial.producer) + l.moved;
  free : known_free l.initial.producer ≤ known_free l.producer + l.moved;
  capacity : deque_capacity l.outbox ≡ deque_capacity l.initial.outbox;
  none_full : l.fulls ≡ l.initial.fulls;
  left : deque_len l.outbox + l.moved ≡ deque_len l.initial.outbox;
}

abbrev pub decreases-loop-producer : goal.decreases-loop-producer
decreases-loop-producer g l = deque_len l.outbox
