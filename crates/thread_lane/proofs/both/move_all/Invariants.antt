use Rattle.std.proofs.Common.{◌≡◌, ◌++◌, ◌+◌, ◌≤◌, ℕ, [], length, drop, take}
use Rattle.std.specs.VecDeque.{deque_len, deque_capacity}
use mathlib.Core.List.{IsPrefix}
use Rattle.rtrb.specs.Ring.{sent, received, known_items, producer_capacity, IsPair, SameProducer, SameConsumer}
use Rattle.thread_lane.proofs.both.move_all.Given as goal

abbrev pub invariant-loop-producer : goal.invariant-loop-producer
invariant-loop-producer g l = record {
  pair : IsPair l.producer l.consumer;
  same : SameProducer l.fn.producer l.producer × SameConsumer l.fn.consumer l.consumer;
  places : producer_capacity l.producer ≡ 256;
  put : sent l.producer ++ l.outbox.items ≡ sent l.fn.producer ++ l.fn.outbox.items;
  moved : IsPrefix (sent l.fn.producer) (sent l.producer) × (deque_capacity l.outbox ≡ deque_capacity l.fn.outbox);
  count : length (sent l.producer) ≡ length (sent l.fn.producer) + l.pushed;
  left : deque_len l.outbox + l.pushed ≡ deque_len l.fn.outbox;
  drained : (known_items l.consumer ≡ []) × (received l.consumer ≡ sent l.producer);
  longer : length (received l.fn.consumer) ≤ length (received l.consumer);
  capacity : deque_capacity l.rest ≡ deque_capacity l.fn.rest;
  room : deque_len l.rest + deque_len l.outbox ≤ deque_capacity l.rest;
  rest : (n : ℕ) → n ≤ length (received l.fn.consumer) → drop n (received l.fn.consumer) ≡ l.fn.rest.items
      → (drop n (received l.consumer) ≡ l.rest.items) × (take n (received l.consumer) ≡ take n (received l.fn.consumer));
}

abbrev pub decreases-loop-producer : goal.decreases-loop-producer
decreases-loop-producer g l = deque_len l.outbox
