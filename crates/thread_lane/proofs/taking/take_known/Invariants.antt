use Rattle.std.proofs.Common.{◌≡◌, ◌++◌, ◌+◌, ◌≤◌, length}
use Rattle.std.specs.VecDeque.{deque_len, deque_capacity}
use Rattle.rtrb.specs.Ring.{received, known_items, SameConsumer}
use Rattle.thread_lane.proofs.taking.take_known.Given as goal

abbrev pub invariant-loop-rest : goal.invariant-loop-rest
invariant-loop-rest g l = record {
  same : SameConsumer l.initial.consumer l.consumer;
  capacity : deque_capacity l.rest ≡ deque_capacity l.initial.rest;
  room : deque_len l.rest + length (known_items l.consumer) ≤ deque_capacity l.rest;
  received : received l.consumer ++ known_items l.consumer ≡ received l.initial.consumer ++ known_items l.initial.consumer;
  rest : l.rest.items ++ known_items l.consumer ≡ l.initial.rest.items ++ known_items l.initial.consumer;
}

abbrev pub decreases-loop-rest : goal.decreases-loop-rest
decreases-loop-rest g l = length (known_items l.consumer)
