use Rattle.std.proofs.Common.{◌≡◌, ◌≤◌, length, map, take, vec_capacity}
use Rattle.thread_cell.proofs.step.receivers.Given as goal

abbrev pub invariant-loop-s : goal.invariant-loop-s
invariant-loop-s l = record {
  written : l.outs.items ≡ map (λ s. s.to) (take l.s-index l.sent);
  room : length l.sent ≤ vec_capacity l.outs;
}
