use Rattle.std.proofs.Common.{◌≡◌, map}
use Rattle.std.specs.List.{range_with_len}
use Rattle.net_turns.specs.Network.{refused_by}
use Rattle.thread_outcome.proofs.ran.refused.Given as goal

abbrev pub invariant-loop-place : goal.invariant-loop-place
invariant-loop-place l = l.lists.items ≡ map (refused_by l.end.net.now l.end.journal.now.entries) (range_with_len 1 l.place)
