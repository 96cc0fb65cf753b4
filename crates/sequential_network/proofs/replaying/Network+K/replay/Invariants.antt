use Rattle.net_turns.proofs.Replayed.{IsReplayedTo}
use Rattle.sequential_network.proofs.replaying.Network+K.replay.Given as goal

abbrev pub invariant-loop-line : goal.invariant-loop-line
invariant-loop-line g l = IsReplayedTo l.line-index l.turns l.fn.self l.self
