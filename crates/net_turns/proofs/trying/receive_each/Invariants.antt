use Rattle.std.proofs.Common.{ℕ, drop}
use Rattle.net_turns.specs.Network.{IsLater}
use Rattle.net_turns.specs.Trying.{receptions}
use Rattle.net_turns.proofs.trying.receive_each.Given as goal

abbrev pub invariant-loop-from : goal.invariant-loop-from
invariant-loop-from g l =
    let t = g.N.Turning.trying in
    let at = g.N.Turning.seen in
    record {
      later : IsLater (at l.fn.network) (at l.network);
      way : (phase : ℕ) → t.Going phase (receptions l.server l.neighbours) (receptions l.server (drop l.from-index l.neighbours)) (at l.fn.network) (at l.network);
    }
