use Rattle.std.proofs.Common.{◌≡◌}
use Rattle.net_turns.proofs.walking.walk_phase.Given as goal

abbrev pub invariant-loop-phase : goal.invariant-loop-phase
invariant-loop-phase g l =
    let w = g.N.Turning.walking in
    let at = g.N.Turning.seen in
    record {
      walked : w.IsWalkedTo l.phase (at l.fn.network) (at l.network);
      same : (at l.network) ≡ (at l.fn.network);
      empty : w.AreEmpty (at l.fn.network) l.phase;
    }
