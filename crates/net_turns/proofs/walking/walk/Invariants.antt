use Rattle.net_turns.proofs.walking.walk.Given as goal

abbrev pub invariant-loop-phase : goal.invariant-loop-phase
invariant-loop-phase g l =
    let w = g.N.Turning.walking in
    let at = g.N.Turning.seen in
    w.IsWalkedTo l.phase (at l.fn.network) (at l.network)
