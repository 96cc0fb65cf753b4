use Rattle.net_turns.proofs.retelling.retold.Given as goal

abbrev pub invariant-loop-entry : goal.invariant-loop-entry
invariant-loop-entry g l = g.N.Turning.telling.IsRetoldTo l.entry-index (g.N.Turning.seen l.fn.network).net l.journal (g.N.Turning.seen l.network) l.told.items
