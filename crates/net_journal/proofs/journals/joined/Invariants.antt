use Rattle.std.proofs.Common.{◌≡◌}
use Rattle.std.specs.List.{flat_map}
use Rattle.net_journal.proofs.journals.joined.Given as goal

-- the journals so far, one after the other
abbrev pub invariant-loop-journal : goal.invariant-loop-journal
invariant-loop-journal l = l.entries.items ≡ flat_map (λ journal. journal.items) l.yielded
