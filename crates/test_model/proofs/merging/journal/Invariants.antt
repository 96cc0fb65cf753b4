use Rattle.std.proofs.Common.{◌+◌}
use Rattle.net_journal.specs.Merging.{IsJournalOf}
use Rattle.test_model.proofs.Pushing.{AllBelow}
use Rattle.test_model.proofs.merging.journal.Given as goal

-- a journal so far, and the next stamp is above all
abbrev pub invariant-loop-more : goal.invariant-loop-more
invariant-loop-more l = IsJournalOf l.server l.entries.items × AllBelow (l.first + l.more) l.entries.items
