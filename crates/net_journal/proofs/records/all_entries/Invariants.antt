use Rattle.std.proofs.Common.{◌≡◌, true, map, All}
use Rattle.net_journal.proofs.records.all_entries.Given as goal

abbrev pub invariant-loop-journal : goal.invariant-loop-journal
invariant-loop-journal l =
    (map (λ entries. entries.items) l.all.items ≡ map (λ journal. journal.entries) l.yielded) × All (λ journal. journal.kept ≡ true) l.journal-iterator.rest.items
