use Rattle.std.proofs.Common.{◌≡◌, length, map}
use Rattle.net_journal.specs.Merging.{AreServerJournals}
use Rattle.test_model.proofs.merging.journals.Given as goal

-- the journals so far, of the servers up to this place
abbrev pub invariant-loop-place : goal.invariant-loop-place
invariant-loop-place l =
    AreServerJournals (map (λ entries. entries.items) l.all.items) × (length (map (λ entries. entries.items) l.all.items) ≡ l.place)
