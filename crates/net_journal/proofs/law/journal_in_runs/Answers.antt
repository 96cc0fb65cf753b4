use Rattle.net_journal.proofs.Runs.{journal-seen, seen-journal}
use Rattle.net_journal.proofs.law.journal_in_runs.Goals as goal

pub returns : goal.returns
returns c = λ net server entries. (seen-journal net server entries, journal-seen net server entries)
