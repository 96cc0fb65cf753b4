use Rattle.std.proofs.Common.{map}
use Rattle.net_journal.proofs.Runs.{merge-placed}
use Rattle.net_journal.proofs.records.Record.merged.Goals as goal

pub returns-clause-merge : goal.returns-clause-merge
returns-clause-merge c = λ net. merge-placed net (map (λ journal. journal.entries) c.args.journals.items) c.requires.servers
