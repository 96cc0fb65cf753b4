use Rattle.std.proofs.Common.{ap, ◌∙◌}
use Rattle.net_journal.specs.Record.{RecordParts}
use Rattle.program_sequential.proofs.HierarchyRuns.{ran-from}
use Rattle.program_sequential.proofs.hierarchy.walked_over.Goals as goal

pub returns-clause-ran : goal.returns-clause-ran
returns-clause-ran g c =
    ran-from c.args.tables.now c.in_ok-network.network c.walk.new.self
    (record { journal = c.of.result; refused = c.in_ok-refused.refused; received = c.in_ok-journal.received })
    c.in_ok-network.ensures c.in_ok-walk.ensures.walked c.made.ensures.legal (ap (λ (r : RecordParts). r.entries) c.of.ensures ∙ c.in_ok-journal.ensures.journal) c.in_ok-refused.ensures
    c.in_ok-journal.ensures.received
