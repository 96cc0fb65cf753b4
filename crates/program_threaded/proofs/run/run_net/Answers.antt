use Rattle.std.proofs.Common.{subst}
use Rattle.std.specs.Prelude.{Result, Ok, Err, IfOk}
use Rattle.net_model.specs.Parts.{NetParts}
use Rattle.thread_outcome.specs.Outcome.{IsRanBy, journals_by}
use Rattle.program_threaded.specs.Runs.{IsThreaded}
use Rattle.program_threaded.proofs.Ordered.{by-stamp}
use Rattle.program_threaded.proofs.run.run_net.Goals as goal

if-ok : {T E : Type 0} (r : Result T E) (P Q : T → Type 0) → ((x : T) → P x → Q x) → IfOk r P → IfOk r Q
if-ok (Ok x) P Q f p = f x p
if-ok (Err e) P Q f p = tt

pub returns-in-Ok-clause-run : goal.returns-in-Ok-clause-run
returns-in-Ok-clause-run g c =
    subst (λ (n : NetParts). IfOk c.collect.result (IsThreaded n)) c.in_ok-tables.ensures
    (if-ok c.collect.result (IsRanBy c.in_ok-tables.tables c.run_phases.new.cells.items) (IsThreaded c.in_ok-tables.tables)
    (λ ran r. record {
      legal = r.whole.legal;
      drained = r.whole.drained;
      order = by-stamp c.in_ok-tables.tables (journals_by c.run_phases.new.cells.items) ran.journal.entries r.whole.merge;
      refused = r.refused;
      received = r.received;
    })
    (subst (λ z. IfOk c.collect.result (IsRanBy z c.run_phases.new.cells.items)) c.net.ensures c.collect.ensures.ran))
