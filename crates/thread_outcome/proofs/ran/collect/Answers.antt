use Rattle.std.proofs.Common.{◌≡◌, List, sym, subst, ◌∙◌}
use Rattle.std.specs.Prelude.{Bool, Result, Ok, Err, IfOk}
use Rattle.net_journal.specs.Journal.{JournalParts}
use Rattle.net_model.specs.Nets.{of_clients}
use Rattle.net_model.specs.Parts.{NetParts, EntryParts}
use Rattle.net_turns.specs.Network.{received_by, refused_by}
use Rattle.net_journal.specs.Merging.{AreServerJournals, IsMergeOf}
use Rattle.net_journal.specs.declared.ran.Ran.{Ran}
use Rattle.thread_cell.specs.Cell.{CellParts}
use Rattle.thread_outcome.specs.Outcome.{IsEndOf, IsRanBy, IsWholeMerge}
use Rattle.thread_outcome.proofs.Parts.{each-of}
use Rattle.thread_outcome.proofs.ran.collect.Goals as goal

ran-of : {E : Type 0} (net : NetParts) (cells : List CellParts) (entries : List EntryParts) (r : Result Ran E) → IsWholeMerge net cells entries → IfOk r (λ ran. ran.journal.entries ≡ entries)
    → IfOk r (λ ran. ran.refused.items ≡ of_clients net (refused_by net ran.journal.entries)) → IfOk r (λ ran. ran.received.items ≡ of_clients net (received_by net ran.journal.entries)) → IfOk r (IsRanBy net cells)
ran-of net cells entries (Ok ran) whole same refused received = record { whole = subst (IsWholeMerge net cells) (sym same) whole; refused = refused; received = received }
ran-of net cells entries (Err e) whole same refused received = tt

kept-of : {E : Type 0} (kept keeps : Bool) (r : Result Ran E) → kept ≡ keeps → IfOk r (λ ran. ran.journal.kept ≡ kept) → IfOk r (λ ran. ran.journal.kept ≡ keeps)
kept-of kept keeps (Ok ran) e same = same ∙ e
kept-of kept keeps (Err f) e same = tt

pub merged-requires-clause-servers : goal.merged-requires-clause-servers
merged-requires-clause-servers g c =
    let s = c.requires.stand in
    subst AreServerJournals (sym c.in_ok-cores.ensures.journals) (c.lemma_whole_run.ensures.journals c.args.net.now s.0 s.1 c.args.cells.items s.2)

pub merged-requires-clause-kept : goal.merged-requires-clause-kept
merged-requires-clause-kept g c = each-of (λ (j : JournalParts). j.kept) c.in_ok-cores.field-0.journals.items _ c.args.keeps c.in_ok-cores.ensures.kept c.requires.keeps

pub leave-requires : goal.leave-requires
leave-requires g c =
    let s = c.requires.stand in
    let entries = c.in_ok-journal.journal.entries in
    let whole = c.lemma_whole_run.ensures.whole c.args.net.now s.0 s.1 c.args.cells.items entries s.3 s.2 c.requires.through
    (subst (λ js. IsMergeOf js entries) c.in_ok-cores.ensures.journals c.in_ok-journal.ensures.merge) in
    subst (λ cores. IsEndOf c.args.net.now cores entries) (sym c.in_ok-cores.ensures.cores) whole.ends

pub returns-clause-ran : goal.returns-clause-ran
returns-clause-ran g c =
    let s = c.requires.stand in
    let entries = c.in_ok-journal.journal.entries in
    let whole = c.lemma_whole_run.ensures.whole c.args.net.now s.0 s.1 c.args.cells.items entries s.3 s.2 c.requires.through
    (subst (λ js. IsMergeOf js entries) c.in_ok-cores.ensures.journals c.in_ok-journal.ensures.merge) in
    ran-of c.args.net.now c.args.cells.items entries c.leave.result whole c.leave.ensures.entries c.leave.ensures.refused c.leave.ensures.received

pub returns-clause-kept : goal.returns-clause-kept
returns-clause-kept g c = kept-of c.in_ok-journal.journal.kept c.args.keeps c.leave.result c.in_ok-journal.ensures.kept c.leave.ensures.kept
