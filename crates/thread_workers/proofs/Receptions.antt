-- What holds after a worker had the cell in hand, once it is put back.
use Rattle.std.proofs.Common.{◌≡◌, ℕ, List, sym, subst}
use Rattle.std.specs.Prelude.{Result, IfOk}
use mathlib.Core.List.{IsPrefix}
use Rattle.base_devices.specs.declared.gate.WorkerRole.{WorkerRole}
use Rattle.thread_lock.specs.declared.lock.Pass.{Pass}
use Rattle.thread_lock.specs.Passes.{IsSamePass, seen_by}
use Rattle.net_model.specs.Parts.{EntryParts}
use Rattle.server_core.specs.declared.stepped.StepFault.{StepFault}
use Rattle.thread_versions.specs.declared.viewer.Viewer.{Viewer}
use Rattle.thread_versions.specs.Ends.{IsSameViewer}
use Rattle.thread_cell.specs.declared.held.Root.{Root}
use Rattle.thread_workers.specs.declared.worker_handles.WorkerHandles.{WorkerHandles}
use Rattle.thread_workers.specs.declared.tried.Tried.{Tried}
use Rattle.thread_workers.specs.WorkerHandles.{AreLater, IsTried}
use Rattle.thread_workers.specs.Journals.{IsWornBy}
use Rattle.thread_workers.proofs.Later.{same-pass}
use Rattle.thread_workers.proofs.Lists.{prefix-along}

-- handles whose pass took the cell and put it back are the same ones later
pub put-later : (handles : WorkerHandles) (taken put : Pass EntryParts Root) (viewer : Viewer) (found journal : List EntryParts) → IsSamePass handles.pass taken → IsPrefix (seen_by handles.pass) found → IsSamePass taken put → IsPrefix found journal → seen_by put ≡ journal
    → IsSameViewer handles.viewer viewer → AreLater handles (record { pass = put; viewer = viewer })
put-later handles taken put viewer found journal s p t q e v = record { same = same-pass handles.pass taken put s t; seen = subst (IsPrefix (seen_by handles.pass)) (sym e) (prefix-along (seen_by handles.pass) found journal p q); viewer = v }

-- what was tried with the cell in hand holds of what the pass has seen since
pub tried-at : (worker : WorkerRole) (r : Result Tried StepFault) (root then : Root) (journal seen : List EntryParts) → then ≡ root → seen ≡ journal → IfOk r (λ tried. IsTried worker tried then journal) → IfOk r (λ tried. IsTried worker tried root seen)
tried-at worker r root then journal seen e f t = subst (λ z. IfOk r (λ tried. IsTried worker tried z seen)) e (subst (λ l. IfOk r (λ tried. IsTried worker tried then l)) (sym f) t)

-- and so does that no stamp is left
pub worn-at : (s : ℕ) (root then : Root) (journal seen : List EntryParts) → then ≡ root → seen ≡ journal → IsWornBy s then journal → IsWornBy s root seen
worn-at s root then journal seen e f w = subst (λ z. IsWornBy s z seen) e (subst (IsWornBy s then) (sym f) w)
