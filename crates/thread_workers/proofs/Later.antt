-- What a worker's handles keep from one try to the next.
use Rattle.std.specs.Prelude.{Err, IsErrOf}
use Rattle.std.proofs.Common.{◌≡◌, refl, ap, ◌∙◌}
use Rattle.thread_lock.specs.declared.lock.Pass.{Pass}
use Rattle.thread_lock.specs.Passes.{IsSamePass, seen_by}
use Rattle.thread_versions.specs.declared.viewer.Viewer.{Viewer}
use Rattle.thread_versions.specs.Ends.{IsSameViewer}
use Rattle.server_core.specs.declared.stepped.StepFault.{StepFault}
use Rattle.thread_workers.specs.declared.worker_handles.WorkerHandles.{WorkerHandles}
use Rattle.thread_workers.specs.WorkerHandles.{AreLater}
use Rattle.thread_workers.proofs.Lists.{prefix-of, prefix-along}

pub same-pass : {I R : Type 0} (p q r : Pass I R) → IsSamePass p q → IsSamePass q r → IsSamePass p r
same-pass p q r a b = (b.0 ∙ a.0, b.1 ∙ a.1, b.2 ∙ a.2)

pub same-viewer : (u v w : Viewer) → IsSameViewer u v → IsSameViewer v w → IsSameViewer u w
same-viewer u v w a b = record { book = b.book ∙ a.book; width = b.width ∙ a.width }

pub later-along : (a b c : WorkerHandles) → AreLater a b → AreLater b c → AreLater a c
later-along a b c p q = record {
  same = same-pass a.pass b.pass c.pass p.same q.same;
  seen = prefix-along (seen_by a.pass) (seen_by b.pass) (seen_by c.pass) p.seen q.seen;
  viewer = same-viewer a.viewer b.viewer c.viewer p.viewer q.viewer;
}

pub later-same : (a : WorkerHandles) → AreLater a a
later-same a = record { same = (refl, refl, refl); seen = prefix-of (seen_by a.pass) (seen_by a.pass) refl; viewer = record { book = refl; width = refl } }

-- a fault is the same one, whatever it stands in the place of
pub same-fault : {T U : Type 0} (e f : StepFault) → IsErrOf {T = T} (Err e) f → IsErrOf {T = U} (Err e) f
same-fault {T} {U} e f r = let q : e ≡ f = cc in ap (λ z. Err z) q
