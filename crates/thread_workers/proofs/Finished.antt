-- What a worker gives back once it has finished.
use Rattle.std.proofs.Common.{◌∙◌}
use Rattle.base_devices.specs.declared.gate.WorkerRole.{WorkerRole}
use Rattle.thread_lock.specs.declared.lock.Pass.{Pass}
use Rattle.net_model.specs.Parts.{EntryParts}
use Rattle.thread_versions.specs.declared.viewer.Viewer.{Viewer}
use Rattle.thread_cell.specs.declared.held.Root.{Root}
use Rattle.thread_workers.specs.declared.ended.Ended.{Ended}
use Rattle.thread_workers.specs.declared.worker_handles.WorkerHandles.{WorkerHandles}
use Rattle.thread_workers.specs.ServerWorkers.{IsBack, at_lock}
use Rattle.thread_workers.specs.WorkerHandles.{CellLock, AreFreeHandles, AreHandles, lock_root}
use Rattle.thread_workers.specs.Work.{Keeps}
use Rattle.thread_workers.proofs.Later.{same-viewer}

-- what a worker gives back is as free as what it was given
free-back : (lock : CellLock) (pass : Pass EntryParts Root) (viewer : Viewer) (worker : WorkerRole) (ended : Ended) → AreFreeHandles lock pass viewer → Keeps worker pass viewer ended → AreFreeHandles lock ended.pass ended.viewer
free-back lock pass viewer worker ended f k = record { own = (k.same.0 ∙ f.own.0, k.same.1 ∙ f.own.1); free = k.free; viewer_is = same-viewer (lock_root lock).viewer.value viewer ended.viewer f.viewer_is k.viewer_is }

-- a worker that finished gave back what is to come back of it
pub is-back : (lock : CellLock) (worker : WorkerRole) (handles : WorkerHandles) (ended : Ended) → AreHandles lock handles → Keeps worker handles.pass handles.viewer ended → IsBack (at_lock lock worker) ended
is-back lock worker handles ended f k = (free-back lock handles.pass handles.viewer worker ended f k, k.ends (lock_root lock) f.own.1)
