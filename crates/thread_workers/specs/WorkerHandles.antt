-- Defines what a worker has in its handles.
use Rattle.std.specs.Prelude.{◌≡◌, ◌<◌, ℕ, false, List, None, length}
use mathlib.Core.List.{IsPrefix}
use Rattle.base_devices.specs.declared.gate.WorkerRole.{WorkerRole}
use Rattle.base_devices.specs.declared.gate.WorkerRole.TheVariants.{Commands, Links}
use Rattle.thread_lock.specs.declared.lock.Pass.{Pass}
use Rattle.thread_lock.specs.declared.lock.TurnLock.{TurnLock}
use Rattle.thread_lock.specs.Passes.{IsPassOf, IsSamePass, first_value, has_in_hand, seen_by}
use Rattle.net_model.specs.Parts.{NetParts, EntryParts}
use Rattle.thread_versions.specs.declared.viewer.Viewer.{Viewer}
use Rattle.net_tables.specs.Known.{known_filters, known_publications}
use Rattle.thread_versions.specs.Ends.{IsAheadBy, IsSameViewer, width_of}
use Rattle.thread_cell.specs.declared.held.Root.{Root}
use Rattle.net_model.specs.declared.turn.Act.{Act}
use Rattle.net_model.specs.declared.turn.Act.TheVariants.{Command}
use Rattle.thread_cell.specs.Asked.{Suits}
use Rattle.thread_cell.specs.Cell.{CellParts}
use Rattle.thread_workers.specs.declared.worker_handles.WorkerHandles.{WorkerHandles}
use Rattle.thread_workers.specs.declared.tried.Tried.{Tried}
use Rattle.thread_workers.specs.declared.tried.Tried.TheVariants as tries
use Rattle.thread_workers.specs.declared.worker_state.WorkerState.{WorkerState}
use Rattle.thread_workers.specs.declared.worker_state.WorkerState.TheVariants.{Free, Matched, Ended}
use Rattle.thread_workers.specs.Work.{EndsWith}

abbrev pub CellLock : Type 0
CellLock = TurnLock CellParts Root EntryParts

-- what stays of the cell in a lock
abbrev pub lock_root : CellLock → Root
lock_root lock = (first_value lock).root

-- a lock is for the cell of this server of the net in this phase
pub record IsLockFor (net : NetParts) (server phase : ℕ) (lock : CellLock) : Type 0 where
  pub net_is : (lock_root lock).net.value ≡ net
  pub server_is : (lock_root lock).server ≡ server
  pub phase_is : (lock_root lock).phase ≡ phase

-- a pass of a lock with nothing in hand, and a viewer of its cell's publisher
pub record AreFreeHandles (lock : CellLock) (pass : Pass EntryParts Root) (viewer : Viewer) : Type 0 where
  pub own : IsPassOf (λ (c : CellParts). c.root) lock pass
  pub free : has_in_hand pass ≡ false
  pub viewer_is : IsSameViewer (lock_root lock).viewer.value viewer

-- the same of a worker's handles
abbrev pub AreHandles : CellLock → WorkerHandles → Type 0
AreHandles lock handles = AreFreeHandles lock handles.pass handles.viewer

-- the same handles later: the pass has seen at least what it had seen
pub record AreLater (old new : WorkerHandles) : Type 0 where
  pub same : IsSamePass old.pass new.pass
  pub seen : IsPrefix (seen_by old.pass) (seen_by new.pass)
  pub viewer : IsSameViewer old.viewer new.viewer

-- a viewer of the cell's publisher can match the publication with a number ahead: the net has it, and the viewer sees as many filters as the net has
abbrev pub CanMatch : Root → ℕ → Type 0
CanMatch root number = (number < length (known_publications 1 root.net.value.clients))
    × (width_of root.viewer.value ≡ length (known_filters root.net.value.clients))

-- a turn of the worker for commands is a command
abbrev pub IsOfWorker : WorkerRole → Act → Type 0
IsOfWorker Commands what = (client : ℕ) × (what ≡ Command client)
IsOfWorker Links what = Unit {0}

-- what a worker tried: where it has no turn left to make it may end; a turn to be matched ahead is one of its own
abbrev pub IsTried : WorkerRole → Tried → Root → List EntryParts → Type 0
IsTried worker tries.Done root journal = EndsWith worker root journal None
IsTried worker (tries.Ahead what number) root journal = Suits what root × CanMatch root number × IsOfWorker worker what
IsTried worker (tries.Turned turned) root journal = Unit {0}

-- the state of a worker while it has not got its cell in hand: a publication that it matched is of a turn of its own, and it has ended as it may
abbrev pub IsWorkerState : WorkerRole → Root → List EntryParts → WorkerState → Type 0
IsWorkerState worker root seen Free = Unit {0}
IsWorkerState worker root seen (Matched what ahead) = Suits what root × IsAheadBy root.viewer.value ahead × IsOfWorker worker what
IsWorkerState worker root seen (Ended fault) = EndsWith worker root seen fault
