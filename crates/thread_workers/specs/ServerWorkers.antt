-- Defines the workers of a phase: those of each lock.
use Rattle.std.specs.Prelude.{◌≡◌, ◌≤◌, ◌+◌, ◌/◌, ◌%◌, ◌++◌, ℕ, zero, suc, false, List, [], ◌∷◌, All, length, Some, slice_get, vec_capacity}
use Rattle.filter_text.specs.MessageText.{Each}
use Rattle.base_devices.specs.declared.gate.WorkerRole.{WorkerRole}
use Rattle.base_devices.specs.declared.gate.WorkerRole.TheVariants.{Commands, Links}
use Rattle.thread_lock.specs.declared.lock.Pass.{Pass}
use Rattle.thread_lock.specs.Passes.{IsPassOf, first_value, has_in_hand, pass_count, seen_by}
use Rattle.net_model.specs.Parts.{NetParts, EntryParts}
use Rattle.thread_versions.specs.Ends.{IsSameViewer}
use Rattle.thread_cell.specs.declared.held.Root.{Root}
use Rattle.thread_cell.specs.Cell.{CellParts}
use Rattle.thread_workers.specs.declared.server_workers.ServerWorkers.{ServerWorkers}
use Rattle.thread_workers.specs.declared.server_workers.SparePasses.{SparePasses}
use Rattle.thread_workers.specs.declared.server_workers.Viewers.{Viewers}
use Rattle.thread_workers.specs.declared.ended.Ended.{Ended}
use Rattle.thread_workers.specs.declared.server_workers.Both.{Both}
use Rattle.thread_workers.specs.declared.workers_of_thread.Back.{Back}
use Rattle.thread_workers.specs.WorkerHandles.{CellLock, AreFreeHandles, IsLockFor, lock_root}
use Rattle.thread_workers.specs.Work.{EndsWith}

-- lists of one length whose members fit, each the one at its place
abbrev pub Pairwise : {A B : Type 0} → (A → B → Type 0) → List A → List B → Type 0
Pairwise R [] [] = Unit {0}
Pairwise R [] (y ∷ ys) = ⊥
Pairwise R (x ∷ xs) [] = ⊥
Pairwise R (x ∷ xs) (y ∷ ys) = R x y × Pairwise R xs ys

-- a pass of a lock with nothing in hand
abbrev pub IsFreePass : CellLock → Pass EntryParts Root → Type 0
IsFreePass lock pass = IsPassOf (λ (c : CellParts). c.root) lock pass × (has_in_hand pass ≡ false)

-- a pass that has seen just the journal with which the lock was made
abbrev pub HasSeenFirst : CellLock → Pass EntryParts Root → Type 0
HasSeenFirst lock pass = seen_by pass ≡ (first_value lock).journal

-- what stays of the three passes of a lock: one with nothing in hand, with room for all
pub record AreSpareOf (lock : CellLock) (spare : SparePasses) : Type 0 where
  pub count : pass_count lock ≡ 3
  pub one : length spare.passes.items ≡ 1
  pub room : 3 ≤ vec_capacity spare.passes
  pub own : All (IsFreePass lock) spare.passes.items
  pub seen : All (HasSeenFirst lock) spare.passes.items

-- the workers of the lock of a server in a phase of the net: each worker has a pass with nothing in hand, and a viewer of its cell's publisher
pub record AreWorkersOf (net : NetParts) (phase : ℕ) (lock : CellLock) (server_workers : ServerWorkers) : Type 0 where
  pub lock_for : IsLockFor net server_workers.server phase lock
  pub spare_of : AreSpareOf lock server_workers.spare
  pub commands : AreFreeHandles lock server_workers.commands.pass server_workers.commands.viewer
  pub links : AreFreeHandles lock server_workers.links.pass server_workers.links.viewer

abbrev pub AreAllWorkers : NetParts → ℕ → List CellLock → List ServerWorkers → Type 0
AreAllWorkers net phase locks all_workers = Pairwise (AreWorkersOf net phase) locks all_workers

-- what both workers of a lock gave back, of which the one for commands ended as it may
abbrev pub AreBackAt : CellLock → Both Ended → Type 0
AreBackAt lock done = AreFreeHandles lock done.commands.pass done.commands.viewer × AreFreeHandles lock done.links.pass done.links.viewer
    × EndsWith Commands (lock_root lock) (seen_by done.commands.pass) done.commands.fault

-- a worker of a lock
abbrev pub at_lock : CellLock → WorkerRole → CellLock × WorkerRole
at_lock lock worker = (lock, worker)

-- what a worker of a lock gave back: its handles are free, and it ended as it may
abbrev pub IsBack : CellLock × WorkerRole → Ended → Type 0
IsBack at ended = AreFreeHandles at.0 ended.pass ended.viewer × EndsWith at.1 (lock_root at.0) (seen_by ended.pass) ended.fault

-- what the workers of each thread gave back
abbrev pub AreBack : List (List (CellLock × WorkerRole)) → List Back → Type 0
AreBack rows all = Pairwise (λ row back. Pairwise IsBack row back.ended.items) rows all

-- each row has room for so many more: how many it has, and how many it can have
abbrev pub HaveRoom : ℕ → List (ℕ × ℕ) → Type 0
HaveRoom left rows = Each (λ row. row.0 + left ≤ row.1) rows

-- rows with one more item at the end of the row at a place
abbrev pub with_one : {X : Type 0} → ℕ → X → List (List X) → List (List X)
with_one place x [] = []
with_one zero x (row ∷ rows) = (row ++ x ∷ []) ∷ rows
with_one (suc place) x (row ∷ rows) = row ∷ with_one place x rows

-- the thread of a worker, of so many: the workers of a server stand half of all threads apart
abbrev pub thread_at : ℕ → ℕ → WorkerRole → ℕ
thread_at threads server Commands = server % threads
thread_at threads server Links = (server + threads / 2) % threads

-- the threads with both workers of one lock more
abbrev pub with_both : ℕ → ℕ → CellLock → List (List (CellLock × WorkerRole)) → List (List (CellLock × WorkerRole))
with_both threads server lock rows =
    with_one (thread_at threads server Links) (at_lock lock Links) (with_one (thread_at threads server Commands) (at_lock lock Commands) rows)

-- the threads with the workers of all these locks more, those of the last one first
abbrev pub with_all : ℕ → ℕ → List CellLock → List (List (CellLock × WorkerRole)) → List (List (CellLock × WorkerRole))
with_all threads server [] rows = rows
with_all threads server (lock ∷ locks) rows = with_both threads server lock (with_all threads (suc server) locks rows)

-- two viewers of the publisher that a root names
abbrev pub AreViewersOf : Root → Viewers → Type 0
AreViewersOf root viewers = IsSameViewer root.viewer.value viewers.commands × IsSameViewer root.viewer.value viewers.links

-- the roots are those of the servers 1, 2 and so on of the net in a phase
abbrev pub AreInPlace : NetParts → ℕ → List Root → Type 0
AreInPlace net phase roots = (k : ℕ) (root : Root) → slice_get roots k ≡ Some root
    → (root.net.value ≡ net) × (root.server ≡ suc k) × (root.phase ≡ phase)
