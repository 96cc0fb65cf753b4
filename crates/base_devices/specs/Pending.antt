-- What of a text waits to be written, and what of it was.
use Rattle.std.specs.Prelude.{◌≡◌, ℕ, ◌<◌, ◌⊎◌, Bool, true, false, List, [], ◌++◌, length}
use Rattle.base_devices.specs.Cause.{Rose}
use Rattle.base_devices.specs.Sinks.{SinkParts, Took}

-- the bytes that wait, and whether the sink failed
pub record PendingParts : Type 0 where
  pub bytes : List ℕ
  pub failed : Bool

-- a sink with what waits for it
pub record Outlet : Type 0 where
  pub sink : SinkParts
  pub waiting : PendingParts

-- a front of what waited and of the bytes was taken, and the rest waits
pub record Passed (old new : Outlet) (bytes : List ℕ) : Type 0 where
  pub front : List ℕ
  pub took : Took old.sink new.sink front
  pub split : old.waiting.bytes ++ bytes ≡ front ++ new.waiting.bytes
  pub sure : new.sink.faults ≡ old.sink.faults
  pub sound : new.waiting.failed ≡ false

-- a front that is not all of it was taken, and the sink failed
pub record CutShort (old new : Outlet) (bytes : List ℕ) : Type 0 where
  pub front : List ℕ
  pub rest : List ℕ
  pub took : Took old.sink new.sink front
  pub split : old.waiting.bytes ++ bytes ≡ front ++ rest
  pub some : 0 < length rest
  pub rose : Rose old.sink.faults new.sink.faults
  pub failed : new.waiting.failed ≡ true

-- bytes went to a sink that had not failed; after a failure nothing is asked of it
pub record Went (old new : Outlet) (bytes : List ℕ) : Type 0 where
  pub sound : old.waiting.failed ≡ false → Passed old new bytes ⊎ CutShort old new bytes
  pub failed : old.waiting.failed ≡ true → (new.sink ≡ old.sink) × (new.waiting.failed ≡ true)

abbrev pub outlet : SinkParts → PendingParts → Outlet
outlet sink waiting = record { sink = sink; waiting = waiting }

-- nothing waits
abbrev pub drained : Bool → PendingParts
drained failed = record { bytes = []; failed = failed }
