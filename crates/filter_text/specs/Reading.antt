-- How the readers of this crate are followed on lists; no promise to a caller speaks of it.
use Rattle.std.specs.Prelude.{◌≡◌, List, [], ◌∷◌, ℕ, Some, None, Ok, Err}
use Rattle.std.specs.declared.option.Option.{Option}
use Rattle.std.specs.declared.result.Result.{Result}
use Rattle.filter_text.specs.declared.fault.WireFault.{WireFault}
use Rattle.filter_text.specs.declared.fault.WireFault.TheVariants as faults

-- what is read next, unless nothing was
infixl 10 ◌>>=◌
abbrev pub ◌>>=◌ : {A B : Type 0} → Option A → (A → Option B) → Option B
(Some x) >>= f = f x
None >>= f = None

-- a fault told while reading: out of memory tells nothing, and else nothing is there to be read
abbrev pub Fails : {Y : Type 0} → WireFault → Option Y → Type 0
Fails faults.NoMemory read = Unit {0}
Fails faults.Outside read = read ≡ None

-- the result, seen by view, is what reading gives, or a fault of which what was read says so much
abbrev pub GivesAs : {E X Y : Type 0} → (E → Option Y → Type 0) → (X → Y) → Result X E → Option Y → Type 0
GivesAs fails view (Ok x) read = read ≡ Some (view x)
GivesAs fails view (Err e) read = fails e read

-- the same, and what is left then
abbrev pub ReadsAs : {E X Y L : Type 0} → (E → Option (Y × L) → Type 0) → (X → Y) → Result X E → Option (Y × L) → L → Type 0
ReadsAs fails view (Ok x) read left = read ≡ Some (view x, left)
ReadsAs fails view (Err e) read left = fails e read

-- the result, seen by view, is what reading gives, unless memory ran out
abbrev pub Gives : {X Y : Type 0} → (X → Y) → Result X WireFault → Option Y → Type 0
Gives view result read = GivesAs Fails view result read

-- the result, seen by view, and the bytes that are left then are what reading gives, unless memory ran out
abbrev pub Reads : {X Y : Type 0} → (X → Y) → Result X WireFault → Option (Y × List ℕ) → List ℕ → Type 0
Reads view result read left = ReadsAs Fails view result read left

-- what was read, where nothing follows it
abbrev pub whole : {A : Type 0} → Option (A × List ℕ) → Option A
whole None = None
whole (Some (x, [])) = Some x
whole (Some (x, b ∷ rest)) = None
