-- Defines the walk of a network: the rest of its phases, by the walk schedule.
use Rattle.std.specs.Prelude.{◌≡◌, ℕ, ◌≤◌, ◌<◌, Bool, true, false, List, [], ◌++◌}
use mathlib.Core.List.{IsPrefix}
use Rattle.law_phases.specs.Trees.{JournalEntry, net_at}
use Rattle.law_phases.specs.Walk.{entries_by, walk_of}
use Rattle.law_routing.specs.Walk.{walk_turns}
use Rattle.net_model.specs.Real.{real}
use Rattle.net_model.specs.Parts.{NetParts, EntryParts}
use Rattle.net_model.specs.Meaning.{journal_of}
use Rattle.net_model.specs.Nets.{phased_net, phases_of}
use Rattle.net_turns.specs.Network.{NetworkParts, network_parts, moment_by, IsDrainedBy}

-- the entries that the walk makes after a journal until the run is drained
abbrev pub walk_after : NetParts → List EntryParts → List JournalEntry
walk_after net journal = walk_of real (phased_net net) (phases_of net) (moment_by net journal)

-- the entries that it makes of one phase, where this is the phase in hand or a later one
abbrev pub phase_after : NetParts → List EntryParts → ℕ → List JournalEntry
phase_after net journal phase =
    entries_by real (phased_net net) phase (moment_by net journal) (walk_turns real (net_at real (phased_net net) phase))

-- THE WHOLE WALK was made: the run is drained
pub record IsWalked (old new : NetworkParts) : Type 0 where
  pub made : List EntryParts
  pub later : new ≡ network_parts old.net (old.journal ++ made)
  pub walk : journal_of made ≡ walk_after old.net old.journal
  pub drained : IsDrainedBy old.net (old.journal ++ made)

-- a beginning of the walk was made
pub record IsWalkBegun (old new : NetworkParts) : Type 0 where
  pub made : List EntryParts
  pub later : new ≡ network_parts old.net (old.journal ++ made)
  pub begins : IsPrefix (journal_of made) (walk_after old.net old.journal)

-- the rest of a phase was made: the first, from the one in hand on, in which something is left
pub record IsPhaseWalked (old new : NetworkParts) : Type 0 where
  pub phase : ℕ
  pub from : (moment_by old.net old.journal).phase ≤ phase
  pub first : (earlier : ℕ) → (moment_by old.net old.journal).phase ≤ earlier → earlier < phase → phase_after old.net old.journal earlier ≡ []
  pub made : List EntryParts
  pub some : made ≡ [] → ⊥
  pub later : new ≡ network_parts old.net (old.journal ++ made)
  pub walk : journal_of made ≡ phase_after old.net old.journal phase

-- a beginning of the rest of a phase was made, and nothing is left of the phases from the one in hand up to it
pub record IsPhaseBegun (old new : NetworkParts) : Type 0 where
  pub phase : ℕ
  pub from : (moment_by old.net old.journal).phase ≤ phase
  pub first : (earlier : ℕ) → (moment_by old.net old.journal).phase ≤ earlier → earlier < phase → phase_after old.net old.journal earlier ≡ []
  pub made : List EntryParts
  pub later : new ≡ network_parts old.net (old.journal ++ made)
  pub begins : IsPrefix (journal_of made) (phase_after old.net old.journal phase)

-- a phase was walked, or nothing was left to do
abbrev pub IsPhaseOf : Bool → NetworkParts → NetworkParts → Type 0
IsPhaseOf true old new = IsPhaseWalked old new
IsPhaseOf false old new = (new ≡ old) × IsDrainedBy old.net old.journal
