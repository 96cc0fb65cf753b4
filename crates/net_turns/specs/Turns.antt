-- Defines turns of a network: which are made, and what they add to its journal.
use Rattle.std.specs.Prelude.{◌≡◌, ℕ, Bool, true, false, List, [], ◌∷◌, ◌++◌}
use mathlib.Core.List.{IsPrefix}
use Rattle.law_phases.specs.Trees.{JournalEntry}
use Rattle.law_phases.specs.Moments.{Moment}
use Rattle.law_phases.specs.Turns.{IsPermittedTurn}
use Rattle.net_model.specs.Real.{real}
use Rattle.net_model.specs.declared.turn.Turn.{Turn}
use Rattle.net_model.specs.Parts.{NetParts, EntryParts}
use Rattle.net_model.specs.Meaning.{entry_of}
use Rattle.net_model.specs.Nets.{phased_net, turn_of}
use Rattle.net_turns.specs.Network.{NetworkParts, network_parts, moment_by}

-- after a journal a turn is permitted, and this is its entry
abbrev pub IsEntryOf : NetParts → List EntryParts → Turn → EntryParts → Type 0
IsEntryOf net journal turn entry =
    IsPermittedTurn real (phased_net net) (moment_by net journal) (turn_of net turn) (entry_of entry) (moment_by net (journal ++ entry ∷ []))

-- after a journal a turn is not permitted: the rule of phases does not let its act, or it is not possible
abbrev pub IsBarred : NetParts → List EntryParts → Turn → Type 0
IsBarred net journal turn = (entry : JournalEntry) (next : Moment real (phased_net net))
    → IsPermittedTurn real (phased_net net) (moment_by net journal) (turn_of net turn) entry next → ⊥

-- the network made the turn: its journal has one entry more
pub record IsMade (turn : Turn) (old new : NetworkParts) : Type 0 where
  pub entry : EntryParts
  pub later : new ≡ network_parts old.net (old.journal ++ entry ∷ [])
  pub permitted : IsEntryOf old.net old.journal turn entry

-- WHAT A TURN DOES: where it is permitted it is made, and else nothing changes
abbrev pub IsTurn : Bool → Turn → NetworkParts → NetworkParts → Type 0
IsTurn true turn old new = IsMade turn old new
IsTurn false turn old new = (new ≡ old) × IsBarred old.net old.journal turn

-- turns with their lines, made one after the other after a journal, lead to another
abbrev pub AreMade : NetParts → List EntryParts → List (ℕ × Turn) → List EntryParts → Type 0
AreMade net journal [] after = journal ≡ after
AreMade net journal (turn ∷ turns) after = (entry : EntryParts) × IsEntryOf net journal turn.1 entry × AreMade net (journal ++ entry ∷ []) turns after

-- all of these turns were made
pub record AreReplayed (turns : List (ℕ × Turn)) (old new : NetworkParts) : Type 0 where
  pub net : new.net ≡ old.net
  pub made : AreMade old.net old.journal turns new.journal

-- a beginning of these turns was made
pub record AreBegun (turns : List (ℕ × Turn)) (old new : NetworkParts) : Type 0 where
  pub first : List (ℕ × Turn)
  pub begins : IsPrefix first turns
  pub net : new.net ≡ old.net
  pub made : AreMade old.net old.journal first new.journal

-- the turns before the one of this line were made, and that one is not permitted then
pub record StopsAt (line : ℕ) (turns : List (ℕ × Turn)) (old new : NetworkParts) : Type 0 where
  pub before : List (ℕ × Turn)
  pub turn : Turn
  pub rest : List (ℕ × Turn)
  pub there : turns ≡ before ++ (line, turn) ∷ rest
  pub net : new.net ≡ old.net
  pub made : AreMade old.net old.journal before new.journal
  pub barred : IsBarred old.net new.journal turn
