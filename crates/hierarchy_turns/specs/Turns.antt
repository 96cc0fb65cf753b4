-- Defines turns of a network of a hierarchy: which are made, and what they add to its journal.
use Rattle.std.specs.Prelude.{◌≡◌, ℕ, Bool, true, false, List, [], ◌∷◌, ◌++◌}
use Rattle.law_machine.specs.Runs.{IsPermitted}
use Rattle.law_hierarchy.specs.Step.{Hierarchy, HierarchyEntry}
use Rattle.net_model.specs.Real.{real}
use Rattle.net_model.specs.declared.turn.Turn.{Turn}
use Rattle.net_model.specs.Parts.{NetParts, EntryParts}
use Rattle.net_model.specs.Nets.{turn_of}
use Rattle.hierarchy_turns.specs.Network.{NetworkParts, network_parts, net_of, servers_of, entry_in, moment_by}

-- after a journal a turn is permitted, and this is its entry
abbrev pub IsEntryOf : NetParts → List EntryParts → Turn → EntryParts → Type 0
IsEntryOf net journal turn entry =
    IsPermitted (servers_of net) (moment_by net journal).network (moment_by net journal).phase (turn_of net turn).0 (turn_of net turn).1 (entry_in net entry)
    (moment_by net (journal ++ entry ∷ [])).network (moment_by net (journal ++ entry ∷ [])).phase

-- after a journal a turn is not permitted: the rule of phases does not let its act, or it is not possible
abbrev pub IsBarred : NetParts → List EntryParts → Turn → Type 0
IsBarred net journal turn = (entry : HierarchyEntry real (net_of net)) (next : Hierarchy real (net_of net)) (now : ℕ)
    → IsPermitted (servers_of net) (moment_by net journal).network (moment_by net journal).phase (turn_of net turn).0 (turn_of net turn).1 entry next now → ⊥

-- the network made the turn: its journal has one entry more
pub record IsMade (turn : Turn) (old new : NetworkParts) : Type 0 where
  pub entry : EntryParts
  pub later : new ≡ network_parts old.net (old.journal ++ entry ∷ [])
  pub permitted : IsEntryOf old.net old.journal turn entry

-- WHAT A TURN DOES: where it is permitted it is made, and else nothing changes
abbrev pub IsTurn : Bool → Turn → NetworkParts → NetworkParts → Type 0
IsTurn true turn old new = IsMade turn old new
IsTurn false turn old new = (new ≡ old) × IsBarred old.net old.journal turn
