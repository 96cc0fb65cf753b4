-- Defines what the runs of a kind of network are. An audit says the same of each kind.
use Rattle.std.specs.Prelude.{◌≡◌, ◌⊎◌, ℕ, List, [], ◌∷◌, ◌++◌}
use Rattle.filter_text.specs.Deliveries.{Delivery}
use Rattle.filter_text.specs.declared.sent.Sent.{Sent}
use Rattle.net_model.specs.declared.turn.Turn.{Turn}
use Rattle.net_model.specs.Parts.{NetParts, EntryParts}
use Rattle.net_turns.specs.Network.{IsDrainedBy, IsLegal, received_by, refused_by}
use Rattle.net_turns.specs.Told.{told_by}
use Rattle.net_turns.specs.Turns.{IsBarred, IsEntryOf}

-- WHAT THE RUNS OF A KIND OF NETWORK ARE, by a net and a journal
pub record RunKind : Type 1 where
  -- the journal is a legal run; at its end all commands are executed, all links are empty and nothing is pending
  pub IsLegal : NetParts → List EntryParts → Type 0
  pub IsDrainedBy : NetParts → List EntryParts → Type 0
  -- after the journal a turn is permitted, and this is its entry; or it is not permitted
  pub IsEntryOf : NetParts → List EntryParts → Turn → EntryParts → Type 0
  pub IsBarred : NetParts → List EntryParts → Turn → Type 0
  -- what was delivered to a client, the ordinals of its publishes that were refused, and the messages of each entry
  pub received_by : NetParts → List EntryParts → ℕ → List Delivery
  pub refused_by : NetParts → List EntryParts → ℕ → List ℕ
  pub told_by : NetParts → List EntryParts → List (List Sent)

-- those of a network of peers
abbrev pub peers : RunKind
peers = record {
  IsLegal = IsLegal;
  IsDrainedBy = IsDrainedBy;
  IsEntryOf = IsEntryOf;
  IsBarred = IsBarred;
  received_by = received_by;
  refused_by = refused_by;
  told_by = told_by;
}

-- turns with their lines, made one after the other after a journal, lead to another
abbrev pub AreMade : RunKind → NetParts → List EntryParts → List (ℕ × Turn) → List EntryParts → Type 0
AreMade kind net journal [] after = journal ≡ after
AreMade kind net journal (turn ∷ turns) after =
    (entry : EntryParts) × kind.IsEntryOf net journal turn.1 entry × AreMade kind net (journal ++ entry ∷ []) turns after

-- the first of these turns that is not permitted when it comes is that of this line, and each before it is made
abbrev pub StopsAtLine : RunKind → NetParts → List EntryParts → List (ℕ × Turn) → ℕ → Type 0
StopsAtLine kind net journal [] line = ⊥
StopsAtLine kind net journal (turn ∷ turns) line =
    ((turn.0 ≡ line) × kind.IsBarred net journal turn.1)
    ⊎ ((entry : EntryParts) × kind.IsEntryOf net journal turn.1 entry × StopsAtLine kind net (journal ++ entry ∷ []) turns line)
