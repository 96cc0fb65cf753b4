-- Defines at which line of a schedule its turns stop.
use Rattle.std.specs.Prelude.{◌≡◌, ◌⊎◌, ℕ, List, [], ◌∷◌, ◌++◌}
use Rattle.net_model.specs.declared.turn.Turn.{Turn}
use Rattle.net_model.specs.Parts.{NetParts, EntryParts}
use Rattle.net_turns.specs.Turns.{IsEntryOf, IsBarred}

-- after a journal, the first of these turns that is not permitted when it comes is that of this line, and each before it is made
abbrev pub StopsAtLine : NetParts → List EntryParts → List (ℕ × Turn) → ℕ → Type 0
StopsAtLine net journal [] line = ⊥
StopsAtLine net journal (turn ∷ turns) line =
    ((turn.0 ≡ line) × IsBarred net journal turn.1)
    ⊎ ((entry : EntryParts) × IsEntryOf net journal turn.1 entry × StopsAtLine net (journal ++ entry ∷ []) turns line)
