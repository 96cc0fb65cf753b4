-- Turns of a schedule: those that are made, and the first that is not permitted.
use Rattle.std.proofs.Common.{◌≡◌, ℕ, inl, inr, List, [], ◌∷◌, ◌++◌, refl, sym, subst, ◌∙◌}
use Rattle.net_model.specs.declared.turn.Turn.{Turn}
use Rattle.net_model.specs.Parts.{NetParts, EntryParts}
use Rattle.net_model.specs.Meaning.{entry_of}
use Rattle.net_model.specs.Nets.{turn_of}
use Rattle.net_turns.specs.Network.{NetworkParts, network_parts, moment_by}
use Rattle.net_turns.specs.Turns.{IsEntryOf, IsBarred, AreMade, StopsAt}
use Rattle.net_turns.specs.Stopping.{StopsAtLine}
use Rattle.net_turns.proofs.Again.{entry-same, permitted-once}

-- a turn has one entry
pub same-entry : (net : NetParts) (journal : List EntryParts) (turn : Turn) (a b : EntryParts) → IsEntryOf net journal turn a → IsEntryOf net journal turn b → a ≡ b
same-entry net journal turn a b p q =
    entry-same a b (permitted-once net (moment_by net journal) (turn_of net turn) (entry_of a) (entry_of b) (moment_by net (journal ++ a ∷ [])) (moment_by net (journal ++ b ∷ [])) p q)

-- they lead to one journal
pub one-journal : (net : NetParts) (journal : List EntryParts) (turns : List (ℕ × Turn)) (after other : List EntryParts) → AreMade net journal turns after → AreMade net journal turns other
    → after ≡ other
one-journal net journal [] after other a b = sym a ∙ b
one-journal net journal (turn ∷ turns) after other a b =
    one-journal net (journal ++ a.0 ∷ []) turns after other a.2
    (subst (λ z. AreMade net (journal ++ z ∷ []) turns other) (same-entry net journal turn.1 b.0 a.0 b.1 a.1) b.2)

-- turns that are all made don't stop
pub never-stops : (net : NetParts) (journal : List EntryParts) (turns : List (ℕ × Turn)) (after : List EntryParts) (line : ℕ) → AreMade net journal turns after
    → StopsAtLine net journal turns line → ⊥
never-stops net journal [] after line made stops = stops
never-stops net journal (turn ∷ turns) after line made (inl stops) = stops.1 (entry_of made.0) (moment_by net (journal ++ made.0 ∷ [])) made.1
never-stops net journal (turn ∷ turns) after line made (inr stops) =
    never-stops net (journal ++ made.0 ∷ []) turns after line made.2
    (subst (λ z. StopsAtLine net (journal ++ z ∷ []) turns line) (same-entry net journal turn.1 stops.0 made.0 stops.1 made.1) stops.2)

-- they stop at one line
pub one-line : (net : NetParts) (journal : List EntryParts) (turns : List (ℕ × Turn)) (line other : ℕ) → StopsAtLine net journal turns line → StopsAtLine net journal turns other
    → line ≡ other
one-line net journal [] line other a b = absurd a
one-line net journal (turn ∷ turns) line other (inl a) (inl b) = sym a.0 ∙ b.0
one-line net journal (turn ∷ turns) line other (inl a) (inr b) = absurd (a.1 (entry_of b.0) (moment_by net (journal ++ b.0 ∷ [])) b.1)
one-line net journal (turn ∷ turns) line other (inr a) (inl b) = absurd (b.1 (entry_of a.0) (moment_by net (journal ++ a.0 ∷ [])) a.1)
one-line net journal (turn ∷ turns) line other (inr a) (inr b) =
    one-line net (journal ++ a.0 ∷ []) turns line other a.2
    (subst (λ z. StopsAtLine net (journal ++ z ∷ []) turns other) (same-entry net journal turn.1 b.0 a.0 b.1 a.1) b.2)

-- where a network stopped
stopped : (net : NetParts) (journal : List EntryParts) (before : List (ℕ × Turn)) (line : ℕ) (turn : Turn) (rest : List (ℕ × Turn)) (after : List EntryParts)
    → AreMade net journal before after → IsBarred net after turn → StopsAtLine net journal (before ++ (line, turn) ∷ rest) line
stopped net journal [] line turn rest after made barred = inl (refl, subst (λ z. IsBarred net z turn) (sym made) barred)
stopped net journal (t ∷ ts) line turn rest after made barred = inr (made.0, made.1, stopped net (journal ++ made.0 ∷ []) ts line turn rest after made.2 barred)

pub from-start : (net : NetParts) (turns : List (ℕ × Turn)) (line : ℕ) (new : NetworkParts) → StopsAt line turns (network_parts net []) new → StopsAtLine net [] turns line
from-start net turns line new s = subst (λ z. StopsAtLine net [] z line) (sym s.there) (stopped net [] s.before line s.turn s.rest new.journal s.made s.barred)
