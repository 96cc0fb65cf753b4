-- A text that is compared with what is claimed, as it is written; no promise to a caller speaks of it.
use Rattle.std.specs.Prelude.{◌≡◌, ◌≤◌, ℕ, Bool, true, false, List, [], ◌∷◌, ◌++◌, length, take, Some}
use Rattle.filter_text.specs.declared.sent.Sent.{Sent}
use Rattle.net_model.specs.Parts.{NetParts, EntryParts}
use Rattle.net_turns.specs.Network.{NetworkParts}
use Rattle.output_report.specs.Trace.{entry_text}
use Rattle.audit_claim.specs.Difference.{difference}

-- what is claimed, how much of it is as the text so far, and whether the two part there
pub record ComparingParts : Type 0 where
  pub claimed : List ℕ
  pub at : ℕ
  pub apart : Bool

abbrev pub comparing : List ℕ → ℕ → Bool → ComparingParts
comparing claimed at apart = record { claimed = claimed; at = at; apart = apart }

-- the text so far begins what is claimed; or they part there, whatever follows
abbrev pub IsComparedAt : Bool → List ℕ → ℕ → List ℕ → Type 0
IsComparedAt false claimed at text = (at ≤ length claimed) × (text ≡ take at claimed)
IsComparedAt true claimed at text = (more : List ℕ) → difference claimed (text ++ more) ≡ Some at

-- this text was compared
abbrev pub IsComparedTo : ComparingParts → List ℕ → Type 0
IsComparedTo c text = IsComparedAt c.apart c.claimed c.at text

-- the text went on by this piece
pub record GoesOn (old new : ComparingParts) (piece : List ℕ) : Type 0 where
  pub claimed : new.claimed ≡ old.claimed
  pub compared : (text : List ℕ) → IsComparedTo old text → IsComparedTo new (text ++ piece)

-- the text went on by a piece whose comparison with what is left was taken over; or nothing changed
abbrev pub Follows : Bool → ComparingParts → ComparingParts → List ℕ → Type 0
Follows true old new piece = GoesOn old new piece
Follows false old new piece = new ≡ old

-- the messages of an entry that a journal has behind so many
abbrev pub ToldAt : Type 0
ToldAt = NetParts → List EntryParts → ℕ → EntryParts → List Sent

-- the text of the last entry of a network's run, with its messages, was compared
abbrev pub ComparesLast : ToldAt → NetworkParts → ComparingParts → ComparingParts → Type 0
ComparesLast told_at network old new = (before : List EntryParts) (entry : EntryParts) → network.journal ≡ before ++ entry ∷ []
    → GoesOn old new (entry_text network.net.clients entry (told_at network.net network.journal (length before) entry))

-- that of a turn, where it was made
abbrev pub ComparesTurn : ToldAt → Bool → NetworkParts → ComparingParts → ComparingParts → Type 0
ComparesTurn told_at true network old new = ComparesLast told_at network old new
ComparesTurn told_at false network old new = Unit {0}
