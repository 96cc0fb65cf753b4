-- What the code of an audit counts on, of a kind of network and of its runs; no promise to a caller speaks of it.
use Rattle.std.specs.Prelude.{◌≡◌, ℕ, true, false, List, [], ◌∷◌, ◌++◌, length, Ok}
use Rattle.net_model.specs.declared.turn.Turn.{Turn}
use Rattle.net_model.specs.Parts.{NetParts, EntryParts}
use Rattle.net_turns.specs.Kinds.{Trying, Walking, Telling}
use Rattle.net_turns.specs.Network.{NetworkParts, network_parts}
use Rattle.sequential_network.specs.Ruling.{Ruling, refused_by}
use Rattle.document_reader.specs.Net.{IsNetOf}
use Rattle.audit_verdict.specs.Kinds.{RunKind}
use Rattle.audit_verdict.specs.Verdict.{IsOutputOf, IsVerdict}

-- THE NETWORK THAT MAKES TURNS IS OF THE KIND: what its rules say is what the runs of the kind are
pub record MakesRuns {P : Type 0} (kind : RunKind) (trying : Trying) (walking : Walking trying) (telling : Telling trying) (ruling : Ruling P) : Type 0 where
  pub legal : (net : NetParts) (journal : List EntryParts) → trying.IsLegal net journal → kind.IsLegal net journal
  -- a turn that was made has its entry, and one that was not is barred
  pub made : (turn : Turn) (old new : NetworkParts) → trying.IsTurn true turn old new
      → (entry : EntryParts) × (new ≡ network_parts old.net (old.journal ++ entry ∷ [])) × kind.IsEntryOf old.net old.journal turn entry
  pub barred : (turn : Turn) (old new : NetworkParts) → trying.IsTurn false turn old new → kind.IsBarred old.net old.journal turn
  -- where a walk goes on the run was not drained, and where it doesn't it is
  pub not_drained : (old new : NetworkParts) → walking.IsPhaseOf true old new → trying.IsLegal new.net new.journal → kind.IsDrainedBy old.net old.journal → ⊥
  pub drained : (old new : NetworkParts) → walking.IsPhaseOf false old new → (new ≡ old) × kind.IsDrainedBy old.net old.journal
  -- what clients have, and the messages, which grow by those of the last entry
  pub received : (net : NetParts) (journal : List EntryParts) (client : ℕ) → ruling.received_by net journal client ≡ kind.received_by net journal client
  pub refused : (net : NetParts) (journal : List EntryParts) (client : ℕ) → refused_by ruling net journal client ≡ kind.refused_by net journal client
  pub told_is : (net : NetParts) (journal : List EntryParts) → telling.told_by net journal ≡ kind.told_by net journal
  pub told_length : (net : NetParts) (journal : List EntryParts) → length (kind.told_by net journal) ≡ length journal
  pub told_more : (net : NetParts) (journal : List EntryParts) (entry : EntryParts)
      → kind.told_by net (journal ++ entry ∷ []) ≡ kind.told_by net journal ++ telling.told_at net (journal ++ entry ∷ []) (length journal) entry ∷ []

-- EACH OUTPUT HAS ONE VERDICT: a turn has one entry or is barred, and the output of a legal, drained run is confirmed, by whichever net of its document
pub record VerdictLaws (kind : RunKind) : Type 0 where
  pub one_entry : (net : NetParts) (journal : List EntryParts) (turn : Turn) (a b : EntryParts)
      → kind.IsEntryOf net journal turn a → kind.IsEntryOf net journal turn b → a ≡ b
  pub not_both : (net : NetParts) (journal : List EntryParts) (turn : Turn) (entry : EntryParts)
      → kind.IsEntryOf net journal turn entry → kind.IsBarred net journal turn → ⊥
  pub confirmed : (document output : List ℕ) (net : NetParts) (journal : List EntryParts) → IsNetOf document net → IsOutputOf kind net journal output
      → IsVerdict kind net document output (Ok journal)
  pub same_output : (document : List ℕ) (one other : NetParts) (journal : List EntryParts) (output : List ℕ) → IsNetOf document one → IsNetOf document other
      → IsOutputOf kind one journal output → IsOutputOf kind other journal output
