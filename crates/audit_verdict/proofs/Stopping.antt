-- Turns that an output shows, over any kind of network: those that are made, and the first that is not permitted.
use Rattle.std.proofs.Common.{◌≡◌, ℕ, suc, ◌+◌, ◌<◌, inl, inr, List, [], ◌∷◌, ◌++◌, length, take, drop, get_or, refl, sym, ap, subst, ◌∙◌, arith, drop-cons, length-append}
use Rattle.std.proofs.lemmas.List.{take-append-drop}
use Rattle.net_model.specs.declared.turn.Turn.{Turn}
use Rattle.net_model.specs.Parts.{NetParts, EntryParts}
use Rattle.audit_verdict.specs.Kinds.{AreMade, RunKind, StopsAtLine}
use Rattle.audit_verdict.specs.Laws.{VerdictLaws}

module _ (runs : RunKind) (net : NetParts) where
  -- one turn more was made
  pub made-on : (journal : List EntryParts) (turns : List (ℕ × Turn)) (after : List EntryParts) (turn : ℕ × Turn) (entry : EntryParts)
      → AreMade runs net journal turns after → runs.IsEntryOf net after turn.1 entry → AreMade runs net journal (turns ++ turn ∷ []) (after ++ entry ∷ [])
  made-on journal [] after turn entry e x = (entry, subst (λ z. runs.IsEntryOf net z turn.1 entry) (sym e) x, ap (λ z. z ++ entry ∷ []) e)
  made-on journal (t ∷ turns) after turn entry (first, is, rest) x = (first, is, made-on (journal ++ first ∷ []) turns after turn entry rest x)

  -- each turn has one entry
  made-count : (journal : List EntryParts) (turns : List (ℕ × Turn)) (after : List EntryParts) → AreMade runs net journal turns after → length after ≡ length journal + length turns
  made-count journal [] after m = omega (arith, ap length m)
  made-count journal (t ∷ turns) after m = omega (arith, made-count (journal ++ m.0 ∷ []) turns after m.2, length-append journal (m.0 ∷ []))

  pub as-many-entries : (turns : List (ℕ × Turn)) (after : List EntryParts) → AreMade runs net [] turns after → length turns ≡ length after
  as-many-entries turns after m = omega (arith, made-count [] turns after m)

  -- where turns before one were made, and that one is barred, they stop there
  stopped : (journal : List EntryParts) (before : List (ℕ × Turn)) (turn : ℕ × Turn) (rest : List (ℕ × Turn)) (after : List EntryParts)
      → AreMade runs net journal before after → runs.IsBarred net after turn.1 → StopsAtLine runs net journal (before ++ turn ∷ rest) turn.0
  stopped journal [] turn rest after made barred = inl (refl, subst (λ z. runs.IsBarred net z turn.1) (sym made) barred)
  stopped journal (t ∷ ts) turn rest after made barred = inr (made.0, made.1, stopped (journal ++ made.0 ∷ []) ts turn rest after made.2 barred)

  pub stops-there : (turns : List (ℕ × Turn)) (i : ℕ) (d : ℕ × Turn) (after : List EntryParts) → i < length turns → AreMade runs net [] (take i turns) after
      → runs.IsBarred net after (get_or turns i d).1 → StopsAtLine runs net [] turns (get_or turns i d).0
  stops-there turns i d after less made barred =
      subst (λ z. StopsAtLine runs net [] z (get_or turns i d).0) (ap (λ z. take i turns ++ z) (sym (drop-cons turns i d less)) ∙ take-append-drop i turns)
      (stopped [] (take i turns) (get_or turns i d) (drop (suc i) turns) after made barred)

  module _ (laws : VerdictLaws runs) where
    -- they lead to one journal
    pub one-journal : (journal : List EntryParts) (turns : List (ℕ × Turn)) (after other : List EntryParts) → AreMade runs net journal turns after → AreMade runs net journal turns other
        → after ≡ other
    one-journal journal [] after other a b = sym a ∙ b
    one-journal journal (turn ∷ turns) after other a b =
        one-journal (journal ++ a.0 ∷ []) turns after other a.2
        (subst (λ z. AreMade runs net (journal ++ z ∷ []) turns other) (laws.one_entry net journal turn.1 b.0 a.0 b.1 a.1) b.2)

    -- turns that are all made don't stop
    pub never-stops : (journal : List EntryParts) (turns : List (ℕ × Turn)) (after : List EntryParts) (line : ℕ) → AreMade runs net journal turns after
        → StopsAtLine runs net journal turns line → ⊥
    never-stops journal [] after line made stops = stops
    never-stops journal (turn ∷ turns) after line made (inl stops) = laws.not_both net journal turn.1 made.0 made.1 stops.1
    never-stops journal (turn ∷ turns) after line made (inr stops) =
        never-stops (journal ++ made.0 ∷ []) turns after line made.2
        (subst (λ z. StopsAtLine runs net (journal ++ z ∷ []) turns line) (laws.one_entry net journal turn.1 stops.0 made.0 stops.1 made.1) stops.2)

    -- they stop at one line
    pub one-line : (journal : List EntryParts) (turns : List (ℕ × Turn)) (line other : ℕ) → StopsAtLine runs net journal turns line → StopsAtLine runs net journal turns other
        → line ≡ other
    one-line journal [] line other a b = absurd a
    one-line journal (turn ∷ turns) line other (inl a) (inl b) = sym a.0 ∙ b.0
    one-line journal (turn ∷ turns) line other (inl a) (inr b) = absurd (laws.not_both net journal turn.1 b.0 b.1 a.1)
    one-line journal (turn ∷ turns) line other (inr a) (inl b) = absurd (laws.not_both net journal turn.1 a.0 a.1 b.1)
    one-line journal (turn ∷ turns) line other (inr a) (inr b) =
        one-line (journal ++ a.0 ∷ []) turns line other a.2
        (subst (λ z. StopsAtLine runs net (journal ++ z ∷ []) turns other) (laws.one_entry net journal turn.1 b.0 a.0 b.1 a.1) b.2)
