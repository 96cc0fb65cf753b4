-- A run that is made and compared turn by turn, in a network of any kind.
use Rattle.std.proofs.Common.{◌≡◌, ℕ, ◌+◌, ◌<◌, Bool, true, false, List, [], ◌∷◌, ◌++◌, length, take, get_or, refl, sym, ap, subst, ◌∙◌}
use Rattle.std.specs.Prelude.{not}
use Rattle.std.proofs.lemmas.List.{take_more}
use Rattle.net_model.specs.declared.turn.Turn.{Turn}
use Rattle.net_model.specs.Parts.{NetParts, EntryParts}
use Rattle.net_model.specs.Nets.{of_clients}
use Rattle.net_turns.specs.Kinds.{Trying, Walking, Telling}
use Rattle.net_turns.specs.Network.{NetworkParts, network_parts}
use Rattle.sequential_network.specs.Ruling.{Ruling, refused_by}
use Rattle.output_report.specs.Counts.{total}
use Rattle.output_report.specs.Deliveries.{deliveries_text}
use Rattle.output_report.specs.Trace.{entries_text, entry_text, trace_text}
use Rattle.audit_verdict.specs.Answers.{TellsDrained}
use Rattle.audit_verdict.specs.Comparing.{ComparesTurn, ComparingParts, GoesOn}
use Rattle.audit_verdict.specs.Kinds.{AreMade, RunKind, StopsAtLine}
use Rattle.audit_verdict.specs.Laws.{MakesRuns}
use Rattle.audit_verdict.specs.Verdict.{delivered_in, traced_text}
use Rattle.audit_verdict.proofs.Pieces.{goes_then}
use Rattle.audit_verdict.proofs.Runs.{text_more}
use Rattle.audit_verdict.proofs.Stopping.{made-on, stops-there}

-- so far turns were made, and the text of their entries was compared
pub record IsMadeTo (runs : RunKind) (count : ℕ) (turns : List (ℕ × Turn)) (net : NetParts) (network : NetworkParts) (start text : ComparingParts) : Type 0 where
  pub net_is : network.net ≡ net
  pub made : AreMade runs net [] (take count turns) network.journal
  pub compared : GoesOn start text (entries_text net.clients network.journal (runs.told_by net network.journal))

module _ {P : Type 0} (runs : RunKind) (trying : Trying) (walking : Walking trying) (telling : Telling trying) (ruling : Ruling P) (laws : MakesRuns runs trying walking telling ruling) where
  -- nothing was made
  pub made-none : (turns : List (ℕ × Turn)) (net : NetParts) (network : NetworkParts) (start : ComparingParts) → network ≡ network_parts net []
      → GoesOn start start [] → IsMadeTo runs 0 turns net network start start
  made-none turns net network start e nowhere = record {
    net_is = ap (λ (z : NetworkParts). z.net) e;
    made = sym (ap (λ (z : NetworkParts). z.journal) e);
    compared = subst (λ (z : NetworkParts). GoesOn start start (entries_text net.clients z.journal (runs.told_by net z.journal))) (sym e) nowhere;
  }

  text-one-more : (net : NetParts) (journal : List EntryParts) (e : EntryParts)
      → entries_text net.clients journal (runs.told_by net journal) ++ entry_text net.clients e (telling.told_at net (journal ++ e ∷ []) (length journal) e)
      ≡ entries_text net.clients (journal ++ e ∷ []) (runs.told_by net (journal ++ e ∷ []))
  text-one-more net journal e =
      text_more net.clients journal (runs.told_by net journal) e (telling.told_at net (journal ++ e ∷ []) (length journal) e) (laws.told_length net journal)
      ∙ ap (entries_text net.clients (journal ++ e ∷ [])) (sym (laws.told_more net journal e))

  -- one turn more
  pub made-more : (turns : List (ℕ × Turn)) (net : NetParts) (now new : NetworkParts) (start before after : ComparingParts) (i : ℕ) (d : ℕ × Turn) (b : Bool) → i < length turns
      → IsMadeTo runs i turns net now start before → b ≡ true → trying.IsTurn b (get_or turns i d).1 now new → ComparesTurn telling.told_at b new before after
      → IsMadeTo runs (i + 1) turns net new start after
  made-more turns net now new start before after i d b less so made turn went =
      let (entry, later, is) = laws.made (get_or turns i d).1 now new (subst (λ z. trying.IsTurn z (get_or turns i d).1 now new) made turn) in
      let last = subst (λ z. ComparesTurn telling.told_at z new before after) made went in
      let same : new ≡ network_parts net (now.journal ++ entry ∷ []) = later ∙ ap (λ z. network_parts z (now.journal ++ entry ∷ [])) so.net_is in
      let piece : GoesOn before after (entry_text net.clients entry (telling.told_at net (now.journal ++ entry ∷ []) (length now.journal) entry)) =
      subst (λ (z : NetworkParts). GoesOn before after (entry_text z.net.clients entry (telling.told_at z.net z.journal (length now.journal) entry))) same
      (last now.journal entry (ap (λ (z : NetworkParts). z.journal) later)) in
      let whole : GoesOn start after (entries_text net.clients (now.journal ++ entry ∷ []) (runs.told_by net (now.journal ++ entry ∷ []))) =
      subst (GoesOn start after) (text-one-more net now.journal entry)
      (goes_then start before after (entries_text net.clients now.journal (runs.told_by net now.journal))
      (entry_text net.clients entry (telling.told_at net (now.journal ++ entry ∷ []) (length now.journal) entry)) so.compared piece) in
      record {
        net_is = ap (λ (z : NetworkParts). z.net) same;
        made = subst (λ z. AreMade runs net [] z new.journal) (sym (take_more turns i d less))
            (subst (λ (z : NetworkParts). AreMade runs net [] (take i turns ++ get_or turns i d ∷ []) z.journal) (sym same)
            (made-on runs net [] (take i turns) now.journal (get_or turns i d) entry so.made (subst (λ z. runs.IsEntryOf z now.journal (get_or turns i d).1 entry) so.net_is is)));
        compared = subst (λ (z : NetworkParts). GoesOn start after (entries_text net.clients z.journal (runs.told_by net z.journal))) (sym same) whole;
      }

  -- a turn that is not permitted
  pub made-stops : (turns : List (ℕ × Turn)) (net : NetParts) (now new : NetworkParts) (start before : ComparingParts) (i : ℕ) (d : ℕ × Turn) (b : Bool) → i < length turns
      → IsMadeTo runs i turns net now start before → b ≡ false → trying.IsTurn b (get_or turns i d).1 now new → StopsAtLine runs net [] turns (get_or turns i d).0
  made-stops turns net now new start before i d b less so not-made turn =
      stops-there runs net turns i d now.journal less so.made
      (subst (λ z. runs.IsBarred z now.journal (get_or turns i d).1) so.net_is
      (laws.barred (get_or turns i d).1 now new (subst (λ z. trying.IsTurn z (get_or turns i d).1 now new) not-made turn)))

  -- a walk decides whether a run is drained
  pub tells_drained : (more : Bool) (old new : NetworkParts) → walking.IsPhaseOf more old new → trying.IsLegal new.net new.journal → TellsDrained runs (not more) old.net old.journal
  tells_drained true old new w legal = laws.not_drained old new w legal
  tells_drained false old new w legal = (laws.drained old new w).1

  pub stays_drained : (more : Bool) (old new : NetworkParts) → walking.IsPhaseOf more old new → not more ≡ true → new ≡ old
  stays_drained true old new w e = cc
  stays_drained false old new w e = (laws.drained old new w).0

  -- what was printed of the network is the text of its run
  pub text-is : (net : NetParts) (journal : List EntryParts)
      → deliveries_text net (of_clients net (refused_by ruling net journal)) (of_clients net (ruling.received_by net journal)) false ++ trace_text net journal (telling.told_by net journal)
      ≡ traced_text runs net journal
  text-is net journal = λ i.
      deliveries_text net (of_clients net (λ c. laws.refused net journal c i)) (of_clients net (λ c. laws.received net journal c i)) false
      ++ trace_text net journal (laws.told_is net journal i)

  pub total-is : (net : NetParts) (journal : List EntryParts) → total (of_clients net (ruling.received_by net journal)) ≡ delivered_in runs net journal
  total-is net journal = λ i. total (of_clients net (λ c. laws.received net journal c i))
