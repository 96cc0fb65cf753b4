-- What a legal and drained run writes is confirmed, with its journal.
use Rattle.std.proofs.Common.{◌≡◌, inl, inr, ℕ, ◌<◌, ◌^◌, List, [], length, map, Ok, None, refl, sym, ap, subst, ◌∙◌, arith}
use Rattle.filter_text.specs.Deliveries.{Delivery}
use Rattle.filter_text.specs.declared.sent.Sent.{Sent}
use Rattle.law_routing.specs.Net.{PhasedCommand}
use Rattle.net_model.specs.Real.{real}
use Rattle.net_model.specs.declared.turn.Turn.{Turn}
use Rattle.net_model.specs.Parts.{NetParts, EntryParts}
use Rattle.net_model.specs.Nets.{of_clients, script_of}
use Rattle.net_model.specs.Sound.{IsSound}
use Rattle.net_turns.specs.Network.{moment_by, received_by}
use Rattle.net_turns.specs.Retold.{turn_of_entry}
use Rattle.net_turns.specs.Told.{told_by}
use Rattle.document_reader.specs.Net.{IsNetOf}
use Rattle.document_reader.specs.Rules.{version_number}
use Rattle.document_reader.proofs.SoundDocuments.{document_is_sound}
use Rattle.document_format.proofs.Writable.{document_writable}
use Rattle.document_reader.specs.Cut.{first_number}
use Rattle.audit_claim.specs.Claim.{output_shows}
use Rattle.audit_claim.specs.Difference.{difference}
use Rattle.audit_claim.specs.Output.{output_lines}
use Rattle.audit_claim.specs.Trace.{shown_by}
use Rattle.audit_claim.proofs.Apart.{equal_none}
use Rattle.audit_claim.proofs.Spelled.{AreApart}
use Rattle.audit_verdict.specs.Kinds.{AreMade, RunKind, peers}
use Rattle.audit_verdict.specs.Verdict.{ComparesRun, IsOutputOf, IsVerdict, ShowsRun, traced_text}
use Rattle.audit_verdict.proofs.Entries.{IsReadable, few, readable, there}
use Rattle.audit_verdict.proofs.Kept.{All, KeepsCommand}
use Rattle.audit_verdict.proofs.Remade.{run-remade}
use Rattle.audit_verdict.proofs.Retraced.{run-read}
use Rattle.audit_verdict.proofs.ShownRuns.{all-told-shown, apart-there, as-many-told, names-shown, received-shown, scripts-shown}
use Rattle.audit_verdict.proofs.ShownTexts.{IsShownDelivery, IsShownList, IsShownNotice, IsShownSent}

-- what a document's net is, as far as its texts go: all of it is shown, and names differ
pub record IsShownNet (net : NetParts) : Type 0 where
  pub sound : IsSound net
  pub apart : AreApart net.clients
  pub scripts : (c : ℕ) → All (λ (x : PhasedCommand real). KeepsCommand real IsShownList IsShownList IsShownNotice x.command) (script_of net c)

-- what is asked of a run of any kind: it is short, its entries are read as their turns, which make it again, and its texts are shown
pub record IsShownRun (kind : RunKind) (net : NetParts) (journal : List EntryParts) : Type 0 where
  pub few : length journal < 1000000000
  pub readable : All (IsReadable net) journal
  pub remade : (list : List (ℕ × Turn)) → map (λ (t : ℕ × Turn). t.1) list ≡ map turn_of_entry journal → AreMade kind net [] list journal
  pub received : All (All IsShownDelivery) (of_clients net (kind.received_by net journal))
  pub many : length (kind.told_by net journal) ≡ length journal
  pub told : All (All IsShownSent) (kind.told_by net journal)

module _ (kind : RunKind) (shown-run : (net : NetParts) (journal : List EntryParts) → IsShownNet net → kind.IsLegal net journal → IsShownRun kind net journal) where
  -- what the output of a run shows
  Shows : NetParts → List ℕ → List ℕ → List EntryParts → Type 0
  Shows net document output journal = (m : ℕ) × (list : List (ℕ × Turn)) × AreMade kind net [] list journal × (output_shows net document output ≡ Ok (list, m))

  shows-run : (document output : List ℕ) (net : NetParts) (journal : List EntryParts) → IsNetOf document net → IsOutputOf kind net journal output → Shows net document output journal
  unfolding Shows
  shows-run document output net journal w run =
      let writable = document_writable document net w in
      let is = shown-run net journal
      (record { sound = document_is_sound document net w; apart = apart-there net.clients writable.apart; scripts = scripts-shown (version_number writable.version) writable.first.1.count net writable.clients }) run.legal in
      let small : length journal < 2 ^ 64 = omega (arith, is.few) in
      let x = run-read net (names-shown (version_number writable.version) writable.first.1.count net.clients writable.clients) (of_clients net (kind.refused_by net journal)) (of_clients net (kind.received_by net journal)) journal (kind.told_by net journal)
      is.received is.many small is.readable is.told (first_number document) in (
        x.0,
        x.1,
        is.remade x.1 x.2,
        ap (λ z. shown_by net (first_number document) (output_lines z)) run.text ∙ x.3,
      )

  -- its verdict
  pub run-verdict : (document output : List ℕ) (net : NetParts) (journal : List EntryParts) → IsNetOf document net → IsOutputOf kind net journal output → IsVerdict kind net document output (Ok journal)
  unfolding Shows
  run-verdict document output net journal w run =
      let x = shows-run document output net journal w run in
      let same : difference output (traced_text kind net journal) ≡ None = ap (difference output) (sym run.text) ∙ equal_none output in
      subst (ShowsRun kind net (first_number document) output (Ok journal)) (sym x.3)
      (inr (journal, x.2, subst (ComparesRun kind net (first_number document) x.0 output journal (Ok journal)) (sym same) (inl (run.drained, refl))))

-- A run of peers is so.
pub shown-of-peers : (net : NetParts) (journal : List EntryParts) → IsShownNet net → peers.IsLegal net journal → IsShownRun peers net journal
shown-of-peers net journal is legal =
    let end = moment_by net journal in
    record {
      few = few net is.sound journal (moment_by net journal) legal;
      readable = readable net is.sound journal (moment_by net journal) legal is.apart;
      remade = run-remade net journal legal (there net is.sound journal (moment_by net journal) legal);
      received = received-shown net is.scripts journal;
      many = as-many-told net journal;
      told = all-told-shown net is.scripts journal;
    }
