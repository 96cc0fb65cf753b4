use Rattle.std.proofs.Common.{◌≡◌, ℕ, List, [], ◌++◌, refl, sym, ap, ◌∙◌, subst, append-nil}
use Rattle.net_model.specs.Parts.{NetParts, EntryParts}
use Rattle.document_format.specs.DocumentText.{as_written, document_text}
use Rattle.document_format.specs.Limits.{FitsDocument}
use Rattle.document_reader.specs.Net.{IsNetOf}
use Rattle.net_journal.specs.Record.{RecordParts}
use Rattle.program_sequential.specs.declared.body.Body.TheVariants as bodies
use Rattle.program_sequential.specs.Printed.{IsFormatOf}
use Rattle.program_sequential.specs.Showing.{PrintedParts, printed_parts}
use Rattle.program_sequential.proofs.Ended.{if-ok}
use Rattle.program_sequential.proofs.printed.format.Goals as goal

formatted : (net : NetParts) (p : PrintedParts) (rest : List ℕ) (journal : List EntryParts) → p ≡ printed_parts (bodies.Formatted net) rest journal → rest ≡ [] → journal ≡ []
    → (input : List ℕ) → IsNetOf input net → (FitsDocument net → IsNetOf (document_text net) (as_written net))
    → (FitsDocument net → (other : NetParts) → IsNetOf (document_text net) other → document_text other ≡ document_text net)
    → IsFormatOf input p.text × (p.journal ≡ [])
formatted net p rest journal e none empty input of read again =
    let same : p.text ≡ document_text net = ap (λ (z : PrintedParts). z.text) e ∙ (ap (λ l. document_text net ++ l) none ∙ append-nil (document_text net)) in (
      subst (IsFormatOf input) (sym same) (record { net = net; well_formed = of; printed = refl; read = read; again = again }),
      ap (λ (z : PrintedParts). z.journal) e ∙ empty,
    )

pub returns : goal.returns
returns c =
    let net = c.args.net in
    if-ok c.make.result (λ p. p ≡ printed_parts (bodies.Formatted net) c.new.result.items c.empty.result.entries) _
    (λ p e input of. formatted net p c.new.result.items c.empty.result.entries e c.new.ensures.items (ap (λ (r : RecordParts). r.entries) c.empty.ensures) input of
    (c.lemma_text_read.ensures.read input net of) (λ fits other is. c.lemma_text_read.ensures.again input net other of fits is)) c.make.ensures
