-- Two nets of one document have the same clients, so its flood text is that of each.
use Rattle.std.proofs.Common.{◌≡◌, ℕ, suc, ◌+◌, ◌≤◌, true, List, [], ◌∷◌, map, length, slice_get, Some, refl, sym, ap, ◌∙◌, subst, arith}
use Rattle.std.specs.List.{range_with_len}
use Rattle.filter_text.specs.Deliveries.{Delivery}
use Rattle.net_model.specs.Parts.{ClientParts, NetParts}
use Rattle.net_model.specs.Nets.{of_clients}
use Rattle.document_reader.specs.Net.{IsNetOf}
use Rattle.output_flood.specs.declared.owed.OwedRow.{OwedRow}
use Rattle.output_flood.specs.Flooding.{IsFlooding}
use Rattle.output_report.specs.Deliveries.{deliveries_text}
use Rattle.output_report.specs.Drained.{inboxes}
use Rattle.output_report.specs.Flood.{flood_sections, flood_text}
use Rattle.output_report.specs.Published.{texts_in}
use Rattle.program_sequential.specs.Printed.{IsFloodOf}
use Rattle.program_sequential.specs.Promise.{ClientLists, RefusesByScripts, lists_text}
use Rattle.program_sequential.proofs.Documents.{same-clients, same-semantics}
use Rattle.program_sequential.proofs.Inboxes.{listed}
use Rattle.program_sequential.proofs.SameNets.{same-flooding}
use Rattle.std.proofs.lemmas.Option.{slice_get_within}
use Rattle.base.proofs.Numbers.{suc-one-add}

-- what flooding's text is made of
abbrev sections : List ClientParts → List (List ℕ) → List (List OwedRow) → List ℕ
sections clients refused rows = flood_sections clients (texts_in clients) clients refused rows

-- numbered lists
numbered-inboxes : (f : ℕ → List Delivery) (n : ℕ) (clients : List ClientParts) → inboxes f n clients ≡ map f (range_with_len n (length clients))
numbered-inboxes f n [] = refl
numbered-inboxes f n (c ∷ cs) = ap (λ l. f n ∷ l) (numbered-inboxes f (suc n) cs ∙ ap (λ m. map f (range_with_len m (length cs))) (omega arith))

-- where a client's refused ordinals are all of its refused publishes, they are those of flooding
all-refused : (net : NetParts) (lists : ClientLists) (rows : List (List OwedRow)) (refused : List (List ℕ)) → RefusesByScripts net lists
    → IsFlooding net rows refused → refused ≡ of_clients net lists.refused
all-refused net lists rows refused all flooding =
    listed lists.refused 1 refused at ∙ ap (λ n. map lists.refused (range_with_len 1 n)) flooding.all_ordinals
  where
    at : (i : ℕ) (x : List ℕ) → slice_get refused i ≡ Some x → x ≡ lists.refused (1 + i)
    at i x e =
        let below : suc i ≤ length net.clients = subst (λ n. suc i ≤ n) flooding.all_ordinals (slice_get_within refused i x e) in
        flooding.ordinals i x e ∙ sym (all (suc i) (omega arith, below)) ∙ ap lists.refused (suc-one-add i)

-- what flooding owes by a document it owes in each of its nets
pub flooding-in : (input : List ℕ) (net : NetParts) (text : List ℕ) → IsNetOf input net → (flood : IsFloodOf input text) → IsFlooding net flood.rows flood.refused
flooding-in input net text of flood =
    same-flooding flood.net net flood.rows flood.refused (same-semantics input flood.net net flood.well_formed of) (same-clients input flood.net net flood.well_formed of) flood.flooding

pub flood-printed : (input : List ℕ) (net : NetParts) (lists : ClientLists) (text : List ℕ) → IsNetOf input net → RefusesByScripts net lists
    → (flood : IsFloodOf input text) → (IsFlooding net flood.rows flood.refused
    → flood_text net flood.refused flood.rows ≡ deliveries_text net flood.refused (inboxes lists.received 1 net.clients) true)
    → lists_text net lists true ≡ text
flood-printed input net lists text of all flood printed =
    let flooding = flooding-in input net text of flood in
    ap (λ l. deliveries_text net l (of_clients net lists.received) true) (sym (all-refused net lists flood.rows flood.refused all flooding))
    ∙ ap (λ l. deliveries_text net flood.refused l true) (sym (numbered-inboxes lists.received 1 net.clients))
    ∙ sym (printed flooding)
    ∙ sym (ap (λ l. sections l flood.refused flood.rows) (same-clients input flood.net net flood.well_formed of))
    ∙ sym flood.printed
