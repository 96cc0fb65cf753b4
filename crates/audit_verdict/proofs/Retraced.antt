-- The text of a run with its trace, read as the turns of its entries.
use Rattle.std.proofs.Common.{◌≡◌, ℕ, zero, suc, ◌+◌, ◌<◌, ◌^◌, Bool, true, false, inl, inr, List, [], ◌∷◌, ◌++◌, length, map, Some, Ok, Err, refl, sym, ap, subst, ◌∙◌, arith, append_assoc, append-nil, nat_le}
use Rattle.std.specs.Prelude.{codes, slice_get, if◌then◌else◌}
use Rattle.std.specs.Fmt.{decimal}
use Rattle.std.specs.List.{flat_map}
use Rattle.std.proofs.lemmas.List.{map-append}
use Rattle.filter_text.specs.declared.sent.Sent.{Sent}
use Rattle.filter_text.specs.Deliveries.{Delivery}
use Rattle.net_model.specs.declared.turn.Act.{Act}
use Rattle.net_model.specs.declared.turn.Act.TheVariants as acts
use Rattle.net_model.specs.declared.turn.Turn.{Turn}
use Rattle.net_model.specs.Parts.{ClientParts, NetParts, EntryParts}
use Rattle.net_model.specs.Nets.{client_name, name_in}
use Rattle.output_report.specs.Lines.{client_line, publication_line, refused_line}
use Rattle.output_report.specs.Deliveries.{deliveries_text, delivery_line, delivery_section, delivery_sections}
use Rattle.output_report.specs.Trace.{act_text, entries_text, entry_line, entry_text, sent_line, trace_head, trace_text}
use Rattle.audit_claim.specs.Output.{output_lines}
use Rattle.audit_claim.specs.Trace.{begins_trace, is_trace_head, shown_by, then_on, trace_behind, trace_line, turns_from, with_line}
use Rattle.audit_claim.specs.declared.line.TraceLine.{TraceLine}
use Rattle.audit_claim.specs.declared.line.TraceLine.TheVariants.{Entry, Message}
use Rattle.audit_claim.proofs.Spelled.{are_shown, client-first, deliver-first, entry-read, message-read, output-line, refused-first, trace-counted, trace-first}
use Rattle.audit_verdict.proofs.Entries.{IsReadable}
use Rattle.audit_verdict.proofs.Kept.{All}
use Rattle.net_turns.specs.Retold.{turn_of_entry}
use Rattle.audit_verdict.proofs.ShownTexts.{IsShownDelivery, IsShownSent, decimal-shown}
use Rattle.base.proofs.Lists.{list_all-append}

-- a line and what follows it
line-apart : (line more : List ℕ) → are_shown line ≡ true → output_lines ((line ++ 10 ∷ []) ++ more) ≡ line ∷ output_lines more
line-apart line more s = ap output_lines (append_assoc line (10 ∷ []) more) ∙ output-line line more s

-- Lines before the trace.

-- no line of the text begins a trace
abbrev Skips : List ℕ → Type 0
Skips text = (more : List ℕ) (n : ℕ) → (m : ℕ) × (trace_behind n (output_lines (text ++ more)) ≡ trace_behind m (output_lines more))

skip-none : Skips []
skip-none more n = (n, refl)

skip-line : (line : List ℕ) → are_shown line ≡ true → begins_trace line ≡ false → Skips (line ++ 10 ∷ [])
skip-line line s e more n = (n + 1, ap (trace_behind n) (line-apart line more s) ∙ go (begins_trace line) e)
  where
    go : (b : Bool) → b ≡ false → (if b then (if is_trace_head line then Ok (n + 1, output_lines more) else Err n) else trace_behind (n + 1) (output_lines more)) ≡ trace_behind (n + 1) (output_lines more)
    go true f = absurd cc
    go false f = refl

skip-append : (a b : List ℕ) → Skips a → Skips b → Skips (a ++ b)
skip-append a b p q more n =
    let x = p (b ++ more) n in
    let y = q more x.0 in
    (y.0, ap (λ z. trace_behind n (output_lines z)) (append_assoc a b more) ∙ x.1 ∙ y.1)

skip-flat : {A : Type 0} (P : A → Type 0) (text : A → List ℕ) → ((x : A) → P x → Skips (text x)) → (xs : List A) → All P xs → Skips (flat_map text xs)
skip-flat P text one [] h = skip-none
skip-flat P text one (x ∷ xs) h = skip-append (text x) (flat_map text xs) (one x (h x (inl refl))) (skip-flat P text one xs (λ y m. h y (inr m)))

-- names are shown
abbrev pub AreShownNames : List ClientParts → Type 0
AreShownNames clients = All (λ (c : ClientParts). are_shown c.name ≡ true) clients

place-shown : (clients : List ClientParts) → AreShownNames clients → (k : ℕ) → are_shown (name_in (slice_get clients k)) ≡ true
place-shown [] h k = refl
place-shown (c ∷ cs) h zero = h c (inl refl)
place-shown (c ∷ cs) h (suc k) = place-shown cs (λ x m. h x (inr m)) k

name-shown : (clients : List ClientParts) → AreShownNames clients → (k : ℕ) → are_shown (client_name clients k) ≡ true
name-shown clients h zero = refl
name-shown clients h (suc k) = place-shown clients h k

client-skips : (name : List ℕ) → are_shown name ≡ true → Skips (client_line name)
unfolding client_line
client-skips name s = skip-line (codes "client " ++ name) (list_all-append (nat_le 32) (codes "client ") name refl s) (client-first name)

refused-skips : (ordinal : ℕ) → Skips (refused_line ordinal)
unfolding refused_line
refused-skips ordinal =
    let line : List ℕ = codes "refused " ++ decimal ordinal ++ codes " unadvertised" in
    subst Skips (append_assoc (codes "refused " ++ decimal ordinal) (codes " unadvertised") (10 ∷ []))
    (skip-line (codes "refused " ++ decimal ordinal ++ codes " unadvertised")
    (list_all-append (nat_le 32) (codes "refused " ++ decimal ordinal) (codes " unadvertised") (list_all-append (nat_le 32) (codes "refused ") (decimal ordinal) refl (decimal-shown ordinal)) refl)
    (refused-first (decimal ordinal ++ codes " unadvertised")))

delivery-skips : (clients : List ClientParts) → AreShownNames clients → (d : Delivery) → IsShownDelivery d → Skips (delivery_line clients d)
unfolding delivery_line publication_line
delivery-skips clients names d s =
    skip-line (codes "deliver " ++ client_name clients d.id.publisher ++ codes " " ++ decimal d.id.ordinal ++ codes " " ++ d.bytes)
    (list_all-append (nat_le 32) (codes "deliver " ++ client_name clients d.id.publisher ++ codes " " ++ decimal d.id.ordinal ++ codes " ") d.bytes
    (list_all-append (nat_le 32) (codes "deliver " ++ client_name clients d.id.publisher ++ codes " " ++ decimal d.id.ordinal) (codes " ")
    (list_all-append (nat_le 32) (codes "deliver " ++ client_name clients d.id.publisher ++ codes " ") (decimal d.id.ordinal)
    (list_all-append (nat_le 32) (codes "deliver " ++ client_name clients d.id.publisher) (codes " ")
    (list_all-append (nat_le 32) (codes "deliver ") (client_name clients d.id.publisher) refl (name-shown clients names d.id.publisher)) refl) (decimal-shown d.id.ordinal)) refl) s)
    (deliver-first (client_name clients d.id.publisher ++ codes " " ++ decimal d.id.ordinal ++ codes " " ++ d.bytes))

section-skips : (clients : List ClientParts) → AreShownNames clients → (c : ClientParts) → are_shown c.name ≡ true → (refused : List ℕ) (received : List Delivery) → All IsShownDelivery received
    → Skips (delivery_section clients false c refused received)
unfolding delivery_section
section-skips clients names c s refused received h =
    skip-append (client_line c.name ++ flat_map refused_line refused) (flat_map (delivery_line clients) received)
    (skip-append (client_line c.name) (flat_map refused_line refused) (client-skips c.name s) (skip-flat (λ (o : ℕ). Unit {0}) refused_line (λ o u. refused-skips o) refused (λ o m. tt)))
    (skip-flat IsShownDelivery (delivery_line clients) (delivery-skips clients names) received h)

sections-skip : (clients : List ClientParts) → AreShownNames clients → (cs : List ClientParts) → AreShownNames cs → (refused : List (List ℕ)) (received : List (List Delivery)) → All (All IsShownDelivery) received
    → Skips (delivery_sections clients false cs refused received)
sections-skip clients names [] own refused received h = skip-none
sections-skip clients names (c ∷ cs) own [] received h = skip-none
sections-skip clients names (c ∷ cs) own (o ∷ refused) [] h = skip-none
sections-skip clients names (c ∷ cs) own (o ∷ refused) (l ∷ received) h =
    skip-append (delivery_section clients false c o l) (delivery_sections clients false cs refused received)
    (section-skips clients names c (own c (inl refl)) o l (h l (inl refl)))
    (sections-skip clients names cs (λ x m. own x (inr m)) refused received (λ x m. h x (inr m)))

-- Lines of the trace.

-- behind the lines of the text, these turns are shown besides
abbrev Reads : NetParts → List ℕ → List Turn → Type 0
Reads net text turns = (more : List ℕ) (n : ℕ) (before : List (ℕ × Turn)) → (m : ℕ) × (list : List (ℕ × Turn)) × (map (λ (t : ℕ × Turn). t.1) list ≡ turns)
    × (turns_from net n before (output_lines (text ++ more)) ≡ turns_from net m (before ++ list) (output_lines more))

reads-none : (net : NetParts) → Reads net [] []
reads-none net more n before = (n, [], refl, ap (λ z. turns_from net n z (output_lines more)) (sym (append-nil before)))

reads-append : (net : NetParts) (a b : List ℕ) (xs ys : List Turn) → Reads net a xs → Reads net b ys → Reads net (a ++ b) (xs ++ ys)
reads-append net a b xs ys p q more n before =
    let x = p (b ++ more) n before in
    let y = q more x.0 (before ++ x.1) in (
      y.0,
      x.1 ++ y.1,
      map-append (λ (t : ℕ × Turn). t.1) x.1 y.1 ∙ (λ i. x.2 i ++ y.2 i),
      ap (λ z. turns_from net n before (output_lines z)) (append_assoc a b more) ∙ x.3 ∙ y.3 ∙ ap (λ z. turns_from net y.0 z (output_lines more)) (append_assoc before x.1 y.1),
    )

by-line : (net : NetParts) (line more : List ℕ) (n : ℕ) (before : List (ℕ × Turn)) (t : TraceLine) → are_shown line ≡ true → trace_line net line ≡ Some t
    → turns_from net n before (output_lines ((line ++ 10 ∷ []) ++ more)) ≡ then_on (with_line n before (Some t)) (λ next. turns_from net (n + 1) next (output_lines more))
by-line net line more n before t s e =
    ap (turns_from net n before) (line-apart line more s) ∙ ap (λ z. then_on (with_line n before z) (λ next. turns_from net (n + 1) next (output_lines more))) e

reads-turn : (net : NetParts) (line : List ℕ) (turn : Turn) → are_shown line ≡ true → trace_line net line ≡ Some (Entry turn) → Reads net (line ++ 10 ∷ []) (turn ∷ [])
reads-turn net line turn s e more n before = (n + 1, (n, turn) ∷ [], refl, by-line net line more n before (Entry turn) s e)

reads-message : (net : NetParts) (line : List ℕ) → are_shown line ≡ true → trace_line net line ≡ Some Message → Reads net (line ++ 10 ∷ []) []
reads-message net line s e more n before =
    (n + 1, [], refl, by-line net line more n before Message s e ∙ ap (λ z. turns_from net (n + 1) z (output_lines more)) (sym (append-nil before)))

sent-reads : (net : NetParts) (sent : Sent) → IsShownSent sent → Reads net (sent_line sent) []
unfolding sent_line
sent-reads net sent s =
    reads-message net (codes "out " ++ decimal sent.to ++ codes " " ++ sent.bytes)
    (list_all-append (nat_le 32) (codes "out " ++ decimal sent.to ++ codes " ") sent.bytes (list_all-append (nat_le 32) (codes "out " ++ decimal sent.to) (codes " ") (list_all-append (nat_le 32) (codes "out ") (decimal sent.to) refl (decimal-shown sent.to)) refl) s)
    (message-read net (decimal sent.to ++ codes " " ++ sent.bytes))

all-sent-read : (net : NetParts) (messages : List Sent) → All IsShownSent messages → Reads net (flat_map sent_line messages) []
all-sent-read net [] h = reads-none net
all-sent-read net (x ∷ xs) h = reads-append net (sent_line x) (flat_map sent_line xs) [] [] (sent-reads net x (h x (inl refl))) (all-sent-read net xs (λ y m. h y (inr m)))

act-shown : (clients : List ClientParts) → AreShownNames clients → (act : Act) → are_shown (act_text clients act) ≡ true
unfolding act_text
act-shown clients names (acts.Command client) = list_all-append (nat_le 32) (codes "command ") (client_name clients client) refl (name-shown clients names client)
act-shown clients names (acts.Receive from) = list_all-append (nat_le 32) (codes "take ") (decimal from) refl (decimal-shown from)
act-shown clients names acts.TableUpdate = refl

apart : (s v a : List ℕ) → ((s ++ codes " " ++ v) ++ codes " ") ++ a ≡ s ++ 32 ∷ (v ++ 32 ∷ a)
apart s v a = append_assoc (s ++ codes " " ++ v) (codes " ") a ∙ append_assoc (s ++ codes " ") v (32 ∷ a) ∙ append_assoc s (codes " ") (v ++ 32 ∷ a)

entry-reads : (net : NetParts) → AreShownNames net.clients → (e : EntryParts) → IsReadable net e → Reads net (entry_line net.clients e) (turn_of_entry e ∷ [])
unfolding entry_line
entry-reads net names e r =
    reads-turn net (codes "entry " ++ decimal e.stamp ++ codes " " ++ decimal e.server ++ codes " " ++ act_text net.clients e.act) (turn_of_entry e)
    (list_all-append (nat_le 32) (codes "entry " ++ decimal e.stamp ++ codes " " ++ decimal e.server ++ codes " ") (act_text net.clients e.act)
    (list_all-append (nat_le 32) (codes "entry " ++ decimal e.stamp ++ codes " " ++ decimal e.server) (codes " ")
    (list_all-append (nat_le 32) (codes "entry " ++ decimal e.stamp ++ codes " ") (decimal e.server)
    (list_all-append (nat_le 32) (codes "entry " ++ decimal e.stamp) (codes " ") (list_all-append (nat_le 32) (codes "entry ") (decimal e.stamp) refl (decimal-shown e.stamp)) refl) (decimal-shown e.server)) refl)
    (act-shown net.clients names e.act))
    (ap (λ z. trace_line net (codes "entry " ++ z)) (apart (decimal e.stamp) (decimal e.server) (act_text net.clients e.act))
    ∙ entry-read net e.stamp e.server (act_text net.clients e.act) (turn_of_entry e) r.low r.small r.server r.act)

text-reads : (net : NetParts) → AreShownNames net.clients → (e : EntryParts) (messages : List Sent) → IsReadable net e → All IsShownSent messages → Reads net (entry_text net.clients e messages) (turn_of_entry e ∷ [])
unfolding entry_text
text-reads net names e messages r h =
    reads-append net (entry_line net.clients e) (flat_map sent_line messages) (turn_of_entry e ∷ []) [] (entry-reads net names e r) (all-sent-read net messages h)

entries-read : (net : NetParts) → AreShownNames net.clients → (es : List EntryParts) (outs : List (List Sent)) → length outs ≡ length es → All (IsReadable net) es → All (All IsShownSent) outs
    → Reads net (entries_text net.clients es outs) (map turn_of_entry es)
entries-read net names [] outs l r h = reads-none net
entries-read net names (e ∷ es) [] l r h = absurd (omega (arith, l))
entries-read net names (e ∷ es) (o ∷ outs) l r h =
    reads-append net (entry_text net.clients e o) (entries_text net.clients es outs) (turn_of_entry e ∷ []) (map turn_of_entry es)
    (text-reads net names e o (r e (inl refl)) (h o (inl refl))) (entries-read net names es outs (omega (arith, l)) (λ x m. r x (inr m)) (λ x m. h x (inr m)))

-- THE WHOLE TEXT

no_lines : output_lines [] ≡ []
unfolding output_lines
no_lines = refl

head-read : (n count : ℕ) (more : List ℕ) → count < 2 ^ 64 → trace_behind n (output_lines (trace_head count ++ more)) ≡ Ok (n + 1, output_lines more)
unfolding trace_head
head-read n count more l =
    ap (trace_behind n) (line-apart (codes "trace " ++ decimal count) more (list_all-append (nat_le 32) (codes "trace ") (decimal count) refl (decimal-shown count)))
    ∙ rw (trace-first (decimal count), trace-counted count l) refl

pub run-read : (net : NetParts) → AreShownNames net.clients → (refused : List (List ℕ)) (received : List (List Delivery)) (journal : List EntryParts) (outs : List (List Sent)) → All (All IsShownDelivery) received
    → length outs ≡ length journal → length journal < 2 ^ 64 → All (IsReadable net) journal → All (All IsShownSent) outs
    → (n : ℕ) → (m : ℕ) × (list : List (ℕ × Turn)) × (map (λ (t : ℕ × Turn). t.1) list ≡ map turn_of_entry journal)
    × (shown_by net n (output_lines (deliveries_text net refused received false ++ trace_text net journal outs)) ≡ Ok (list, m))
run-read net names refused received journal outs shown same few readable sent n =
    let before = sections-skip net.clients names net.clients names refused received shown (trace_text net journal outs) n in
    let x = entries-read net names journal outs same readable sent [] (before.0 + 1) [] in
    let whole : entries_text net.clients journal outs ++ [] ≡ entries_text net.clients journal outs = append-nil (entries_text net.clients journal outs) in (
      x.0,
      x.1,
      x.2,
      ap (λ z. then_on z (λ (b : ℕ × List (List ℕ)). turns_from net b.0 [] b.1)) (before.1 ∙ head-read before.0 (length journal) (entries_text net.clients journal outs) few)
          ∙ ap (λ z. turns_from net (before.0 + 1) [] (output_lines z)) (sym whole) ∙ x.3 ∙ ap (turns_from net x.0 x.1) no_lines,
    )
