-- A text that keeps the promise of a document has one set of lists: what is printed of a client can be read again.
use Rattle.std.proofs.Common.{◌≡◌, inl, inr, ℕ, zero, suc, ◌+◌, ◌-◌, ◌^◌, ◌<◌, ◌≤◌, ◌⊎◌, Bool, true, false, not, cond, List, [], ◌∷◌, ◌++◌, length, map, take, sym, ap, subst, ◌∙◌, arith, nat_le}
use Rattle.std.specs.List.{range_with_len}
use Rattle.std.proofs.lemmas.Bool.{and_parts}
use Rattle.std.proofs.lemmas.List.{length-map}
use Rattle.std.proofs.lemmas.List.FromFn.{length-range_with_len}
use Rattle.std.proofs.lemmas.Option.{slice_get_within}
use Rattle.base.specs.Numbers.{sum_over}
use Rattle.base.specs.Sets.{Has}
use Rattle.base.proofs.Numbers.{le-or-gt}
use Rattle.base.proofs.Sets.{has-map, has-range}
use Rattle.filter_types.specs.Notice.{Attribute}
use Rattle.filter_text.specs.MessageText.{Each}
use Rattle.filter_text.specs.NoticeText.{IsNoticeText, notice_text}
use Rattle.filter_text.specs.Deliveries.{Delivery}
use Rattle.filter_text.specs.declared.id.Id.{Id}
use Rattle.law_machine.proofs.Bound.{sum-has}
use Rattle.law_routing.specs.Clients.{is_publish, ordinal}
use Rattle.law_routing.specs.Net.{PhasedCommand}
use Rattle.law_routing.proofs.Refusals.{refused-exactly}
use Rattle.law_phases.specs.Trees.{PhasedNetLaws, net_at}
use Rattle.net_model.specs.Real.{real}
use Rattle.net_model.specs.Parts.{ClientParts, NetParts}
use Rattle.net_model.specs.Nets.{clients_in, clients_of, home_of, of_clients, phased_net, script_of, servers_in}
use Rattle.net_model.specs.Sound.{IsSound}
use Rattle.net_model.proofs.Counted.{few-commands}
use Rattle.document_reader.specs.Lines.{is_blank}
use Rattle.document_reader.specs.Net.{IsNetOf}
use Rattle.document_reader.specs.Rules.{version_number}
use Rattle.document_reader.proofs.SoundDocuments.{document_is_sound}
use Rattle.document_format.proofs.ClientStands.{IsWritableClient}
use Rattle.document_format.proofs.LineLaws.{are_dense, are_shown}
use Rattle.document_format.proofs.Shown.{notice_shown}
use Rattle.document_format.proofs.WordLaws.{name_word, word_dense}
use Rattle.document_format.proofs.Writable.{document_writable}
use Rattle.output_flood.specs.Flooding.{all_refused}
use Rattle.output_flood.proofs.Flooded.{Publisher, publisher_is}
use Rattle.output_report.specs.Deliveries.{deliveries_text, delivery_sections, ordered}
use Rattle.output_report.specs.Plain.{ArePlainLists, ArePlainNames, IsPlainDelivery, Lacks, MayFollow}
use Rattle.program_sequential.specs.declared.words.Shown.{Shown}
use Rattle.program_sequential.specs.Promise.{ClientLists, ClientPromise, IsAllowedDelivery, lists_text}
use Rattle.program_sequential.specs.Runs.{IsClient}
use Rattle.program_sequential.specs.SameLists.{GiveSame}
use Rattle.program_sequential.proofs.Documents.{same-clients}
use Rattle.program_sequential.proofs.Inboxes.{client-lives}

-- Names and the texts of notices.

dense-lacks : (w : List ℕ) → are_dense w ≡ true → Lacks 32 w
dense-lacks [] e h = h
dense-lacks (b ∷ w) e (inl p) = blank (subst (λ (z : ℕ). not (is_blank z) ≡ true) (sym p) (and_parts (not (is_blank b)) (are_dense w) e).0)
  where
    blank : not (is_blank 32) ≡ true → ⊥
    blank e = absurd cc
dense-lacks (b ∷ w) e (inr h) = dense-lacks w (and_parts (not (is_blank b)) (are_dense w) e).1 h

shown-lacks : (w : List ℕ) → are_shown w ≡ true → Lacks 10 w
shown-lacks [] e h = h
shown-lacks (b ∷ w) e (inl p) = newline (subst (λ (z : ℕ). nat_le 32 z ≡ true) (sym p) (and_parts (nat_le 32 b) (are_shown w) e).0)
  where
    newline : nat_le 32 10 ≡ true → ⊥
    newline e = absurd cc
shown-lacks (b ∷ w) e (inr h) = shown-lacks w (and_parts (nat_le 32 b) (are_shown w) e).1 h

names-lack : (version count : ℕ) (cs : List ClientParts) → Each (IsWritableClient version count) cs → (c : ClientParts) → Has c cs → Lacks 32 c.name
names-lack version count [] is c h = absurd h
names-lack version count (x ∷ cs) is c (inl e) =
    subst (λ (z : ClientParts). Lacks 32 z.name) (sym e) (dense-lacks x.name (word_dense x.name (name_word x.name is.0.name).bytes))
names-lack version count (x ∷ cs) is c (inr h) = names-lack version count cs is.1 c h

plain-names : (input : List ℕ) (net : NetParts) → IsNetOf input net → ArePlainNames net.clients
plain-names input net of =
    let w = document_writable input net of in record {
      differ = (document_is_sound input net of).names;
      words = names-lack (version_number w.version) w.first.1.count net.clients w.clients;
    }

notice-lacks : (bytes : List ℕ) (n : List Attribute) → IsNoticeText bytes n → Lacks 10 bytes
notice-lacks bytes n is = subst (Lacks 10) (sym is.text) (shown-lacks (notice_text n) (notice_shown n is.notice.names is.notice.values))

-- Ordinals.

ordinal-within : (j : ℕ) (cs : List (PhasedCommand real)) → ordinal real (take j cs) ≤ length cs
ordinal-within zero cs = omega arith
ordinal-within (suc j) [] = omega arith
ordinal-within (suc j) (c ∷ cs) = go (is_publish real c.command) (ordinal-within j cs)
  where
    go : (b : Bool) → ordinal real (take j cs) ≤ length cs → cond b (suc (ordinal real (take j cs))) (ordinal real (take j cs)) ≤ suc (length cs)
    go true l = omega (arith, l)
    go false l = omega (arith, l)

taken-within : {A : Type 0} (j : ℕ) (xs : List A) → length (take j xs) ≤ length xs
taken-within zero xs = omega arith
taken-within (suc j) [] = omega arith
taken-within (suc j) (x ∷ xs) = omega (arith, taken-within j xs)

few-steps : (net : NetParts) → IsSound net → PhasedNetLaws real (phased_net net) → (client : ℕ) → IsClient net client → length (script_of net client) ≤ 104096
few-steps net sound laws client is =
    let home = home_of net client in
    let one = sum-has (λ c. length (script_of net c) - 0) (clients_of net home) client (client-lives net client is) in
    let all = sum-has (λ s. sum_over (λ c. length (script_of net c) - 0) (clients_of net s)) (servers_in net) home (laws.housed client) in
    omega (arith, one, all, few-commands net sound)

refused-few : (net : NetParts) → IsSound net → PhasedNetLaws real (phased_net net) → (client : ℕ) → IsClient net client → (r : ℕ) → Has r (all_refused net client) → r < 2 ^ 64
refused-few net sound laws client is r h =
    let steps = take (length (script_of net client)) (script_of net client) in
    let w = (refused-exactly real (net_at real (phased_net net) 0) steps r).0 h in
    omega (arith, w.ordinal, ordinal-within (suc w.index) steps, taken-within (length (script_of net client)) (script_of net client), few-steps net sound laws client is)

-- Lists.

plain-delivery : (net : NetParts) → IsSound net → PhasedNetLaws real (phased_net net) → (client : ℕ) (d : Delivery) → IsAllowedDelivery net client d → IsPlainDelivery (length net.clients) d
plain-delivery net sound laws client d a =
    let p = a.publication in
    let publication = a.allowed.1 in
    let is : Publisher net p.publisher = publisher_is net p.publisher publication.index publication.command publication.at in
    let low = slice_get_within net.clients is.whose is.client is.at in
    let among : IsClient net p.publisher = (omega (arith, is.number), omega (arith, is.number, low)) in
    let few = few-steps net sound laws p.publisher among in
    let publisher : d.id.publisher ≡ p.publisher = ap (λ (z : Id). z.publisher) a.id in
    let ordinal : d.id.ordinal ≡ p.ordinal = ap (λ (z : Id). z.ordinal) a.id in record {
      publisher = (omega (arith, publisher, among.0), omega (arith, publisher, among.1));
      ordinal = omega (arith, ordinal, publication.ordinal, ordinal-within (suc publication.index) (script_of net p.publisher), few);
      line = notice-lacks d.bytes p.notice a.text;
    }

client-in : (net : NetParts) (client : ℕ) → Has client (clients_in net) → IsClient net client
client-in net client h = let w = has-range 1 (length net.clients) client h in (w.0, omega (arith, w.1))

plain-lists : (shown : Shown) (input text : List ℕ) (net : NetParts) (lists : ClientLists) (trace : List ℕ) → IsSound net → PhasedNetLaws real (phased_net net)
    → ClientPromise shown input text net lists trace → ArePlainLists net.clients (of_clients net lists.refused) (of_clients net lists.received)
plain-lists shown input text net lists trace sound laws promise = record {
  all_refused = length-map (clients_in net) lists.refused ∙ length-range_with_len 1 (length net.clients);
  all_received = length-map (clients_in net) lists.received ∙ length-range_with_len 1 (length net.clients);
  ordinals = λ list h r m.
      let c = has-map lists.refused (clients_in net) list h in
      let is = client-in net c.0 c.1 in
      refused-few net sound laws c.0 is r (subst (Has r) (c.2 ∙ promise.refusals c.0 is) m);
  deliveries = λ list h d m.
      let c = has-map lists.received (clients_in net) list h in
      let is = client-in net c.0 c.1 in
      plain-delivery net sound laws c.0 d (promise.allowed c.0 d is (subst (Has d) c.2 m));
}

-- THE LISTS OF A TEXT

first-one : {A : Type 0} (x y : A) (xs ys : List A) → x ∷ xs ≡ y ∷ ys → x ≡ y
first-one x y xs ys e = cc

later-ones : {A : Type 0} (x y : A) (xs ys : List A) → x ∷ xs ≡ y ∷ ys → xs ≡ ys
later-ones x y xs ys e = cc

at-place : {A B : Type 0} (h : A → B) (f g : ℕ → A) (m n c : ℕ) → map h (map f (range_with_len m n)) ≡ map h (map g (range_with_len m n)) → m ≤ c → c < m + n → h (f c) ≡ h (g c)
at-place h f g m zero c e low high = absurd (omega (arith, low, high))
at-place h f g m (suc n) c e low high = go (le-or-gt c m) (λ l. at-place h f g (m + 1) n c (later-ones _ _ _ _ e) (omega (arith, l)) (omega (arith, high)))
  where
    go : (c ≤ m) ⊎ (m < c) → (m < c → h (f c) ≡ h (g c)) → h (f c) ≡ h (g c)
    go (inl l) later = let here : m ≡ c = omega (arith, low, l) in subst (λ z. h (f z) ≡ h (g z)) here (first-one _ _ _ _ e)
    go (inr l) later = later l

-- the text of lists, by the clients of a net
abbrev text_by : Bool → ClientLists → List ClientParts → List ℕ
text_by sorted lists cs = delivery_sections cs sorted cs (map lists.refused (range_with_len 1 (length cs))) (map lists.received (range_with_len 1 (length cs)))

abbrev ArePlain : ClientLists → List ClientParts → Type 0
ArePlain lists cs = ArePlainLists cs (map lists.refused (range_with_len 1 (length cs))) (map lists.received (range_with_len 1 (length cs)))

-- what is read of a text
abbrev Reads : NetParts → Bool → Type 0
Reads net sorted = (refused others : List (List ℕ)) (received deliveries : List (List Delivery)) (tail more : List ℕ)
    → ArePlainLists net.clients refused received → ArePlainLists net.clients others deliveries → MayFollow tail → MayFollow more
    → deliveries_text net refused received sorted ++ tail ≡ deliveries_text net others deliveries sorted ++ more
    → (refused ≡ others) × (map (ordered sorted) received ≡ map (ordered sorted) deliveries) × (tail ≡ more)

pub same-lists : (read : (net : NetParts) (sorted : Bool) → ArePlainNames net.clients → Reads net sorted)
    → (lawful : (net : NetParts) → IsSound net → PhasedNetLaws real (phased_net net))
    → (shown : Shown) (input text : List ℕ) (one two : NetParts) (lists others : ClientLists) (trace more : List ℕ) → IsNetOf input one → IsNetOf input two
    → MayFollow trace → MayFollow more → ClientPromise shown input text one lists trace → ClientPromise shown input text two others more
    → GiveSame shown.sorted one lists others × (trace ≡ more)
same-lists read lawful shown input text one two lists others trace more a b first second p q =
    let sound = document_is_sound input one a in
    let other = document_is_sound input two b in
    let clients : two.clients ≡ one.clients = same-clients input two one b a in
    let plain : ArePlain others one.clients = subst (ArePlain others) clients (plain-lists shown input text two others more other (lawful two other) q) in
    let same : lists_text one lists shown.sorted ++ trace ≡ lists_text one others shown.sorted ++ more = sym p.printed ∙ q.printed ∙ ap (λ (cs : List ClientParts). text_by shown.sorted others cs ++ more) clients in
    let w = read one shown.sorted (plain-names input one a) _ _ _ _ trace more (plain-lists shown input text one lists trace sound (lawful one sound) p) plain first second same in (
      (λ client is. (
        at-place (λ (l : List ℕ). l) lists.refused others.refused 1 (length one.clients) client (ap (map (λ (l : List ℕ). l)) w.0) is.0 (omega (arith, is.1)),
        at-place (ordered shown.sorted) lists.received others.received 1 (length one.clients) client w.1 is.0 (omega (arith, is.1)),
      )),
      w.2,
    )
