-- What is delivered was published, as patterns want it.
use Rattle.std.proofs.Common.{◌≡◌, inl, inr, ℕ, zero, suc, ◌+◌, ◌≤◌, ◌<◌, true, ◌&&◌, cond, All, List, [], ◌∷◌, map, length, take, Some, slice_get, refl, sym, ap, ◌∙◌, subst, arith}
use Rattle.std.specs.Prelude.{nat_le, nat_lt, slice_index_or}
use Rattle.std.specs.List.{range_with_len}
use Rattle.std.proofs.lemmas.Grind.{common_steps}
use Rattle.std.proofs.lemmas.Option.{same_Some}
use Rattle.base.specs.Sets.{Has}
use Rattle.filter_types.specs.Notice.{Attribute}
use Rattle.law_routing.specs.Net.{PhasedCommand, Publish}
use Rattle.law_routing.specs.Clients.{is_publish, ordinal}
use Rattle.law_routing.specs.Owed.{IsPublication}
use Rattle.net_model.specs.Real.{real}
use Rattle.filter_text.specs.declared.command.Command.{Command as Wired}
use Rattle.filter_text.specs.declared.command.Command.TheVariants as commands
use Rattle.filter_text.specs.Deliveries.{Delivery}
use Rattle.filter_text.specs.declared.id.Id.{Id}
use Rattle.net_model.specs.Parts.{ClientParts, NetParts, EntryParts}
use Rattle.net_model.specs.Meaning.{command_of, phased_command}
use Rattle.net_model.specs.Nets.{script_of, script_in}
use Rattle.output_flood.specs.Flooding.{net_in}
use Rattle.output_report.specs.Published.{by_number}
use Rattle.output_patterns.specs.Published.{ArePublished, is_published, notices_in, script_notices, with_notice}
use Rattle.program_sequential.specs.Promise.{ClientLists, GivesAllowed}
use Rattle.program_sequential.specs.Network.{lists_by}
use Rattle.program_sequential.specs.Runs.{IsClient, received_in}

-- within a script's publishes
abbrev Within : ℕ → List (List Attribute) → Type 0
Within o notices = (1 ≤ o) × (o ≤ length notices)

-- one command more in front
more : (c : Wired) (o : ℕ) (notices : List (List Attribute)) → Within o notices → Within (cond (is_publish real (command_of c)) (suc o) o) (with_notice c notices)
more (commands.Subscribe f) o notices h = h
more (commands.Unsubscribe f) o notices h = h
more (commands.Advertise a) o notices h = h
more (commands.Unadvertise a) o notices h = h
more (commands.Publish n) o notices h = (omega arith, omega (arith, h.1))

-- a publish in front
first : (c : Wired) (n : List Attribute) (notices : List (List Attribute)) → command_of c ≡ Publish n → Within (cond (is_publish real (command_of c)) 1 0) (with_notice c notices)
first (commands.Subscribe f) n notices e = absurd cc
first (commands.Unsubscribe f) n notices e = absurd cc
first (commands.Advertise a) n notices e = absurd cc
first (commands.Unadvertise a) n notices e = absurd cc
first (commands.Publish m) n notices e = (omega arith, omega arith)

in-script : (script : List (ℕ × Wired)) (i : ℕ) (c : PhasedCommand real) (n : List Attribute) → slice_get (map phased_command script) i ≡ Some c → c.command ≡ Publish n
    → Within (ordinal real (take (suc i) (map phased_command script))) (script_notices script)
in-script [] i c n e p = absurd cc
in-script (s ∷ script) zero c n e p = first s.1 n (script_notices script) (ap (λ (z : PhasedCommand real). z.command) (same_Some _ _ e) ∙ p)
in-script (s ∷ script) (suc i) c n e p = more s.1 _ (script_notices script) (in-script script i c n e p)

in-clients : (clients : List ClientParts) (place i : ℕ) (c : PhasedCommand real) (n : List Attribute) → slice_get (script_in (slice_get clients place)) i ≡ Some c → c.command ≡ Publish n
    → Within (ordinal real (take (suc i) (script_in (slice_get clients place)))) (slice_index_or (notices_in clients) place [])
in-clients [] place i c n e p = absurd cc
in-clients (x ∷ xs) zero i c n e p = in-script x.script i c n e p
in-clients (x ∷ xs) (suc place) i c n e p = in-clients xs place i c n e p

of-client : (net : NetParts) (q i : ℕ) (c : PhasedCommand real) (n : List Attribute) → slice_get (script_of net q) i ≡ Some c → c.command ≡ Publish n
    → Within (ordinal real (take (suc i) (script_of net q))) (by_number (notices_in net.clients) q)
of-client net zero i c n e p = absurd cc
of-client net (suc place) i c n e p = in-clients net.clients place i c n e p

numbered : (o : ℕ) (notices : List (List Attribute)) → Within o notices → nat_lt 0 o && nat_le o (length notices) ≡ true
numbered o notices h = go o (length notices) h.0 h.1
  where
    go : (a b : ℕ) → 1 ≤ a → a ≤ b → nat_lt 0 a && nat_le a b ≡ true
    go a b x y = grind (arith, common_steps)

published : (net : NetParts) (q o k : ℕ) (n : List Attribute) → IsPublication real (net_in net k) q o k n → nat_lt 0 o && nat_le o (length (by_number (notices_in net.clients) q)) ≡ true
published net q o k n p =
    numbered o (by_number (notices_in net.clients) q) (subst (λ z. Within z (by_number (notices_in net.clients) q)) p.ordinal (of-client net q p.index p.command n p.at p.publishes))

delivered : (net : NetParts) (lists : ClientLists) (client : ℕ) (d : Delivery) → GivesAllowed net lists → IsClient net client → Has d (lists.received client) → is_published (notices_in net.clients) d.id ≡ true
delivered net lists client d g is h =
    let a = g client d is h in
    subst (λ (z : Id). is_published (notices_in net.clients) z ≡ true) (sym a.id) (published net a.publication.publisher a.publication.ordinal a.allowed.0 a.publication.notice a.allowed.1)

each : (P : Delivery → Type 0) (xs : List Delivery) → ((d : Delivery) → Has d xs → P d) → All P xs
each P [] h k d lt = absurd (omega (arith, lt))
each P (x ∷ xs) h zero d lt = h x (inl refl)
each P (x ∷ xs) h (suc k) d lt = each P xs (λ e m. h e (inr m)) k d (omega (arith, lt))

ranged : (f : ℕ → List Delivery) (P : List Delivery → Type 0) (m n : ℕ) → ((i : ℕ) → m ≤ i → i < m + n → P (f i)) → All P (map f (range_with_len m n))
ranged f P m zero h k d lt = absurd (omega (arith, lt))
ranged f P m (suc n) h zero d lt = h m (omega arith) (omega arith)
ranged f P m (suc n) h (suc k) d lt = ranged f P (m + 1) n (λ i a b. h i (omega (arith, a)) (omega (arith, b))) k d (omega (arith, lt))

-- all that the clients received was published
pub all-published : (net : NetParts) (journal : List EntryParts) → GivesAllowed net (lists_by net journal) → All (ArePublished (notices_in net.clients)) (received_in net journal)
all-published net journal g =
    ranged (λ client. (lists_by net journal).received client) (ArePublished (notices_in net.clients)) 1 (length net.clients)
    (λ i a b. each (λ d. is_published (notices_in net.clients) d.id ≡ true) ((lists_by net journal).received i) (λ d h. delivered net (lists_by net journal) i d g (a, omega (arith, b)) h))
