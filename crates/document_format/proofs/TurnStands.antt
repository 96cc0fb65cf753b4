-- What stands after the canonical lines of the schedule.
use Rattle.std.proofs.Common.{◌≡◌, ◌⊎◌, inl, inr, ℕ, zero, suc, ◌+◌, ◌<◌, ◌≤◌, Bool, true, false, ◌||◌, List, [], ◌∷◌, ◌++◌, length, map, refl, sym, ap, subst, ◌∙◌, arith, Some, Ok, append_assoc, append-nil}
use Rattle.std.specs.Prelude.{codes, slice_get}
use Rattle.std.specs.List.{list_any}
use Rattle.std.specs.Str.{bytes_eq}
use Rattle.base.specs.Sets.{Has}
use Rattle.base.proofs.Roots.{Has-filter}
use Rattle.base_tree.specs.Graph.{has_edge, servers_to}
use Rattle.base_tree.specs.Tree.{Topology}
use Rattle.base_tree.proofs.Servers.{in-server}
use Rattle.base_tree.proofs.Truths.{either-left, either-right}
use Rattle.filter_text.specs.declared.semantics.Semantics.{Semantics}
use Rattle.net_model.specs.Parts.{ClientParts}
use Rattle.net_model.specs.declared.turn.Turn.{Turn}
use Rattle.net_model.specs.declared.turn.Turn.TheVariants as turns
use Rattle.document_reader.specs.Drawn.{Block, Drawn, are_neighbours, are_servers, is_server, is_apart}
use Rattle.document_reader.specs.Drafts.{client_at, name_of}
use Rattle.document_reader.specs.Tally.{CommandCounts}
use Rattle.document_reader.specs.Meaning.{stands}
use Rattle.document_reader.specs.Places.{line_rule}
use Rattle.document_reader.specs.Net.{AreTreesOf}
use Rattle.document_reader.specs.Rules.{version_number}
use Rattle.document_reader.specs.declared.draft.Draft.{Draft}
use Rattle.document_reader.specs.declared.version.Version.{Version}
use Rattle.document_reader.specs.declared.state.Place.{Place}
use Rattle.document_reader.specs.declared.state.Place.TheVariants as at
use Rattle.filter_text.specs.MessageText.{Each}
use Rattle.document_format.specs.Edges.{edges_of}
use Rattle.net_model.specs.Nets.{name_in}
use Rattle.document_format.specs.DocumentText.{turn_line, on_lines, schedule_lines}
use Rattle.document_format.proofs.EdgeLaws.{near-edge}
use Rattle.document_format.proofs.TreeStands.{written_block}
use Rattle.document_format.proofs.Stands.{state, stands_next, IsOpen}
use Rattle.document_format.proofs.ScriptStands.{schedule_stands, command_turn_stands, take_turn_stands, version_turn_stands}
use Rattle.document_format.proofs.ClientStands.{AreApart, IsWritableClient, names_before, place_here, written}

-- what each turn is
abbrev pub IsWritableTurn : Drawn → List ClientParts → Turn → Type 0
IsWritableTurn trees clients (turns.Command client) = (1 ≤ client) × (client ≤ length clients)
IsWritableTurn trees clients (turns.Receive a b) = (a < 65536) × (b < 65536) × (are_servers trees.servers (a, b) ≡ true) × (are_neighbours trees (a, b) ≡ true)
IsWritableTurn trees clients (turns.TableUpdate a) = (a < 65536) × (is_server trees.servers a ≡ true)

-- a client of a list, with those before and behind it
record Split (cs : List ClientParts) (place : ℕ) : Type 0 where
  pub done : List ClientParts
  pub client : ClientParts
  pub rest : List ClientParts
  pub parts : cs ≡ done ++ client ∷ rest
  pub at : length done ≡ place
  pub there : slice_get cs place ≡ Some client

split : (cs : List ClientParts) (place : ℕ) → place < length cs → Split cs place
split [] place l = absurd (omega arith)
split (c ∷ cs) zero l = record { done = []; client = c; rest = cs; parts = refl; at = refl; there = refl }
split (c ∷ cs) (suc place) l =
    let s = split cs place (omega arith) in
    record { done = c ∷ s.done; client = s.client; rest = s.rest; parts = ap (λ (z : List ClientParts). c ∷ z) s.parts; at = ap suc s.at; there = s.there }

written-append : (done rest : List ClientParts) (c : ClientParts) → map written (done ++ c ∷ rest) ≡ map written done ++ written c ∷ map written rest
written-append [] rest c = refl
written-append (d ∷ done) rest c = ap (λ (z : List Draft). written d ∷ z) (written-append done rest c)

written-length : (cs : List ClientParts) → length (map written cs) ≡ length cs
written-length [] = refl
written-length (c ∷ cs) = ap suc (written-length cs)

absent_written : (name : List ℕ) (cs : List ClientParts) → Each (λ o. bytes_eq name o.name ≡ false) cs → Each (λ d. bytes_eq name (name_of d) ≡ false) (map written cs)
absent_written name [] h = tt
absent_written name (c ∷ cs) h = (h.0, absent_written name cs h.1)

each-middle : {A : Type 0} (P : A → Type 0) (done rest : List A) (x : A) → Each P (done ++ x ∷ rest) → P x
each-middle P [] rest x h = h.0
each-middle P (y ∷ done) rest x h = each-middle P done rest x h.1

command_stands : (n : ℕ) (v : Version) (sem : Semantics) (trees : Drawn) (clients : List ClientParts) (k : ℕ) (tally : CommandCounts) (before : List (ℕ × Turn)) (place : ℕ) → place < length clients
    → Each (IsWritableClient (version_number v) trees.servers) clients → AreApart clients
    → line_rule (state at.Schedule v sem trees (map written clients) k tally before) n (turn_line clients (turns.Command (suc place))) ≡ Ok (state at.Schedule v sem trees (map written clients) k tally (before ++ (n, turns.Command (suc place)) ∷ []))
command_stands n v sem trees clients k tally before place l each apart =
    let s = split clients place l in
    let is = each-middle (IsWritableClient (version_number v) trees.servers) s.done s.rest s.client (subst (Each (IsWritableClient (version_number v) trees.servers)) s.parts each) in
    let absent = absent_written s.client.name s.done (names_before s.done s.rest s.client (subst AreApart s.parts apart)) in
    let here : client_at (map written clients) s.client.name ≡ Some place =
    ap (λ (z : List ClientParts). client_at (map written z) s.client.name) s.parts
    ∙ ap (λ (z : List Draft). client_at z s.client.name) (written-append s.done s.rest s.client)
    ∙ place_here s.client.name (map written s.done) (map written s.rest) (written s.client) absent refl
    ∙ ap Some (written-length s.done ∙ s.at) in
    let same : name_in (slice_get clients place) ≡ s.client.name = ap name_in s.there in
    let e : place + 1 ≡ suc place = omega arith in
    subst (λ (z : List ℕ). line_rule (state at.Schedule v sem trees (map written clients) k tally before) n (codes "command " ++ z) ≡ Ok (state at.Schedule v sem trees (map written clients) k tally (before ++ (n, turns.Command (suc place)) ∷ []))) (sym same)
    (command_turn_stands n v sem trees (map written clients) k tally before s.client.name place is.name here
    ∙ ap (λ (z : ℕ). Ok (state at.Schedule v sem trees (map written clients) k tally (before ++ (n, turns.Command z) ∷ []))) e)

turn_stands : (n : ℕ) (v : Version) (sem : Semantics) (trees : Drawn) (clients : List ClientParts) (k : ℕ) (tally : CommandCounts) (before : List (ℕ × Turn)) (turn : Turn) → IsWritableTurn trees clients turn
    → Each (IsWritableClient (version_number v) trees.servers) clients → AreApart clients
    → line_rule (state at.Schedule v sem trees (map written clients) k tally before) n (turn_line clients turn) ≡ Ok (state at.Schedule v sem trees (map written clients) k tally (before ++ (n, turn) ∷ []))
turn_stands n v sem trees clients k tally before (turns.Command zero) is each apart = absurd (let l = is.0 in omega (arith, l))
turn_stands n v sem trees clients k tally before (turns.Command (suc place)) is each apart = command_stands n v sem trees clients k tally before place (let l = is.1 in omega (arith, l)) each apart
turn_stands n v sem trees clients k tally before (turns.Receive a b) is each apart = take_turn_stands n v sem trees (map written clients) k tally before a b is.0 is.1 is.2 is.3
turn_stands n v sem trees clients k tally before (turns.TableUpdate a) is each apart = version_turn_stands n v sem trees (map written clients) k tally before a is.0 is.1

turns_stand : (n : ℕ) (v : Version) (sem : Semantics) (trees : Drawn) (clients : List ClientParts) (k : ℕ) (tally : CommandCounts) (before schedule : List (ℕ × Turn)) → Each (λ t. IsWritableTurn trees clients t.1) schedule
    → Each (IsWritableClient (version_number v) trees.servers) clients → AreApart clients
    → stands n (state at.Schedule v sem trees (map written clients) k tally before) (map (λ t. turn_line clients t.1) schedule) ≡ Ok (state at.Schedule v sem trees (map written clients) k tally (before ++ on_lines n schedule))
turns_stand n v sem trees clients k tally before [] is each apart = ap (λ (z : List (ℕ × Turn)). Ok (state at.Schedule v sem trees (map written clients) k tally z)) (sym (append-nil before))
turns_stand n v sem trees clients k tally before (turn ∷ schedule) is each apart =
    let e : n + 1 ≡ suc n = omega arith in
    stands_next n _ _ _ (turn_line clients turn.1) (map (λ t. turn_line clients t.1) schedule) (turn_stands n v sem trees clients k tally before turn.1 is.0 each apart)
    (turns_stand (n + 1) v sem trees clients k tally (before ++ (n, turn.1) ∷ []) schedule is.1 each apart
    ∙ ap (λ (z : List (ℕ × Turn)). Ok (state at.Schedule v sem trees (map written clients) k tally z)) (append_assoc before ((n, turn.1) ∷ []) (on_lines (n + 1) schedule) ∙ ap (λ (z : ℕ). before ++ (n, turn.1) ∷ on_lines z schedule) e))

-- the schedule: what stands in the end is at a place where a document may end
pub schedule_stand : (n : ℕ) (p : Place) (v : Version) (sem : Semantics) (trees : Drawn) (clients : List ClientParts) (k : ℕ) (tally : CommandCounts) (schedule : List (ℕ × Turn)) → IsOpen p → is_apart trees ≡ false
    → Each (λ t. IsWritableTurn trees clients t.1) schedule → Each (IsWritableClient (version_number v) trees.servers) clients → AreApart clients
    → (q : Place) × (IsOpen q ⊎ (q ≡ at.Schedule)) × (stands n (state p v sem trees (map written clients) k tally []) (schedule_lines clients schedule) ≡ Ok (state q v sem trees (map written clients) k tally (on_lines (n + 1) schedule)))
schedule_stand n p v sem trees clients k tally [] o whole is each apart = (p, inl o, refl)
schedule_stand n p v sem trees clients k tally (turn ∷ schedule) o whole is each apart = (
  at.Schedule,
  inr refl,
  stands_next n _ _ _ (codes "schedule") (map (λ t. turn_line clients t.1) (turn ∷ schedule)) (schedule_stands n p v sem trees (map written clients) k tally o whole)
      (turns_stand (n + 1) v sem trees clients k tally [] (turn ∷ schedule) is each apart),
)

-- Neighbours in some tree.

or-split : (x y : Bool) → x || y ≡ true → (x ≡ true) ⊎ (y ≡ true)
or-split true y e = inl refl
or-split false y e = inr e

pub near_again : (count a b : ℕ) (bs : List Block) (ts : List (ℕ × Topology)) → AreTreesOf count bs ts → (1 ≤ b) × (b ≤ count) → list_any (λ block. has_edge block.1 a b) bs ≡ true → list_any (λ block. has_edge block.1 a b) (map written_block ts) ≡ true
near_again count a b [] [] is there e = e
near_again count a b [] (t ∷ ts) is there e = absurd is
near_again count a b (block ∷ bs) [] is there e = absurd is
near_again count a b (block ∷ bs) (t ∷ ts) is there e =
    elim (or-split (has_edge block.1 a b) (list_any (λ x. has_edge x.1 a b) bs) e) [
      | inl h ↦ either-left (has_edge (edges_of t.1) a b) (list_any (λ x. has_edge x.1 a b) (map written_block ts))
          (near-edge t.1 is.0.laws a b (subst (Has b) (sym (is.0.neighbours a)) (Has-filter (has_edge block.1 a) b (servers_to count) (in-server count b there) h)))
      | inr h ↦ either-right (has_edge (edges_of t.1) a b) (list_any (λ x. has_edge x.1 a b) (map written_block ts)) (near_again count a b bs ts is.1 there h)
    ]
