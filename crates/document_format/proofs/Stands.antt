-- Proves, kind by kind, what state the reader has after the canonical lines of a document.
use Rattle.std.proofs.Common.{◌≡◌, ◌⊎◌, inl, inr, ℕ, ◌+◌, ◌<◌, ◌≤◌, true, false, List, [], ◌∷◌, ◌++◌, length, refl, ap, subst, ◌∙◌, arith, Some, None, Result, Ok, Err}
use Rattle.std.specs.Prelude.{codes, nat_le, nat_lt}
use Rattle.std.specs.Str.{bytes_eq}
use Rattle.std.specs.Fmt.{decimal}
use Rattle.std.proofs.lemmas.Fmt.{decimal_digit}
use Rattle.std.proofs.lemmas.Grind.{common_steps}
use Rattle.filter_values.specs.Name.{IsName}
use Rattle.base_tree.specs.Graph.{has_edge}
use Rattle.filter_text.specs.declared.semantics.Semantics.{Semantics}
use Rattle.filter_text.specs.declared.semantics.Semantics.TheVariants.{Subscription, Advertisement}
use Rattle.document_format.proofs.Cuts.{are_word_bytes}
use Rattle.net_model.specs.declared.turn.Turn.{Turn}
use Rattle.document_reader.specs.Answer.{◌>>=◌}
use Rattle.document_reader.specs.Lines.{words}
use Rattle.document_reader.specs.Drawn.{Block, Drawn, drawn, undrawn, are_joined, are_servers, is_apart, is_server}
use Rattle.document_reader.specs.Drafts.{client_at, scriptless}
use Rattle.document_reader.specs.Tally.{CommandCounts, no_counts}
use Rattle.document_reader.specs.Rules.{client_rule, edge_rule, header_rule, phase_rule, semantics_named, semantics_rule, servers_rule, version_named, version_number}
use Rattle.document_reader.specs.Places.{at_clients, at_edges, line_rule, start, words_rule}
use Rattle.document_reader.specs.Meaning.{stands}
use Rattle.document_reader.specs.declared.draft.Draft.{Draft}
use Rattle.document_reader.specs.declared.fault.Fault.{Fault}
use Rattle.document_reader.specs.declared.version.Version.{Version}
use Rattle.document_reader.specs.declared.version.Version.TheVariants.{One, Two}
use Rattle.document_reader.specs.declared.state.State.{State}
use Rattle.document_reader.specs.declared.state.Place.{Place}
use Rattle.document_reader.specs.declared.state.Place.TheVariants as at
use Rattle.document_format.specs.DocumentText.{edge_line, semantics_word}
use Rattle.document_format.proofs.WordLaws.{IsWord, decimal_word, name_word, words_last, words_then, one_again, two_again, named_again}

-- what stands, by its parts
abbrev pub state : Place → Version → Semantics → Drawn → List Draft → ℕ → CommandCounts → List (ℕ × Turn) → State
state place version semantics trees clients client tally schedule =
    record { place = place; version = version; semantics = semantics; trees = trees; clients = clients; client = client; tally = tally; schedule = schedule }

pub stands_on : (n : ℕ) (s t u : State) (ls ms : List (List ℕ)) → stands n s ls ≡ Ok t → stands (length ls + n) t ms ≡ Ok u → stands n s (ls ++ ms) ≡ Ok u
stands_on n s t u [] ms e f = let same : s ≡ t = cc in let z : 0 + n ≡ n = omega arith in rw (same, ← z) f
stands_on n s t u (l ∷ ls) ms e f = go (line_rule s n l) refl e (λ v h. stands_on (n + 1) v t u ls ms h (subst (λ (k : ℕ). stands k t ms ≡ Ok u) (let z : length (l ∷ ls) + n ≡ length ls + (n + 1) = omega arith in z) f))
  where
    go : (r : Result State Fault) → line_rule s n l ≡ r → (r >>= λ v. stands (n + 1) v ls) ≡ Ok t → ((v : State) → stands (n + 1) v ls ≡ Ok t → stands (n + 1) v (ls ++ ms) ≡ Ok u) → (line_rule s n l >>= λ v. stands (n + 1) v (ls ++ ms)) ≡ Ok u
    go (Ok v) is e k = rw is (k v e)
    go (Err g) is e k = absurd cc

pub stands_next : (n : ℕ) (s t u : State) (l : List ℕ) (ls : List (List ℕ)) → line_rule s n l ≡ Ok t → stands (n + 1) t ls ≡ Ok u → stands n s (l ∷ ls) ≡ Ok u
stands_next n s t u l ls e f = rw e f

-- a line by its words
pub by_words : (s : State) (n : ℕ) (line : List ℕ) (ws : List (List ℕ)) → words line ≡ ws → line_rule s n line ≡ words_rule s n line ws
unfolding line_rule
by_words s n line ws e = ap (words_rule s n line) e

-- `W A` and `W A B`
pub words_one : (b : ℕ) (w x : List ℕ) → IsWord (b ∷ w) → IsWord x → words ((b ∷ w) ++ 32 ∷ x) ≡ (b ∷ w) ∷ x ∷ []
words_one b w x h k = words_then (b ∷ w) x h ∙ ap (λ (z : List (List ℕ)). (b ∷ w) ∷ z) (words_last x k)

pub words_two : (b : ℕ) (w x y : List ℕ) → IsWord (b ∷ w) → IsWord x → IsWord y → words ((b ∷ w) ++ 32 ∷ (x ++ 32 ∷ y)) ≡ (b ∷ w) ∷ x ∷ y ∷ []
words_two b w x y h k m = words_then (b ∷ w) (x ++ 32 ∷ y) h ∙ ap (λ (z : List (List ℕ)). (b ∷ w) ∷ z) (words_then x y k ∙ ap (λ (z : List (List ℕ)). x ∷ z) (words_last y m))

pub plain_word : (b : ℕ) (w : List ℕ) → are_word_bytes (b ∷ w) ≡ true → IsWord (b ∷ w)
plain_word b w e = record { some = omega arith; bytes = e }

-- The first lines.

semantics_is : (sem : Semantics) → IsWord (semantics_word sem) × (semantics_named (semantics_word sem) ≡ Some sem)
semantics_is Subscription = (plain_word 115 (codes "ubscription") refl, refl)
semantics_is Advertisement = (plain_word 97 (codes "dvertisement") refl, refl)

version_is : (v : Version) → version_named (decimal (version_number v)) ≡ Some v
version_is One = rw (decimal_digit 1 (omega arith)) refl
version_is Two = rw (decimal_digit 2 (omega arith)) refl

version_small : (v : Version) → version_number v < 65536
version_small One = omega arith
version_small Two = omega arith

header_line : (n : ℕ) (v : Version) → line_rule start n (codes "siena " ++ decimal (version_number v)) ≡ Ok (state at.Semantics v Subscription (undrawn 0) [] 0 no_counts [])
unfolding header_rule
header_line n v =
    by_words start n (codes "siena " ++ decimal (version_number v)) (codes "siena" ∷ decimal (version_number v) ∷ []) (words_one 115 (codes "iena") (decimal (version_number v)) (plain_word 115 (codes "iena") refl) (decimal_word (version_number v) (version_small v)))
    ∙ rw (version_is v) refl

semantics_line : (n : ℕ) (v : Version) (sem : Semantics) → line_rule (state at.Semantics v Subscription (undrawn 0) [] 0 no_counts []) n (codes "semantics " ++ semantics_word sem) ≡ Ok (state at.Servers v sem (undrawn 0) [] 0 no_counts [])
unfolding semantics_rule
semantics_line n v sem =
    by_words (state at.Semantics v Subscription (undrawn 0) [] 0 no_counts []) n (codes "semantics " ++ semantics_word sem) (codes "semantics" ∷ semantics_word sem ∷ []) (words_one 115 (codes "emantics") (semantics_word sem) (plain_word 115 (codes "emantics") refl) (semantics_is sem).0)
    ∙ rw (semantics_is sem).1 refl

small_server : (count : ℕ) → 1 ≤ count → count ≤ 64 → is_server 64 count ≡ true
small_server count l m = grind (arith, common_steps)

servers_line : (n : ℕ) (v : Version) (sem : Semantics) (count : ℕ) → 1 ≤ count → count ≤ 64 → line_rule (state at.Servers v sem (undrawn 0) [] 0 no_counts []) n (codes "servers " ++ decimal count) ≡ Ok (state at.Edges v sem (undrawn count) [] 0 no_counts [])
unfolding servers_rule
servers_line n v sem count l m =
    by_words (state at.Servers v sem (undrawn 0) [] 0 no_counts []) n (codes "servers " ++ decimal count) (codes "servers" ∷ decimal count ∷ []) (words_one 115 (codes "ervers") (decimal count) (plain_word 115 (codes "ervers") refl) (decimal_word count (omega arith)))
    ∙ rw (one_again count (omega arith), small_server count l m) refl

pub first_stands : (n : ℕ) (v : Version) (sem : Semantics) (count : ℕ) → 1 ≤ count → count ≤ 64
    → stands n start ((codes "siena " ++ decimal (version_number v)) ∷ (codes "semantics " ++ semantics_word sem) ∷ (codes "servers " ++ decimal count) ∷ []) ≡ Ok (state at.Edges v sem (undrawn count) [] 0 no_counts [])
first_stands n v sem count l m =
    stands_next n start _ _ (codes "siena " ++ decimal (version_number v)) ((codes "semantics " ++ semantics_word sem) ∷ (codes "servers " ++ decimal count) ∷ []) (header_line n v)
    (stands_next (n + 1) _ _ _ (codes "semantics " ++ semantics_word sem) ((codes "servers " ++ decimal count) ∷ []) (semantics_line (n + 1) v sem)
    (stands_next (n + 1 + 1) _ _ _ (codes "servers " ++ decimal count) [] (servers_line (n + 1 + 1) v sem count l m) refl))

-- Trees.

-- an edge that is of servers, joins what was not joined, and is no edge yet
pub record IsNewEdge (count : ℕ) (done : List (ℕ × ℕ)) (e : ℕ × ℕ) : Type 0 where
  pub within : are_servers count e ≡ true
  pub small : (e.0 < 65536) × (e.1 < 65536)
  pub new : has_edge done e.0 e.1 ≡ false
  pub apart : are_joined done e.0 e.1 ≡ false

pub edge_stands : (n : ℕ) (v : Version) (sem : Semantics) (servers phase : ℕ) (earlier : List Block) (done : List (ℕ × ℕ)) (e : ℕ × ℕ) → IsNewEdge servers done e
    → line_rule (state at.Edges v sem (drawn servers earlier phase done) [] 0 no_counts []) n (edge_line e) ≡ Ok (state at.Edges v sem (drawn servers earlier phase (done ++ e ∷ [])) [] 0 no_counts [])
unfolding at_edges edge_rule
edge_stands n v sem servers phase earlier done e new =
    by_words (state at.Edges v sem (drawn servers earlier phase done) [] 0 no_counts []) n (edge_line e) (codes "edge" ∷ decimal e.0 ∷ decimal e.1 ∷ []) (words_two 101 (codes "dge") (decimal e.0) (decimal e.1) (plain_word 101 (codes "dge") refl) (decimal_word e.0 new.small.0) (decimal_word e.1 new.small.1))
    ∙ rw (two_again e.0 e.1 new.small.0 new.small.1, new.within, new.new, new.apart) refl

pub phase_stands : (n : ℕ) (sem : Semantics) (servers phase next : ℕ) (earlier : List Block) (edges : List (ℕ × ℕ)) → is_apart (drawn servers earlier phase edges) ≡ false → phase < next → next ≤ 4095
    → line_rule (state at.Edges Two sem (drawn servers earlier phase edges) [] 0 no_counts []) n (codes "phase " ++ decimal next) ≡ Ok (state at.Edges Two sem (drawn servers (earlier ++ (phase, edges) ∷ []) next []) [] 0 no_counts [])
unfolding at_edges phase_rule
phase_stands n sem servers phase next earlier edges whole l m =
    let a : nat_lt phase next ≡ true = grind (arith, common_steps) in
    let b : nat_le next 4095 ≡ true = grind (arith, common_steps) in
    by_words (state at.Edges Two sem (drawn servers earlier phase edges) [] 0 no_counts []) n (codes "phase " ++ decimal next) (codes "phase" ∷ decimal next ∷ []) (words_one 112 (codes "hase") (decimal next) (plain_word 112 (codes "hase") refl) (decimal_word next (omega arith)))
    ∙ rw (whole, one_again next (omega arith), a, b) refl

-- What may stand behind edges and clients.

-- an edge, a client or a script may stand before
pub data IsOpen : Place → Type 0 where
  Edges : IsOpen at.Edges
  Clients : IsOpen at.Clients
  Scripts : IsOpen at.Scripts

pub to_clients : (s : State) (w : List ℕ) (ws : List (List ℕ)) → is_apart s.trees ≡ false → bytes_eq w (codes "edge") ≡ false → bytes_eq w (codes "phase") ≡ false → at_edges s w ws ≡ at_clients s w ws
unfolding at_edges
to_clients s w ws a e p = rw (e, a, p) refl

client_word : (s : State) (ws : List (List ℕ)) → at_clients s (codes "client") ws ≡ client_rule s ws
unfolding at_clients
client_word s ws = refl

client_by : (p : Place) (v : Version) (sem : Semantics) (trees : Drawn) (clients : List Draft) (n : ℕ) (line : List ℕ) (ws : List (List ℕ)) → (p ≡ at.Edges) ⊎ (p ≡ at.Clients) → is_apart trees ≡ false
    → words_rule (state p v sem trees clients 0 no_counts []) n line (codes "client" ∷ ws) ≡ client_rule (state p v sem trees clients 0 no_counts []) ws
client_by p v sem trees clients n line ws (inl e) a = rw e (to_clients (state at.Edges v sem trees clients 0 no_counts []) (codes "client") ws a refl refl ∙ client_word (state at.Edges v sem trees clients 0 no_counts []) ws)
client_by p v sem trees clients n line ws (inr e) a = rw e (client_word (state at.Clients v sem trees clients 0 no_counts []) ws)

pub client_stands : (n : ℕ) (p : Place) (v : Version) (sem : Semantics) (trees : Drawn) (clients : List Draft) (name : List ℕ) (home : ℕ) → (p ≡ at.Edges) ⊎ (p ≡ at.Clients) → is_apart trees ≡ false
    → IsName name → home < 65536 → is_server trees.servers home ≡ true → client_at clients name ≡ None → length clients < 1024
    → line_rule (state p v sem trees clients 0 no_counts []) n (codes "client " ++ name ++ 32 ∷ decimal home) ≡ Ok (state at.Clients v sem trees (clients ++ scriptless name home ∷ []) 0 no_counts [])
unfolding client_rule
client_stands n p v sem trees clients name home o a is l server absent few =
    let room : nat_lt (length clients) 1024 ≡ true = grind (arith, common_steps) in
    by_words (state p v sem trees clients 0 no_counts []) n (codes "client " ++ name ++ 32 ∷ decimal home) (codes "client" ∷ name ∷ decimal home ∷ []) (words_two 99 (codes "lient") name (decimal home) (plain_word 99 (codes "lient") refl) (name_word name is) (decimal_word home l))
    ∙ client_by p v sem trees clients n (codes "client " ++ name ++ 32 ∷ decimal home) (name ∷ decimal home ∷ []) o a
    ∙ rw (named_again name home is l, server, absent, room) refl
