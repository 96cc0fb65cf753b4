-- Proves that every net of a document is sound.
use Rattle.std.proofs.Common.{◌≡◌, ◌≢◌, ℕ, ◌+◌, ◌≤◌, Bool, true, false, ◌&&◌, List, [], ◌∷◌, ◌⊎◌, inl, inr, length, map, refl, sym, ap, subst, ◌∙◌, arith, Option, Some, None, Result, Ok, Err}
use Rattle.std.specs.Prelude.{AllPairs, codes, nat_eq, nat_lt, if◌then◌else◌}
use Rattle.std.specs.Option.{is_some}
use Rattle.std.specs.Str.{bytes_eq}
use Rattle.base.specs.Sets.{Has}
use Rattle.document_script.specs.Tokens.{first_word, tokens}
use Rattle.document_script.specs.Form.{verb_named}
use Rattle.net_model.specs.Parts.{ClientParts, NetParts}
use Rattle.net_model.specs.Sound.{IsSound, IsSoundClient, IsSoundTurn, controls, publishes}
use Rattle.net_model.specs.declared.turn.Turn.{Turn}
use Rattle.document_reader.specs.Lines.{lines, words}
use Rattle.document_reader.specs.Drawn.{blocks, is_apart}
use Rattle.document_reader.specs.Drafts.{name_of}
use Rattle.document_reader.specs.Rules.{version_number}
use Rattle.document_reader.specs.Places.{at_clients, at_edges, at_place, at_schedule, at_token, document_of, end_rule, has_servers, is_comment, line_rule, start, words_rule}
use Rattle.document_reader.specs.Meaning.{stands}
use Rattle.document_reader.specs.Net.{IsNetIn, IsNetOf, client_of}
use Rattle.document_reader.specs.declared.draft.Draft.{Draft}
use Rattle.document_reader.specs.declared.fault.Fault.{Fault}
use Rattle.document_reader.specs.declared.fault.Fault.TheVariants as is
use Rattle.document_reader.specs.declared.version.Version.{Version}
use Rattle.document_reader.specs.declared.version.Version.TheVariants.{One, Two}
use Rattle.document_reader.specs.declared.state.State.{State}
use Rattle.document_reader.specs.declared.state.Place.{Place}
use Rattle.document_reader.specs.declared.state.Place.TheVariants as at
use Rattle.filter_text.specs.MessageText.{Each}
use Rattle.document_reader.proofs.Members.{each_has, each_map, get-mapped, sum_map}
use Rattle.document_reader.proofs.Meaning.{stands_ok, taken_stands}
use Rattle.document_reader.proofs.SoundParts.{has_trees}
use Rattle.document_reader.proofs.Standing.{Standing, barrier_stands, client_stands, command_stands, command_turn_stands, edge_stands, header_stands, need_ok, phase_stands, same_ok, schedule_stands, script_stands, semantics_stands, servers_stands, take_turn_stands, version_turn_stands}
use Rattle.std.proofs.lemmas.List.{length-map}
use Rattle.base.proofs.Bools.{if-cases}

-- Places.

pub no_answer : (f : Fault) (t : State) → (let r : Result State Fault = Err f in r) ≡ Ok t → ⊥
no_answer f t e = cc

clients_stand : (s t : State) (w : List ℕ) (ws : List (List ℕ)) → has_servers s.place ≡ true → at_clients s w ws ≡ Ok t → Standing s → Standing t
unfolding at_clients
clients_stand s t w ws o e h =
    elim (if-cases (bytes_eq w (codes "client")) _ _ _ e) [
      | inl a ↦ client_stands s t ws o a.1 h
      | inr a ↦ elim (if-cases (bytes_eq w (codes "script")) _ _ _ a.1) [
        | inl b ↦ script_stands s t w ws o b.1 h
        | inr b ↦ elim (if-cases (bytes_eq w (codes "schedule")) _ _ _ b.1) [
          | inl d ↦ schedule_stands s t w ws o d.1 h
          | inr d ↦ absurd (no_answer is.Order t d.1)
        ]
      ]
    ]

edges_stand : (s t : State) (w : List ℕ) (ws : List (List ℕ)) → has_servers s.place ≡ true → at_edges s w ws ≡ Ok t → Standing s → Standing t
unfolding at_edges
edges_stand s t w ws o e h =
    elim (if-cases (bytes_eq w (codes "edge")) _ _ _ e) [
      | inl a ↦ edge_stands s t ws a.1 h
      | inr a ↦ elim (if-cases (is_apart s.trees) _ _ _ a.1) [
        | inl b ↦ absurd (no_answer is.Apart t b.1)
        | inr b ↦ elim (if-cases (bytes_eq w (codes "phase") && nat_eq (version_number s.version) 2) _ _ _ b.1) [
          | inl d ↦ phase_stands s t ws d.1 h
          | inr d ↦ clients_stand s t w ws o d.1 h
        ]
      ]
    ]

token_stands : (s t : State) (line w : List ℕ) (ws : List (List ℕ)) (token : Option (List ℕ)) → s.place ≡ at.Scripts → at_token s line w ws token ≡ Ok t → Standing s → Standing t
unfolding at_token
token_stands s t line w ws None o e h = absurd (no_answer is.Order t e)
token_stands s t line w ws (Some token) o e h =
    elim (if-cases (bytes_eq token (codes "barrier")) _ _ _ e) [
      | inl a ↦ barrier_stands s t w ws o a.1 h
      | inr a ↦ elim (if-cases (bytes_eq token (codes "script")) _ _ _ a.1) [
        | inl b ↦ script_stands s t w ws (ap has_servers o) b.1 h
        | inr b ↦ elim (if-cases (bytes_eq token (codes "schedule")) _ _ _ b.1) [
          | inl d ↦ schedule_stands s t w ws (ap has_servers o) d.1 h
          | inr d ↦ elim (if-cases (is_some (verb_named token)) _ _ _ d.1) [
            | inl f ↦ command_stands s t line o f.1 h
            | inr f ↦ absurd (no_answer is.Order t f.1)
          ]
        ]
      ]
    ]

schedule_line_stands : (s t : State) (n : ℕ) (w : List ℕ) (ws : List (List ℕ)) → s.place ≡ at.Schedule → at_schedule s n w ws ≡ Ok t → Standing s → Standing t
unfolding at_schedule
schedule_line_stands s t n w ws o e h =
    elim (if-cases (bytes_eq w (codes "command")) _ _ _ e) [
      | inl a ↦ command_turn_stands s t n ws o a.1 h
      | inr a ↦ elim (if-cases (bytes_eq w (codes "take")) _ _ _ a.1) [
        | inl b ↦ take_turn_stands s t n ws o b.1 h
        | inr b ↦ elim (if-cases (bytes_eq w (codes "version")) _ _ _ b.1) [
          | inl d ↦ version_turn_stands s t n ws o d.1 h
          | inr d ↦ absurd (no_answer is.Order t d.1)
        ]
      ]
    ]

place_stands : (q : Place) (s t : State) (n : ℕ) (line w : List ℕ) (ws : List (List ℕ)) → s.place ≡ q → at_place q s n line w ws ≡ Ok t → Standing s → Standing t
place_stands at.Header s t n line w ws o e h = header_stands s t w ws o e h
place_stands at.Semantics s t n line w ws o e h = semantics_stands s t w ws o e h
place_stands at.Servers s t n line w ws o e h = servers_stands s t w ws o e h
place_stands at.Edges s t n line w ws o e h = edges_stand s t w ws (ap has_servers o) e h
place_stands at.Clients s t n line w ws o e h = clients_stand s t w ws (ap has_servers o) e h
place_stands at.Scripts s t n line w ws o e h = token_stands s t line w ws (first_word (tokens line)) o e h
place_stands at.Schedule s t n line w ws o e h = schedule_line_stands s t n w ws o e h

words_stand : (s t : State) (n : ℕ) (line : List ℕ) (ws : List (List ℕ)) → words_rule s n line ws ≡ Ok t → Standing s → Standing t
words_stand s t n line [] e h = subst Standing (same_ok s t e) h
words_stand s t n line (w ∷ ws) e h =
    elim (if-cases (is_comment w) _ _ _ e) [
      | inl a ↦ subst Standing (same_ok s t a.1) h
      | inr a ↦ place_stands s.place s t n line w ws refl a.1 h
    ]

pub line_stands : (s t : State) (n : ℕ) (line : List ℕ) → line_rule s n line ≡ Ok t → Standing s → Standing t
unfolding line_rule
line_stands s t n line e h = words_stand s t n line (words line) e h

lines_stand : (n : ℕ) (s t : State) (ls : List (List ℕ)) → stands n s ls ≡ Ok t → Standing s → Standing t
lines_stand n s t [] e h = subst Standing (same_ok s t e) h
lines_stand n s t (l ∷ ls) e h =
    let k = stands_ok n s t l ls e in
    lines_stand (n + 1) k.0 t ls k.2 (line_stands s k.0 n l k.1 h)

pub start_stands : Standing start
start_stands = record {
  servers = λ o. cc;
  early = λ o. (refl, refl);
  rises = (refl, tt);
  homes = tt;
  names = λ i j d l m. absurd (omega arith);
  few = omega arith;
  controls = omega arith;
  publishes = omega arith;
  counted = (omega arith, omega arith);
  turns = tt;
}

pub end_has : (s : State) → end_rule s ≡ Ok s → has_servers s.place ≡ true
unfolding end_rule
end_has s e = (need_ok (has_servers s.place) is.Ended _ s e).0

-- The net.

mapped-twice : (xs : List Draft) → map (λ c. c.name) (map client_of xs) ≡ map name_of xs
mapped-twice [] = refl
mapped-twice (x ∷ xs) = ap (λ l. name_of x ∷ l) (mapped-twice xs)

names_differ : (cs : List ClientParts) → AllPairs (λ x y. x ≢ y) (map (λ c. c.name) cs) → AllPairs (λ one other. one.name ≢ other.name) cs
names_differ cs h i j d l m e =
    let len : length (map (λ (c : ClientParts). c.name) cs) ≡ length cs = length-map cs (λ (c : ClientParts). c.name) in
    let a = get-mapped (λ (c : ClientParts). c.name) cs i d in
    let b = get-mapped (λ (c : ClientParts). c.name) cs j d in
    h i j d.name l (omega arith) ((a ∙ e) ∙ sym b)

each_client : (servers : ℕ) (ds : List Draft) → Each (λ d. IsSoundClient servers (client_of d)) ds → (c : ClientParts) → Has c (map client_of ds) → IsSoundClient servers c
each_client servers ds h c m = each_has (λ x. IsSoundClient servers x) (map client_of ds) (each_map (λ x. IsSoundClient servers x) client_of ds h) c m

pub standing_is_sound : (s : State) (net : NetParts) → has_servers s.place ≡ true → Standing s → IsNetIn s net → IsSound net
standing_is_sound s net o h n =
    let ts = has_trees s.trees.servers (blocks s.trees) net.trees n.trees h.rises in
    let len : length net.clients ≡ length s.clients = ap length n.clients ∙ length-map s.clients client_of in
    record {
      version = rw n.version (known s.version);
      trees = ts.0;
      few = omega (arith, len, h.few);
      names = subst (λ (cs : List ClientParts). AllPairs (λ one other. one.name ≢ other.name) cs) (sym n.clients) (names_differ (map client_of s.clients) (subst (λ (ns : List (List ℕ)). AllPairs (λ x y. x ≢ y) ns) (sym (mapped-twice s.clients)) h.names));
      clients = λ c m. rw ts.1 (each_client s.trees.servers s.clients h.homes c (subst (λ (cs : List ClientParts). Has c cs) n.clients m));
      controls = rw n.clients (omega (arith, sum_map controls client_of s.clients, h.controls, h.counted.0));
      publishes = rw n.clients (omega (arith, sum_map publishes client_of s.clients, h.publishes, h.counted.1));
      turns = λ t m. rw (ts.1, len) (each_has (λ x. IsSoundTurn s.trees.servers (length s.clients) x.1) s.schedule h.turns t (subst (λ (xs : List (ℕ × Turn)). Has t xs) n.schedule m));
    }
  where
    known : (v : Version) → (1 ≤ version_number v) × (version_number v ≤ 2)
    known One = (omega arith, omega arith)
    known Two = (omega arith, omega arith)

pub document_is_sound : (bytes : List ℕ) (net : NetParts) → IsNetOf bytes net → IsSound net
unfolding document_of
document_is_sound bytes net n =
    elim (if-cases (nat_lt 4194304 (length bytes)) _ _ _ n.read) [
      | inl a ↦ absurd (long a.1)
      | inr a ↦ (let k = taken_stands 1 start (lines bytes) n.state a.1 in standing_is_sound n.state net (end_has n.state k.1) (lines_stand 1 start n.state (lines bytes) k.0 start_stands) n.holds)
    ]
  where
    long : (let r : Result State (ℕ × Fault) = Err (0, is.TooLong) in r) ≡ Ok n.state → ⊥
    long e = cc
