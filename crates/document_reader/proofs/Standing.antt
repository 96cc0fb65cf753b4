-- Proves that each line keeps the state of the reader sound.
use Rattle.std.proofs.Common.{◌≡◌, ◌≢◌, ℕ, ◌+◌, ◌<◌, ◌≤◌, Bool, true, false, not, ◌&&◌, List, [], ◌∷◌, ◌++◌, length, map, refl, sym, ap, subst, ◌∙◌, arith, Option, Some, None, Result, Ok, Err}
use Rattle.std.specs.Prelude.{AllPairs, codes, nat_eq, nat_le, nat_lt}
use Rattle.std.specs.Option.{is_some}
use Rattle.std.specs.Str.{bytes_eq}
use Rattle.std.proofs.lemmas.Grind.{common_steps}
use Rattle.std.proofs.lemmas.List.Quantifiers.{all_pairs_push}
use Rattle.base.specs.Numbers.{sum_over, count}
use Rattle.base_tree.specs.Graph.{IsCount, has_edge}
use Rattle.base_tree.proofs.Truths.{both-left, both-right}
use Rattle.law_routing.specs.Clients.{is_publish}
use Rattle.net_model.specs.Real.{real}
use Rattle.filter_text.specs.declared.command.Command.{Command}
use Rattle.filter_text.specs.declared.command.Command.TheVariants as commands
use Rattle.net_model.specs.Meaning.{command_of}
use Rattle.net_model.specs.Sound.{IsAmong, IsSoundClient, IsSoundTurn, controls, publishes}
use Rattle.net_model.specs.declared.turn.Turn.{Turn}
use Rattle.net_model.specs.declared.turn.Turn.TheVariants as turns
use Rattle.document_reader.specs.Answer.{◌>>=◌, need, want}
use Rattle.document_reader.specs.Words.{name_and_number, one, one_name, one_number, two_numbers}
use Rattle.document_reader.specs.Drawn.{are_neighbours, are_servers, blocks, is_server, are_joined}
use Rattle.document_reader.specs.Drafts.{barriers_at, barriers_of, begun, client_at, has_script, name_of, name_place, scriptless, with_barrier, with_command}
use Rattle.document_reader.specs.Tally.{CommandCounts, control_product, control_rule, notice_product, publish_rule, with_control, with_publish}
use Rattle.document_reader.specs.Commands.{command_of as line_command}
use Rattle.document_reader.specs.Rules.{barrier_rule, client_rule, command_rule, command_turn, count_rule, edge_rule, header_rule, phase_rule, schedule_rule, script_rule, semantics_named, semantics_rule, servers_rule, take_turn, version_named, version_number, version_turn, with_turn}
use Rattle.document_reader.specs.Places.{has_servers}
use Rattle.document_reader.specs.Net.{client_of}
use Rattle.document_reader.specs.declared.draft.Draft.{Draft}
use Rattle.document_reader.specs.declared.fault.Fault.{Fault}
use Rattle.document_reader.specs.declared.fault.Fault.TheVariants as is
use Rattle.document_reader.specs.declared.state.State.{State}
use Rattle.document_reader.specs.declared.state.Place.{Place}
use Rattle.document_reader.specs.declared.state.Place.TheVariants as at
use Rattle.document_reader.proofs.Drafting.{changed_length, changed_names}
use Rattle.document_reader.proofs.NamePlaces.{differs, no-place, place_within}
use Rattle.filter_text.specs.MessageText.{Each}
use Rattle.document_reader.proofs.Members.{each_by, each_changed, each_more, sum_changed, sum_more}
use Rattle.document_reader.proofs.SoundParts.{Rises, controls_more, is_control, publishes_more, rises_edges, rises_phase, sound_barrier, sound_command, sound_scriptless}
use Rattle.base.proofs.Lists.{length-push, map-push}

-- What stands is sound.

pub record Standing (s : State) : Type 0 where
  pub servers : has_servers s.place ≡ true → IsCount s.trees.servers
  pub early : has_servers s.place ≡ false → (s.clients ≡ []) × (s.schedule ≡ [])
  pub rises : Rises (blocks s.trees)
  pub homes : Each (λ d. IsSoundClient s.trees.servers (client_of d)) s.clients
  pub names : AllPairs (λ x y. x ≢ y) (map name_of s.clients)
  pub few : length s.clients ≤ 1024
  pub controls : sum_over (λ d. controls (client_of d)) s.clients ≤ s.tally.controls
  pub publishes : sum_over (λ d. publishes (client_of d)) s.clients ≤ s.tally.publications
  pub counted : (s.tally.controls ≤ 4096) × (s.tally.publications ≤ 100000)
  pub turns : Each (λ t. IsSoundTurn s.trees.servers (length s.clients) t.1) s.schedule

-- what one test, one part and one rule after another give
pub need_ok : {B : Type 0} (b : Bool) (f : Fault) (k : Unit {0} → Result B Fault) (t : B) → (need b f >>= k) ≡ Ok t → (b ≡ true) × (k tt ≡ Ok t)
need_ok true f k t e = (refl, e)
need_ok false f k t e = cc

pub want_ok : {A B : Type 0} (o : Option A) (f : Fault) (k : A → Result B Fault) (t : B) → (want o f >>= k) ≡ Ok t → (x : A) × (o ≡ Some x) × (k x ≡ Ok t)
want_ok None f k t e = cc
want_ok (Some x) f k t e = (x, refl, e)

pub bind_ok : {A B : Type 0} (r : Result A Fault) (k : A → Result B Fault) (t : B) → (r >>= k) ≡ Ok t → (x : A) × (r ≡ Ok x) × (k x ≡ Ok t)
bind_ok (Ok x) k t e = (x, refl, e)
bind_ok (Err f) k t e = cc

same_counts : (s t : CommandCounts) → (let r : Result CommandCounts Fault = Ok s in r) ≡ Ok t → s ≡ t
same_counts s t e = cc

pub late : (q : Place) → q ≡ at.Scripts → has_servers q ≡ false → ⊥
late q o p = let e : has_servers at.Scripts ≡ false = ap has_servers (sym o) ∙ p in cc

pub in-schedule : (q : Place) → q ≡ at.Schedule → has_servers q ≡ false → ⊥
in-schedule q o p = let e : has_servers at.Schedule ≡ false = ap has_servers (sym o) ∙ p in cc

pub same_ok : (s t : State) → (let r : Result State Fault = Ok s in r) ≡ Ok t → s ≡ t
same_ok s t e = cc

is-among : (servers a : ℕ) → is_server servers a ≡ true → IsAmong servers a
is-among servers a e = (grind (arith, common_steps, e), grind (arith, common_steps, e))

pub header_stands : (s t : State) (w : List ℕ) (ws : List (List ℕ)) → s.place ≡ at.Header → header_rule s w ws ≡ Ok t → Standing s → Standing t
unfolding header_rule
header_stands s t w ws p e h =
    let a = need_ok (bytes_eq w (codes "siena")) is.Header _ t e in
    let b = want_ok (one ws) is.Header _ t a.1 in
    let c = want_ok (version_named b.0) is.Header _ t b.2 in
    let early = h.early (ap has_servers p) in
    subst Standing (same_ok _ t c.2) (record {
      servers = λ o. cc;
      early = λ o. early;
      rises = h.rises;
      homes = h.homes;
      names = h.names;
      few = h.few;
      controls = h.controls;
      publishes = h.publishes;
      counted = h.counted;
      turns = h.turns;
    })

pub semantics_stands : (s t : State) (w : List ℕ) (ws : List (List ℕ)) → s.place ≡ at.Semantics → semantics_rule s w ws ≡ Ok t → Standing s → Standing t
unfolding semantics_rule
semantics_stands s t w ws p e h =
    let a = need_ok (bytes_eq w (codes "semantics")) is.Order _ t e in
    let b = want_ok (one ws) is.Words _ t a.1 in
    let c = want_ok (semantics_named b.0) is.Words _ t b.2 in
    let early = h.early (ap has_servers p) in
    subst Standing (same_ok _ t c.2) (record {
      servers = λ o. cc;
      early = λ o. early;
      rises = h.rises;
      homes = h.homes;
      names = h.names;
      few = h.few;
      controls = h.controls;
      publishes = h.publishes;
      counted = h.counted;
      turns = h.turns;
    })

pub servers_stands : (s t : State) (w : List ℕ) (ws : List (List ℕ)) → s.place ≡ at.Servers → servers_rule s w ws ≡ Ok t → Standing s → Standing t
unfolding servers_rule
servers_stands s t w ws p e h =
    let a = need_ok (bytes_eq w (codes "servers")) is.Order _ t e in
    let b = want_ok (one_number ws) is.Words _ t a.1 in
    let c = need_ok (is_server 64 b.0) is.Range _ t b.2 in
    let early = h.early (ap has_servers p) in
    subst Standing (same_ok _ t c.1) (record {
      servers = λ o. is-among 64 b.0 c.0;
      early = λ o. cc;
      rises = (refl, tt);
      homes = subst (λ (ds : List Draft). Each (λ d. IsSoundClient b.0 (client_of d)) ds) (sym early.0) tt;
      names = h.names;
      few = h.few;
      controls = h.controls;
      publishes = h.publishes;
      counted = h.counted;
      turns = subst (λ (ts : List (ℕ × Turn)). Each (λ x. IsSoundTurn b.0 (length s.clients) x.1) ts) (sym early.1) tt;
    })

pub edge_stands : (s t : State) (ws : List (List ℕ)) → edge_rule s ws ≡ Ok t → Standing s → Standing t
unfolding edge_rule
edge_stands s t ws e h =
    let a = want_ok (two_numbers ws) is.Words _ t e in
    let b = need_ok (are_servers s.trees.servers a.0) is.Range _ t a.2 in
    let c = need_ok (not (has_edge s.trees.edges a.0.0 a.0.1)) is.Twice _ t b.1 in
    let d = need_ok (not (are_joined s.trees.edges a.0.0 a.0.1)) is.Loop _ t c.1 in
    subst Standing (same_ok _ t d.1) (record {
      servers = h.servers;
      early = h.early;
      rises = rises_edges s.trees.phase s.trees.earlier s.trees.edges (s.trees.edges ++ a.0 ∷ []) h.rises;
      homes = h.homes;
      names = h.names;
      few = h.few;
      controls = h.controls;
      publishes = h.publishes;
      counted = h.counted;
      turns = h.turns;
    })

pub phase_stands : (s t : State) (ws : List (List ℕ)) → phase_rule s ws ≡ Ok t → Standing s → Standing t
unfolding phase_rule
phase_stands s t ws e h =
    let a = want_ok (one_number ws) is.Words _ t e in
    let b = need_ok (nat_lt s.trees.phase a.0 && nat_le a.0 4095) is.Range _ t a.2 in
    let l : s.trees.phase < a.0 = grind (arith, common_steps, b.0) in
    subst Standing (same_ok _ t b.1) (record {
      servers = h.servers;
      early = h.early;
      rises = rises_phase s.trees.phase a.0 s.trees.earlier s.trees.edges [] l h.rises;
      homes = h.homes;
      names = h.names;
      few = h.few;
      controls = h.controls;
      publishes = h.publishes;
      counted = h.counted;
      turns = h.turns;
    })

turn_on : (servers n m : ℕ) → n ≤ m → (t : ℕ × Turn) → IsSoundTurn servers n t.1 → IsSoundTurn servers m t.1
turn_on servers n m l (line, turns.Command client) h = (h.0, omega (arith, h.1))
turn_on servers n m l (line, turns.Receive server from) h = h
turn_on servers n m l (line, turns.TableUpdate server) h = h

pub client_stands : (s t : State) (ws : List (List ℕ)) → has_servers s.place ≡ true → client_rule s ws ≡ Ok t → Standing s → Standing t
unfolding client_rule client_at
client_stands s t ws o e h =
    let a = want_ok (name_and_number ws) is.Words _ t e in
    let b = need_ok (is_server s.trees.servers a.0.1) is.Range _ t a.2 in
    let c = need_ok (not (is_some (name_place (map name_of s.clients) a.0.0))) is.Name _ t b.1 in
    let d = need_ok (nat_lt (length s.clients) 1024) is.Count _ t c.1 in
    let room : length s.clients < 1024 = grind (arith, common_steps, d.0) in
    let one = scriptless a.0.0 a.0.1 in
    let len : length (s.clients ++ one ∷ []) ≡ length s.clients + 1 = length-push s.clients one in
    let none : name_place (map name_of s.clients) a.0.0 ≡ None = no-place (name_place (map name_of s.clients) a.0.0) c.0 in
    subst Standing (same_ok _ t d.1) (record {
      servers = λ p. h.servers o;
      early = λ p. cc;
      rises = h.rises;
      homes = each_more (λ x. IsSoundClient s.trees.servers (client_of x)) s.clients one h.homes (sound_scriptless s.trees.servers a.0.0 a.0.1 (is-among s.trees.servers a.0.1 b.0));
      names = subst (λ (ns : List (List ℕ)). AllPairs (λ x y. x ≢ y) ns) (sym (map-push name_of s.clients one))
          (all_pairs_push (λ x y. x ≢ y) (map name_of s.clients) a.0.0 h.names (λ k z l. differs (map name_of s.clients) a.0.0 none k z l));
      few = omega (arith, len);
      controls = omega (arith, sum_more (λ x. controls (client_of x)) s.clients one, h.controls);
      publishes = omega (arith, sum_more (λ x. publishes (client_of x)) s.clients one, h.publishes);
      counted = h.counted;
      turns = each_by (λ x. IsSoundTurn s.trees.servers (length s.clients) x.1) (λ x. IsSoundTurn s.trees.servers (length (s.clients ++ one ∷ [])) x.1)
          (λ x k. turn_on s.trees.servers (length s.clients) (length (s.clients ++ one ∷ [])) (omega (arith, len)) x k) s.schedule h.turns;
    })

pub script_stands : (s t : State) (w : List ℕ) (ws : List (List ℕ)) → has_servers s.place ≡ true → script_rule s w ws ≡ Ok t → Standing s → Standing t
unfolding script_rule
script_stands s t w ws o e h =
    let a = need_ok (bytes_eq w (codes "script")) is.Words _ t e in
    let b = want_ok (one_name ws) is.Words _ t a.1 in
    let c = want_ok (client_at s.clients b.0) is.Name _ t b.2 in
    let d = need_ok (not (has_script s.clients c.0)) is.Name _ t c.2 in
    let len = changed_length begun s.clients c.0 in
    subst Standing (same_ok _ t d.1) (record {
      servers = λ p. h.servers o;
      early = λ p. cc;
      rises = h.rises;
      homes = each_changed (λ x. IsSoundClient s.trees.servers (client_of x)) begun s.clients c.0 (λ x k r. r) h.homes;
      names = subst (λ (ns : List (List ℕ)). AllPairs (λ x y. x ≢ y) ns) (sym (changed_names begun (λ x. refl) s.clients c.0)) h.names;
      few = omega (arith, len, h.few);
      controls = omega (arith, sum_changed (λ x. controls (client_of x)) begun 0 s.clients c.0 (λ x. omega arith), h.controls);
      publishes = omega (arith, sum_changed (λ x. publishes (client_of x)) begun 0 s.clients c.0 (λ x. omega arith), h.publishes);
      counted = h.counted;
      turns = subst (λ (n : ℕ). Each (λ x. IsSoundTurn s.trees.servers n x.1) s.schedule) (sym len) h.turns;
    })

pub barrier_stands : (s t : State) (w : List ℕ) (ws : List (List ℕ)) → s.place ≡ at.Scripts → barrier_rule s w ws ≡ Ok t → Standing s → Standing t
unfolding barrier_rule
barrier_stands s t w ws o e h =
    let a = need_ok (bytes_eq w (codes "barrier") && nat_eq (length ws) 0) is.Words _ t e in
    let b = need_ok (nat_lt (barriers_at s.clients s.client) 4095) is.Count _ t a.1 in
    let room : barriers_at s.clients s.client < 4095 = grind (arith, common_steps, b.0) in
    let len = changed_length with_barrier s.clients s.client in
    subst Standing (same_ok _ t b.1) (record {
      servers = h.servers;
      early = λ p. absurd (late s.place o p);
      rises = h.rises;
      homes = each_changed (λ x. IsSoundClient s.trees.servers (client_of x)) with_barrier s.clients s.client
          (λ x k r. sound_barrier s.trees.servers x (subst (λ (z : Option Draft). barriers_of z < 4095) k room) r) h.homes;
      names = subst (λ (ns : List (List ℕ)). AllPairs (λ x y. x ≢ y) ns) (sym (changed_names with_barrier (λ x. refl) s.clients s.client)) h.names;
      few = omega (arith, len, h.few);
      controls = omega (arith, sum_changed (λ x. controls (client_of x)) with_barrier 0 s.clients s.client (λ x. omega arith), h.controls);
      publishes = omega (arith, sum_changed (λ x. publishes (client_of x)) with_barrier 0 s.clients s.client (λ x. omega arith), h.publishes);
      counted = h.counted;
      turns = subst (λ (n : ℕ). Each (λ x. IsSoundTurn s.trees.servers n x.1) s.schedule) (sym len) h.turns;
    })

-- what a command adds to the counts
record Counted (c : Command) (t u : CommandCounts) : Type 0 where
  pub controls : u.controls ≡ t.controls + count (is_control c)
  pub publications : u.publications ≡ t.publications + count (is_publish real (command_of c))
  pub within : (t.controls ≤ 4096) × (t.publications ≤ 100000) → (u.controls ≤ 4096) × (u.publications ≤ 100000)

control_counted : (c : Command) (t u : CommandCounts) (withdraws : Bool) (bytes servers : ℕ) → is_publish real (command_of c) ≡ false → control_rule t withdraws bytes servers ≡ Ok u → Counted c t u
unfolding control_rule
control_counted c t u withdraws bytes servers p e =
    let a = need_ok (nat_lt t.controls 4096) is.Commands _ u e in
    let b = need_ok (nat_le (control_product (with_control t withdraws bytes) servers) 2147483648) is.MuchControl _ u a.1 in
    let few : t.controls < 4096 = grind (arith, common_steps, a.0) in
    let same : with_control t withdraws bytes ≡ u = same_counts _ u b.1 in
    subst (λ (v : CommandCounts). Counted c t v) same (record {
      controls = rw p refl;
      publications = rw p (omega arith);
      within = λ l. (omega arith, l.1);
    })

publish_counted : (c : Command) (t u : CommandCounts) (bytes clients : ℕ) → is_publish real (command_of c) ≡ true → publish_rule t bytes clients ≡ Ok u → Counted c t u
unfolding publish_rule
publish_counted c t u bytes clients p e =
    let a = need_ok (nat_lt t.publications 100000) is.Publications _ u e in
    let b = need_ok (nat_le (notice_product (with_publish t bytes) clients) 268435456) is.MuchNotice _ u a.1 in
    let few : t.publications < 100000 = grind (arith, common_steps, a.0) in
    let same : with_publish t bytes ≡ u = same_counts _ u b.1 in
    subst (λ (v : CommandCounts). Counted c t v) same (record {
      controls = rw p (omega arith);
      publications = rw p refl;
      within = λ l. (l.0, omega arith);
    })

command_counted : (c : Command) (t u : CommandCounts) (bytes servers clients : ℕ) → count_rule t c bytes servers clients ≡ Ok u → Counted c t u
command_counted (commands.Subscribe f) t u bytes servers clients e = control_counted (commands.Subscribe f) t u false bytes servers refl e
command_counted (commands.Unsubscribe f) t u bytes servers clients e = control_counted (commands.Unsubscribe f) t u true bytes servers refl e
command_counted (commands.Advertise f) t u bytes servers clients e = control_counted (commands.Advertise f) t u false bytes servers refl e
command_counted (commands.Unadvertise f) t u bytes servers clients e = control_counted (commands.Unadvertise f) t u true bytes servers refl e
command_counted (commands.Publish n) t u bytes servers clients e = publish_counted (commands.Publish n) t u bytes clients refl e

pub command_stands : (s t : State) (line : List ℕ) → s.place ≡ at.Scripts → command_rule s line ≡ Ok t → Standing s → Standing t
unfolding command_rule
command_stands s t line o e h =
    let a = bind_ok (line_command (version_number s.version) line) _ t e in
    let b = bind_ok (count_rule s.tally a.0 (length line) s.trees.servers (length s.clients)) _ t a.2 in
    let k = command_counted a.0 s.tally b.0 (length line) s.trees.servers (length s.clients) b.1 in
    let len = changed_length (with_command a.0) s.clients s.client in
    subst Standing (same_ok _ t b.2) (record {
      servers = h.servers;
      early = λ p. absurd (late s.place o p);
      rises = h.rises;
      homes = each_changed (λ x. IsSoundClient s.trees.servers (client_of x)) (with_command a.0) s.clients s.client (λ x m r. sound_command s.trees.servers a.0 x r) h.homes;
      names = subst (λ (ns : List (List ℕ)). AllPairs (λ x y. x ≢ y) ns) (sym (changed_names (with_command a.0) (λ x. refl) s.clients s.client)) h.names;
      few = omega (arith, len, h.few);
      controls = omega (arith, sum_changed (λ x. controls (client_of x)) (with_command a.0) (count (is_control a.0)) s.clients s.client (λ x. omega (arith, controls_more a.0 x)), h.controls, k.controls);
      publishes = omega (arith, sum_changed (λ x. publishes (client_of x)) (with_command a.0) (count (is_publish real (command_of a.0))) s.clients s.client (λ x. omega (arith, publishes_more a.0 x)), h.publishes, k.publications);
      counted = k.within h.counted;
      turns = subst (λ (n : ℕ). Each (λ x. IsSoundTurn s.trees.servers n x.1) s.schedule) (sym len) h.turns;
    })

pub schedule_stands : (s t : State) (w : List ℕ) (ws : List (List ℕ)) → has_servers s.place ≡ true → schedule_rule s w ws ≡ Ok t → Standing s → Standing t
unfolding schedule_rule
schedule_stands s t w ws o e h =
    let a = need_ok (bytes_eq w (codes "schedule") && nat_eq (length ws) 0) is.Words _ t e in
    subst Standing (same_ok _ t a.1) (record {
      servers = λ p. h.servers o;
      early = λ p. cc;
      rises = h.rises;
      homes = h.homes;
      names = h.names;
      few = h.few;
      controls = h.controls;
      publishes = h.publishes;
      counted = h.counted;
      turns = h.turns;
    })

with_turn_stands : (s : State) (n : ℕ) (turn : Turn) → s.place ≡ at.Schedule → IsSoundTurn s.trees.servers (length s.clients) turn → Standing s → Standing (with_turn s n turn)
with_turn_stands s n turn o k h = record {
  servers = h.servers;
  early = λ p. absurd (in-schedule s.place o p);
  rises = h.rises;
  homes = h.homes;
  names = h.names;
  few = h.few;
  controls = h.controls;
  publishes = h.publishes;
  counted = h.counted;
  turns = each_more (λ x. IsSoundTurn s.trees.servers (length s.clients) x.1) s.schedule (n, turn) h.turns k;
}

pub command_turn_stands : (s t : State) (n : ℕ) (ws : List (List ℕ)) → s.place ≡ at.Schedule → command_turn s n ws ≡ Ok t → Standing s → Standing t
unfolding command_turn
command_turn_stands s t n ws o e h =
    let a = want_ok (one_name ws) is.Words _ t e in
    let b = want_ok (client_at s.clients a.0) is.Name _ t a.2 in
    let l : b.0 < length s.clients = place_within s.clients a.0 b.0 b.1 in
    subst Standing (same_ok _ t b.2) (with_turn_stands s n (turns.Command (b.0 + 1)) o (omega arith, omega arith) h)

pub take_turn_stands : (s t : State) (n : ℕ) (ws : List (List ℕ)) → s.place ≡ at.Schedule → take_turn s n ws ≡ Ok t → Standing s → Standing t
unfolding take_turn
take_turn_stands s t n ws o e h =
    let a = want_ok (two_numbers ws) is.Words _ t e in
    let b = need_ok (are_servers s.trees.servers a.0 && are_neighbours s.trees a.0) is.Range _ t a.2 in
    let both = both-left (are_servers s.trees.servers a.0) (are_neighbours s.trees a.0) b.0 in
    let first = is-among s.trees.servers a.0.0 (both-left (is_server s.trees.servers a.0.0) (is_server s.trees.servers a.0.1) both) in
    let second = is-among s.trees.servers a.0.1 (both-right (is_server s.trees.servers a.0.0) (is_server s.trees.servers a.0.1) both) in
    subst Standing (same_ok _ t b.1) (with_turn_stands s n (turns.Receive a.0.0 a.0.1) o (first, second) h)

pub version_turn_stands : (s t : State) (n : ℕ) (ws : List (List ℕ)) → s.place ≡ at.Schedule → version_turn s n ws ≡ Ok t → Standing s → Standing t
unfolding version_turn
version_turn_stands s t n ws o e h =
    let a = want_ok (one_number ws) is.Words _ t e in
    let b = need_ok (is_server s.trees.servers a.0) is.Range _ t a.2 in
    subst Standing (same_ok _ t b.1) (with_turn_stands s n (turns.TableUpdate a.0) o (is-among s.trees.servers a.0 b.0) h)
