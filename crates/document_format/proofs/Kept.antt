-- What each line of a document keeps of what its canonical text needs.
use Rattle.std.proofs.Common.{◌≡◌, ◌⊎◌, inl, inr, ℕ, ◌+◌, ◌≤◌, Bool, true, false, not, ◌&&◌, List, [], ◌∷◌, length, refl, sym, ap, subst, ◌∙◌, arith, Option, Some, None, Result, Ok, Err}
use Rattle.std.specs.Prelude.{codes, nat_eq, nat_le, nat_lt, if◌then◌else◌}
use Rattle.std.specs.Option.{is_some, option_and_then, option_zip}
use Rattle.std.specs.Str.{bytes_eq}
use Rattle.std.proofs.lemmas.Grind.{common_steps}
use Rattle.std.proofs.lemmas.Option.{same_Some}
use Rattle.filter_values.specs.Name.{IsName, is_name}
use Rattle.filter_values.proofs.NameTests.{tested_name}
use Rattle.base_tree.specs.Graph.{has_edge}
use Rattle.base_tree.proofs.Truths.{both-right}
use Rattle.filter_text.specs.declared.command.Command.{Command}
use Rattle.document_script.specs.declared.fault.ScriptFault.{ScriptFault}
use Rattle.document_script.specs.declared.verb.Verb.TheVariants as verbs
use Rattle.document_script.specs.Tokens.{first_word, tokens}
use Rattle.document_script.specs.Form.{CommandForm, verb_named}
use Rattle.document_script.specs.Form.CommandForm.{control, publish}
use Rattle.document_script.specs.Command.{fault_in, form_of}
use Rattle.document_format.specs.CommandText.{IsCommandIn}
use Rattle.document_format.proofs.FormLaws.{IsFormIn, form_spelled}
use Rattle.document_format.proofs.SpelledLaws.{list_in, notice_in}
use Rattle.net_model.specs.declared.turn.Turn.{Turn}
use Rattle.net_model.specs.declared.turn.Turn.TheVariants as turns
use Rattle.document_reader.specs.Answer.{◌>>=◌}
use Rattle.document_reader.specs.Lines.{words}
use Rattle.document_reader.specs.Words.{name_and_number, number, one, one_name, one_number, two, two_numbers}
use Rattle.document_reader.specs.Drawn.{Block, Drawn, are_neighbours, are_servers, is_apart, is_server, are_joined}
use Rattle.document_reader.specs.Drafts.{barriers_at, begun, client_at, has_script, scriptless, with_barrier, with_command}
use Rattle.document_reader.specs.Commands.{command_of, command_of_form, command_in, unless_fault, document_fault}
use Rattle.document_reader.specs.Rules.{barrier_rule, client_rule, command_rule, command_turn, count_rule, edge_rule, header_rule, phase_rule, schedule_rule, script_rule, semantics_named, semantics_rule, servers_rule, take_turn, version_named, version_number, version_turn, with_turn}
use Rattle.document_reader.specs.Places.{at_clients, at_edges, at_place, at_schedule, at_token, has_servers, is_comment, line_rule, start, words_rule}
use Rattle.document_reader.specs.Meaning.{stands}
use Rattle.document_reader.specs.declared.draft.Draft.{Draft}
use Rattle.document_reader.specs.declared.fault.Fault.{Fault}
use Rattle.document_reader.specs.declared.fault.Fault.TheVariants as is
use Rattle.document_reader.specs.declared.version.Version.{Version}
use Rattle.document_reader.specs.declared.version.Version.TheVariants.{One, Two}
use Rattle.document_reader.specs.declared.state.State.{State}
use Rattle.document_reader.specs.declared.state.Place.{Place}
use Rattle.document_reader.specs.declared.state.Place.TheVariants as at
use Rattle.filter_text.specs.MessageText.{Each}
use Rattle.document_reader.proofs.Members.{each_changed, each_more}
use Rattle.document_reader.proofs.Meaning.{stands_ok}
use Rattle.document_reader.proofs.Standing.{need_ok, same_ok, want_ok, bind_ok, late, in-schedule}
use Rattle.base.proofs.Bools.{if-cases}

no_answer : {A B : Type 0} (f : Fault) (t : A) → (let r : Result A Fault = Err f in r) ≡ Ok t → B
no_answer f t e = cc

-- Commands.

same_command : (c d : Command) → (let r : Result Command Fault = Ok c in r) ≡ Ok d → c ≡ d
same_command c d e = cc

form_command : (version : ℕ) (form : CommandForm) → IsFormIn version form → fault_in form ≡ None → IsCommandIn version (command_in form)
form_command version (control verbs.Subscribe parts) is e = list_in 16 version parts is.1 is.2 e
form_command version (control verbs.Unsubscribe parts) is e = list_in 16 version parts is.1 is.2 e
form_command version (control verbs.Advertise parts) is e = list_in 64 version parts is.1 is.2 e
form_command version (control verbs.Unadvertise parts) is e = list_in 64 version parts is.1 is.2 e
form_command version (control verbs.Publish parts) is e = absurd (is.0 refl)
form_command version (publish attributes) is e = notice_in version attributes is.0 is.1 e

command_judged : (version : ℕ) (f : Option ScriptFault) (form : CommandForm) (c : Command) → fault_in form ≡ f → IsFormIn version form → unless_fault f form ≡ Ok c → IsCommandIn version c
command_judged version None form c g k e = subst (IsCommandIn version) (same_command (command_in form) c e) (form_command version form k g)
command_judged version (Some fault) form c g k e = no_answer (document_fault fault) c e

command_formed : (version : ℕ) (o : Option CommandForm) (c : Command) → ((form : CommandForm) → o ≡ Some form → IsFormIn version form) → command_of_form o ≡ Ok c → IsCommandIn version c
command_formed version None c k e = no_answer is.Syntax c e
command_formed version (Some form) c k e = command_judged version (fault_in form) form c refl (k form refl) e

-- the command of a line is one of the version
pub line_command : (version : ℕ) (line : List ℕ) (c : Command) → command_of version line ≡ Ok c → IsCommandIn version c
unfolding command_of
line_command version line c e = command_formed version (form_of version line) c (λ form f. form_spelled version line form f) e

-- What is kept.

-- the first phase of a tree: the first tree's is 0, and later trees are of version 2
abbrev pub IsPhaseIn : Version → ℕ → Type 0
IsPhaseIn v phase = (phase ≡ 0) ⊎ ((v ≡ Two) × (phase ≤ 4095))

-- a client has a name, and commands of the version
pub record IsDraftIn (version : ℕ) (d : Draft) : Type 0 where
  pub name : IsName d.client.name
  pub commands : Each (λ s. IsCommandIn version s.1) d.client.script

-- a reception is from a neighbour
abbrev pub IsNearIn : Drawn → Turn → Type 0
IsNearIn trees (turns.Command client) = Unit {0}
IsNearIn trees (turns.Receive a b) = are_neighbours trees (a, b) ≡ true
IsNearIn trees (turns.TableUpdate a) = Unit {0}

abbrev pub is_scheduled : Place → Bool
is_scheduled at.Schedule = true
is_scheduled place = false

-- what stands before the number of servers
pub record IsFresh (s : State) : Type 0 where
  pub earlier : s.trees.earlier ≡ []
  pub phase : s.trees.phase ≡ 0
  pub clients : s.clients ≡ []

pub record Kept (s : State) : Type 0 where
  pub fresh : has_servers s.place ≡ false → IsFresh s
  pub early : Each (λ b. IsPhaseIn s.version b.0) s.trees.earlier
  pub now : IsPhaseIn s.version s.trees.phase
  pub clients : Each (IsDraftIn (version_number s.version)) s.clients
  pub unscheduled : is_scheduled s.place ≡ false → s.schedule ≡ []
  pub turns : Each (λ t. IsNearIn s.trees t.1) s.schedule

nothing_scheduled : (s : State) (trees : Drawn) (schedule : List (ℕ × Turn)) → schedule ≡ [] → Each (λ t. IsNearIn trees t.1) schedule
nothing_scheduled s trees schedule e = subst (λ (z : List (ℕ × Turn)). Each (λ t. IsNearIn trees t.1) z) (sym e) tt

header_keeps : (s t : State) (w : List ℕ) (ws : List (List ℕ)) → s.place ≡ at.Header → header_rule s w ws ≡ Ok t → Kept s → Kept t
unfolding header_rule
header_keeps s t w ws p e h =
    let a = need_ok (bytes_eq w (codes "siena")) is.Header _ t e in
    let b = want_ok (one ws) is.Header _ t a.1 in
    let c = want_ok (version_named b.0) is.Header _ t b.2 in
    let f = h.fresh (ap has_servers p) in
    subst Kept (same_ok _ t c.2) (record {
      fresh = λ o. record { earlier = f.earlier; phase = f.phase; clients = f.clients };
      early = subst (λ (bs : List Block). Each (λ x. IsPhaseIn c.0 x.0) bs) (sym f.earlier) tt;
      now = inl f.phase;
      clients = subst (λ (ds : List Draft). Each (IsDraftIn (version_number c.0)) ds) (sym f.clients) tt;
      unscheduled = λ o. h.unscheduled (ap is_scheduled p);
      turns = h.turns;
    })

semantics_keeps : (s t : State) (w : List ℕ) (ws : List (List ℕ)) → s.place ≡ at.Semantics → semantics_rule s w ws ≡ Ok t → Kept s → Kept t
unfolding semantics_rule
semantics_keeps s t w ws p e h =
    let a = need_ok (bytes_eq w (codes "semantics")) is.Order _ t e in
    let b = want_ok (one ws) is.Words _ t a.1 in
    let c = want_ok (semantics_named b.0) is.Words _ t b.2 in
    let f = h.fresh (ap has_servers p) in
    subst Kept (same_ok _ t c.2) (record {
      fresh = λ o. record { earlier = f.earlier; phase = f.phase; clients = f.clients };
      early = h.early;
      now = h.now;
      clients = h.clients;
      unscheduled = λ o. h.unscheduled (ap is_scheduled p);
      turns = h.turns;
    })

servers_keeps : (s t : State) (w : List ℕ) (ws : List (List ℕ)) → s.place ≡ at.Servers → servers_rule s w ws ≡ Ok t → Kept s → Kept t
unfolding servers_rule
servers_keeps s t w ws p e h =
    let a = need_ok (bytes_eq w (codes "servers")) is.Order _ t e in
    let b = want_ok (one_number ws) is.Words _ t a.1 in
    let c = need_ok (is_server 64 b.0) is.Range _ t b.2 in
    subst Kept (same_ok _ t c.1) (record {
      fresh = λ o. cc;
      early = tt;
      now = inl refl;
      clients = h.clients;
      unscheduled = λ o. h.unscheduled (ap is_scheduled p);
      turns = nothing_scheduled s _ s.schedule (h.unscheduled (ap is_scheduled p));
    })

edge_keeps : (s t : State) (ws : List (List ℕ)) → s.place ≡ at.Edges → edge_rule s ws ≡ Ok t → Kept s → Kept t
unfolding edge_rule
edge_keeps s t ws p e h =
    let a = want_ok (two_numbers ws) is.Words _ t e in
    let b = need_ok (are_servers s.trees.servers a.0) is.Range _ t a.2 in
    let c = need_ok (not (has_edge s.trees.edges a.0.0 a.0.1)) is.Twice _ t b.1 in
    let d = need_ok (not (are_joined s.trees.edges a.0.0 a.0.1)) is.Loop _ t c.1 in
    subst Kept (same_ok _ t d.1) (record {
      fresh = λ o. absurd (later s.place p o);
      early = h.early;
      now = h.now;
      clients = h.clients;
      unscheduled = h.unscheduled;
      turns = nothing_scheduled s _ s.schedule (h.unscheduled (ap is_scheduled p));
    })
  where
    later : (q : Place) → q ≡ at.Edges → has_servers q ≡ false → ⊥
    later q o f = let g : has_servers at.Edges ≡ false = ap has_servers (sym o) ∙ f in cc

phase_keeps : (s t : State) (ws : List (List ℕ)) → s.place ≡ at.Edges → s.version ≡ Two → phase_rule s ws ≡ Ok t → Kept s → Kept t
unfolding phase_rule
phase_keeps s t ws p v e h =
    let a = want_ok (one_number ws) is.Words _ t e in
    let b = need_ok (nat_lt s.trees.phase a.0 && nat_le a.0 4095) is.Range _ t a.2 in
    let f : nat_le a.0 4095 ≡ true = both-right (nat_lt s.trees.phase a.0) (nat_le a.0 4095) b.0 in
    let l : a.0 ≤ 4095 = small a.0 f in
    subst Kept (same_ok _ t b.1) (record {
      fresh = λ o. absurd (later s.place p o);
      early = each_more (λ (x : Block). IsPhaseIn s.version x.0) s.trees.earlier (s.trees.phase, s.trees.edges) h.early h.now;
      now = inr (v, l);
      clients = h.clients;
      unscheduled = h.unscheduled;
      turns = nothing_scheduled s _ s.schedule (h.unscheduled (ap is_scheduled p));
    })
  where
    small : (n : ℕ) → nat_le n 4095 ≡ true → n ≤ 4095
    small n g = grind (arith, common_steps, g)

    later : (q : Place) → q ≡ at.Edges → has_servers q ≡ false → ⊥
    later q o f = let g : has_servers at.Edges ≡ false = ap has_servers (sym o) ∙ f in cc

some_inj : {A : Type 0} (x y : A) → ◌≡◌ {A = Option A} (Some x) (Some y) → x ≡ y
some_inj x y e = same_Some x y e

-- the name of a word that must be one
named_is : (b : Bool) (w n : List ℕ) (r : Option ℕ) (m : ℕ) → (b ≡ true → IsName w) → (if b then option_zip (Some w) r else None) ≡ Some (n, m) → IsName n
named_is true w n None m k e = absurd (no_some (n, m) e)
  where
    no_some : (x : List ℕ × ℕ) → ◌≡◌ {A = Option (List ℕ × ℕ)} None (Some x) → ⊥
    no_some x g = cc
named_is true w n (Some r) m k e = subst IsName (ap (λ (z : List ℕ × ℕ). z.0) (some_inj (w, r) (n, m) e)) (k refl)
named_is false w n r m k e = absurd (no_some (n, m) e)
  where
    no_some : (x : List ℕ × ℕ) → ◌≡◌ {A = Option (List ℕ × ℕ)} None (Some x) → ⊥
    no_some x g = cc

name_first : (ws : List (List ℕ)) (n : List ℕ) (m : ℕ) → name_and_number ws ≡ Some (n, m) → IsName n
unfolding name_and_number
name_first ws n m e = go (two ws) e
  where
    no_some : (x : List ℕ × ℕ) → ◌≡◌ {A = Option (List ℕ × ℕ)} None (Some x) → ⊥
    no_some x g = cc

    go : (o : Option (List ℕ × List ℕ)) → option_and_then (λ p. if is_name p.0 then option_zip (Some p.0) (number p.1) else None) o ≡ Some (n, m) → IsName n
    go None f = absurd (no_some (n, m) f)
    go (Some p) f = named_is (is_name p.0) p.0 n (number p.1) m (λ g. tested_name p.0 g) f

client_keeps : (s t : State) (ws : List (List ℕ)) → has_servers s.place ≡ true → is_scheduled s.place ≡ false → client_rule s ws ≡ Ok t → Kept s → Kept t
unfolding client_rule
client_keeps s t ws o u e h =
    let a = want_ok (name_and_number ws) is.Words _ t e in
    let b = need_ok (is_server s.trees.servers a.0.1) is.Range _ t a.2 in
    let c = need_ok (not (is_some (client_at s.clients a.0.0))) is.Name _ t b.1 in
    let d = need_ok (nat_lt (length s.clients) 1024) is.Count _ t c.1 in
    subst Kept (same_ok _ t d.1) (record {
      fresh = λ p. cc;
      early = h.early;
      now = h.now;
      clients = each_more (IsDraftIn (version_number s.version)) s.clients (scriptless a.0.0 a.0.1) h.clients (record { name = name_first ws a.0.0 a.0.1 a.1; commands = tt });
      unscheduled = λ p. h.unscheduled u;
      turns = h.turns;
    })

script_keeps : (s t : State) (w : List ℕ) (ws : List (List ℕ)) → is_scheduled s.place ≡ false → script_rule s w ws ≡ Ok t → Kept s → Kept t
unfolding script_rule
script_keeps s t w ws u e h =
    let a = need_ok (bytes_eq w (codes "script")) is.Words _ t e in
    let b = want_ok (one_name ws) is.Words _ t a.1 in
    let c = want_ok (client_at s.clients b.0) is.Name _ t b.2 in
    let d = need_ok (not (has_script s.clients c.0)) is.Name _ t c.2 in
    subst Kept (same_ok _ t d.1) (record {
      fresh = λ p. cc;
      early = h.early;
      now = h.now;
      clients = each_changed (IsDraftIn (version_number s.version)) begun s.clients c.0 (λ x k r. record { name = r.name; commands = r.commands }) h.clients;
      unscheduled = λ p. h.unscheduled u;
      turns = h.turns;
    })

barrier_keeps : (s t : State) (w : List ℕ) (ws : List (List ℕ)) → s.place ≡ at.Scripts → barrier_rule s w ws ≡ Ok t → Kept s → Kept t
unfolding barrier_rule
barrier_keeps s t w ws o e h =
    let a = need_ok (bytes_eq w (codes "barrier") && nat_eq (length ws) 0) is.Words _ t e in
    let b = need_ok (nat_lt (barriers_at s.clients s.client) 4095) is.Count _ t a.1 in
    subst Kept (same_ok _ t b.1) (record {
      fresh = λ p. absurd (late s.place o p);
      early = h.early;
      now = h.now;
      clients = each_changed (IsDraftIn (version_number s.version)) with_barrier s.clients s.client (λ x k r. record { name = r.name; commands = r.commands }) h.clients;
      unscheduled = h.unscheduled;
      turns = h.turns;
    })

command_keeps : (s t : State) (line : List ℕ) → s.place ≡ at.Scripts → command_rule s line ≡ Ok t → Kept s → Kept t
unfolding command_rule
command_keeps s t line o e h =
    let a = bind_ok (command_of (version_number s.version) line) _ t e in
    let b = bind_ok (count_rule s.tally a.0 (length line) s.trees.servers (length s.clients)) _ t a.2 in
    let c = line_command (version_number s.version) line a.0 a.1 in
    subst Kept (same_ok _ t b.2) (record {
      fresh = λ p. absurd (late s.place o p);
      early = h.early;
      now = h.now;
      clients = each_changed (IsDraftIn (version_number s.version)) (with_command a.0) s.clients s.client (λ x k r. record { name = r.name; commands = each_more (λ (y : ℕ × Command). IsCommandIn (version_number s.version) y.1) x.client.script (x.client.barriers, a.0) r.commands c }) h.clients;
      unscheduled = h.unscheduled;
      turns = h.turns;
    })

schedule_keeps : (s t : State) (w : List ℕ) (ws : List (List ℕ)) → schedule_rule s w ws ≡ Ok t → Kept s → Kept t
unfolding schedule_rule
schedule_keeps s t w ws e h =
    let a = need_ok (bytes_eq w (codes "schedule") && nat_eq (length ws) 0) is.Words _ t e in
    subst Kept (same_ok _ t a.1) (record {
      fresh = λ p. cc;
      early = h.early;
      now = h.now;
      clients = h.clients;
      unscheduled = λ p. cc;
      turns = h.turns;
    })

not-unscheduled : (q : Place) → q ≡ at.Schedule → is_scheduled q ≡ false → ⊥
not-unscheduled q o p = let e : is_scheduled at.Schedule ≡ false = ap is_scheduled (sym o) ∙ p in cc

turn_keeps : (s : State) (n : ℕ) (turn : Turn) → s.place ≡ at.Schedule → IsNearIn s.trees turn → Kept s → Kept (with_turn s n turn)
turn_keeps s n turn o k h = record {
  fresh = λ p. absurd (in-schedule s.place o p);
  early = h.early;
  now = h.now;
  clients = h.clients;
  unscheduled = λ p. absurd (not-unscheduled s.place o p);
  turns = each_more (λ (x : ℕ × Turn). IsNearIn s.trees x.1) s.schedule (n, turn) h.turns k;
}

schedule_line_keeps : (s t : State) (n : ℕ) (w : List ℕ) (ws : List (List ℕ)) → s.place ≡ at.Schedule → at_schedule s n w ws ≡ Ok t → Kept s → Kept t
unfolding at_schedule command_turn take_turn version_turn
schedule_line_keeps s t n w ws o e h =
    elim (if-cases (bytes_eq w (codes "command")) _ _ _ e) [
      | inl a ↦ (let b = want_ok (one_name ws) is.Words _ t a.1 in
          let c = want_ok (client_at s.clients b.0) is.Name _ t b.2 in
          subst Kept (same_ok _ t c.2) (turn_keeps s n (turns.Command (c.0 + 1)) o tt h))
      | inr a ↦ elim (if-cases (bytes_eq w (codes "take")) _ _ _ a.1) [
        | inl b ↦ (let c = want_ok (two_numbers ws) is.Words _ t b.1 in
            let d = need_ok (are_servers s.trees.servers c.0 && are_neighbours s.trees c.0) is.Range _ t c.2 in
            subst Kept (same_ok _ t d.1) (turn_keeps s n (turns.Receive c.0.0 c.0.1) o (both-right (are_servers s.trees.servers c.0) (are_neighbours s.trees c.0) d.0) h))
        | inr b ↦ elim (if-cases (bytes_eq w (codes "version")) _ _ _ b.1) [
          | inl d ↦ (let f = want_ok (one_number ws) is.Words _ t d.1 in
              let g = need_ok (is_server s.trees.servers f.0) is.Range _ t f.2 in
              subst Kept (same_ok _ t g.1) (turn_keeps s n (turns.TableUpdate f.0) o tt h))
          | inr d ↦ no_answer is.Order t d.1
        ]
      ]
    ]

-- Places.

clients_keep : (s t : State) (w : List ℕ) (ws : List (List ℕ)) → has_servers s.place ≡ true → is_scheduled s.place ≡ false → at_clients s w ws ≡ Ok t → Kept s → Kept t
unfolding at_clients
clients_keep s t w ws o u e h =
    elim (if-cases (bytes_eq w (codes "client")) _ _ _ e) [
      | inl a ↦ client_keeps s t ws o u a.1 h
      | inr a ↦ elim (if-cases (bytes_eq w (codes "script")) _ _ _ a.1) [
        | inl b ↦ script_keeps s t w ws u b.1 h
        | inr b ↦ elim (if-cases (bytes_eq w (codes "schedule")) _ _ _ b.1) [
          | inl d ↦ schedule_keeps s t w ws d.1 h
          | inr d ↦ no_answer is.Order t d.1
        ]
      ]
    ]

is_two : (v : Version) → nat_eq (version_number v) 2 ≡ true → v ≡ Two
is_two One e = cc
is_two Two e = refl

edges_keep : (s t : State) (w : List ℕ) (ws : List (List ℕ)) → s.place ≡ at.Edges → at_edges s w ws ≡ Ok t → Kept s → Kept t
unfolding at_edges
edges_keep s t w ws o e h =
    elim (if-cases (bytes_eq w (codes "edge")) _ _ _ e) [
      | inl a ↦ edge_keeps s t ws o a.1 h
      | inr a ↦ elim (if-cases (is_apart s.trees) _ _ _ a.1) [
        | inl b ↦ no_answer is.Apart t b.1
        | inr b ↦ elim (if-cases (bytes_eq w (codes "phase") && nat_eq (version_number s.version) 2) _ _ _ b.1) [
          | inl d ↦ phase_keeps s t ws o (is_two s.version (both-right (bytes_eq w (codes "phase")) (nat_eq (version_number s.version) 2) d.0)) d.1 h
          | inr d ↦ clients_keep s t w ws (ap has_servers o) (ap is_scheduled o) d.1 h
        ]
      ]
    ]

token_keeps : (s t : State) (line w : List ℕ) (ws : List (List ℕ)) (token : Option (List ℕ)) → s.place ≡ at.Scripts → at_token s line w ws token ≡ Ok t → Kept s → Kept t
unfolding at_token
token_keeps s t line w ws None o e h = no_answer is.Order t e
token_keeps s t line w ws (Some token) o e h =
    elim (if-cases (bytes_eq token (codes "barrier")) _ _ _ e) [
      | inl a ↦ barrier_keeps s t w ws o a.1 h
      | inr a ↦ elim (if-cases (bytes_eq token (codes "script")) _ _ _ a.1) [
        | inl b ↦ script_keeps s t w ws (ap is_scheduled o) b.1 h
        | inr b ↦ elim (if-cases (bytes_eq token (codes "schedule")) _ _ _ b.1) [
          | inl d ↦ schedule_keeps s t w ws d.1 h
          | inr d ↦ elim (if-cases (is_some (verb_named token)) _ _ _ d.1) [
            | inl f ↦ command_keeps s t line o f.1 h
            | inr f ↦ no_answer is.Order t f.1
          ]
        ]
      ]
    ]

place_keeps : (q : Place) (s t : State) (n : ℕ) (line w : List ℕ) (ws : List (List ℕ)) → s.place ≡ q → at_place q s n line w ws ≡ Ok t → Kept s → Kept t
place_keeps at.Header s t n line w ws o e h = header_keeps s t w ws o e h
place_keeps at.Semantics s t n line w ws o e h = semantics_keeps s t w ws o e h
place_keeps at.Servers s t n line w ws o e h = servers_keeps s t w ws o e h
place_keeps at.Edges s t n line w ws o e h = edges_keep s t w ws o e h
place_keeps at.Clients s t n line w ws o e h = clients_keep s t w ws (ap has_servers o) (ap is_scheduled o) e h
place_keeps at.Scripts s t n line w ws o e h = token_keeps s t line w ws (first_word (tokens line)) o e h
place_keeps at.Schedule s t n line w ws o e h = schedule_line_keeps s t n w ws o e h

words_keep : (s t : State) (n : ℕ) (line : List ℕ) (ws : List (List ℕ)) → words_rule s n line ws ≡ Ok t → Kept s → Kept t
words_keep s t n line [] e h = subst Kept (same_ok s t e) h
words_keep s t n line (w ∷ ws) e h =
    elim (if-cases (is_comment w) _ _ _ e) [
      | inl a ↦ subst Kept (same_ok s t a.1) h
      | inr a ↦ place_keeps s.place s t n line w ws refl a.1 h
    ]

line_keeps : (s t : State) (n : ℕ) (line : List ℕ) → line_rule s n line ≡ Ok t → Kept s → Kept t
unfolding line_rule
line_keeps s t n line e h = words_keep s t n line (words line) e h

pub lines_keep : (n : ℕ) (s t : State) (ls : List (List ℕ)) → stands n s ls ≡ Ok t → Kept s → Kept t
lines_keep n s t [] e h = subst Kept (same_ok s t e) h
lines_keep n s t (l ∷ ls) e h =
    let k = stands_ok n s t l ls e in
    lines_keep (n + 1) k.0 t ls k.2 (line_keeps s k.0 n l k.1 h)

pub start_kept : Kept start
start_kept = record {
  fresh = λ o. record { earlier = refl; phase = refl; clients = refl };
  early = tt;
  now = inl refl;
  clients = tt;
  unscheduled = λ o. refl;
  turns = tt;
}
