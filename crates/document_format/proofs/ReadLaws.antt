-- The canonical text of a net is read as it.
use Rattle.std.proofs.Common.{◌≡◌, ◌⊎◌, inl, inr, ℕ, zero, suc, ◌+◌, ◌-◌, ◌<◌, ◌≤◌, Bool, true, false, ◌&&◌, List, [], ◌∷◌, ◌++◌, length, map, refl, sym, ap, subst, ◌∙◌, arith, Ok, nat_le}
use Rattle.std.specs.Prelude.{codes, slice_get, if◌then◌else◌}
use Rattle.std.specs.List.{flat_map, list_all}
use Rattle.std.specs.Fmt.{decimal}
use Rattle.base.specs.Sets.{Has}
use Rattle.base_tree.specs.Tree.{Topology}
use Rattle.base_tree.proofs.Servers.{server-in}
use Rattle.law_phases.specs.Trees.{RiseFrom}
use Rattle.filter_text.specs.declared.command.Command.{Command}
use Rattle.filter_text.specs.declared.semantics.Semantics.{Semantics}
use Rattle.filter_text.specs.declared.semantics.Semantics.TheVariants.{Subscription, Advertisement}
use Rattle.document_format.specs.CommandText.{command_text, IsCommandIn}
use Rattle.net_model.specs.Parts.{ClientParts, NetParts, net_parts}
use Rattle.net_model.specs.Nets.{client_at as client_of_number, name_in}
use Rattle.net_model.specs.declared.turn.Turn.{Turn}
use Rattle.net_model.specs.declared.turn.Turn.TheVariants as turns
use Rattle.document_reader.specs.Drawn.{Drawn, is_apart, blocks}
use Rattle.document_reader.specs.Tally.{CommandCounts, no_counts}
use Rattle.document_reader.specs.Lines.{lines}
use Rattle.document_reader.specs.Places.{end_rule, has_servers, start}
use Rattle.document_reader.specs.Meaning.{stands, AreTaken}
use Rattle.document_reader.specs.Net.{IsNetOf, AreTreesOf, client_of}
use Rattle.document_reader.specs.Rules.{version_number}
use Rattle.document_reader.specs.declared.version.Version.{Version}
use Rattle.document_reader.specs.declared.version.Version.TheVariants.{One, Two}
use Rattle.document_reader.specs.declared.state.State.{State}
use Rattle.document_reader.specs.declared.state.Place.{Place}
use Rattle.document_reader.specs.declared.state.Place.TheVariants as at
use Rattle.document_reader.proofs.Meaning.{net_means}
use Rattle.filter_text.specs.MessageText.{Each}
use Rattle.document_format.specs.Edges.{edges_of}
use Rattle.document_format.specs.DocumentText.{first_lines, semantics_word, edge_line, tree_lines, phase_lines, client_line, barrier_lines, step_lines, script_lines, is_idle, turn_line, schedule_lines, lines_before, trees_lines, document_text, on_lines, as_written}
use Rattle.document_format.specs.Limits.{counts_after, counts_of, FitsDocument}
use Rattle.document_format.proofs.EdgeLaws.{edges-within}
use Rattle.document_format.proofs.LineLaws.{are_shown, lines_cut}
use Rattle.document_format.proofs.WordLaws.{word_shown, name_word, decimal_word}
use Rattle.document_format.proofs.Shown.{shown-then, command_shown}
use Rattle.document_format.proofs.Stands.{state, stands_on, first_stands, IsOpen}
use Rattle.document_format.proofs.Stands.IsOpen.{Edges, Clients}
use Rattle.document_format.proofs.TreeStands.{IsDrawable, AreDrawable, drawn_all, all_whole, all_servers, all_trees_of, trees_stand}
use Rattle.document_format.proofs.ClientStands.{AreApart, IsWritableClient, written, clients_stand}
use Rattle.document_format.proofs.StepStands.{AreCounts, scripts_stand}
use Rattle.document_format.proofs.TurnStands.{IsWritableTurn, schedule_stand}
use Rattle.base.proofs.Lists.{list_all-append}

-- what a net has whose text is read as it
pub record IsWritable (net : NetParts) : Type 0 where
  pub version : Version
  pub first : ℕ × Topology
  pub later : List (ℕ × Topology)
  pub number : net.version ≡ version_number version
  pub trees : net.trees ≡ first ∷ later
  pub begins : first.0 ≡ 0
  pub rising : RiseFrom 0 later
  pub drawable : IsDrawable first.1.count first
  pub all_drawable : AreDrawable first.1.count version later
  pub clients : Each (IsWritableClient (version_number version) first.1.count) net.clients
  pub apart : AreApart net.clients
  pub few : length net.clients ≤ 1024
  pub controls : (counts_of net).controls ≤ 4096
  pub publications : (counts_of net).publications ≤ 100000
  pub turns : Each (λ t. IsWritableTurn (drawn_all first.1.count [] first later) net.clients t.1) net.schedule

-- Lines without control bytes.

lines-append : (xs ys : List (List ℕ)) → list_all are_shown xs ≡ true → list_all are_shown ys ≡ true → list_all are_shown (xs ++ ys) ≡ true
lines-append [] ys e f = f
lines-append (x ∷ xs) ys e f = let h = both (are_shown x) (list_all are_shown xs) e in rw (h.0, lines-append xs ys h.1 f) refl
  where
    both : (a b : Bool) → a && b ≡ true → (a ≡ true) × (b ≡ true)
    both true b h = (refl, h)
    both false b h = cc

one-line : (x : List ℕ) (xs : List (List ℕ)) → are_shown x ≡ true → list_all are_shown xs ≡ true → list_all are_shown (x ∷ xs) ≡ true
one-line x xs e f = rw (e, f) refl

pub number_shown : (n : ℕ) → n < 65536 → are_shown (decimal n) ≡ true
number_shown n l = word_shown (decimal n) (decimal_word n l).bytes

version_shown : (v : Version) → are_shown (decimal (version_number v)) ≡ true
version_shown One = number_shown 1 (omega arith)
version_shown Two = number_shown 2 (omega arith)

semantics_shown : (sem : Semantics) → are_shown (semantics_word sem) ≡ true
semantics_shown Subscription = refl
semantics_shown Advertisement = refl

edge_shown : (a b : ℕ) → a < 65536 → b < 65536 → are_shown (edge_line (a, b)) ≡ true
edge_shown a b l m = shown-then (codes "edge " ++ decimal a) (decimal b) (list_all-append (nat_le 32) (codes "edge ") (decimal a) refl (number_shown a l)) (number_shown b m)

edges_shown : (count : ℕ) → count ≤ 64 → (es : List (ℕ × ℕ)) → ((e : ℕ × ℕ) → Has e es → ((e.0 ≤ count) × (e.1 ≤ count))) → list_all are_shown (map edge_line es) ≡ true
edges_shown count l [] h = refl
edges_shown count l (e ∷ es) h =
    let k = h e (inl refl) in
    one-line (edge_line e) (map edge_line es) (edge_shown e.0 e.1 (omega (arith, k.0, l)) (omega (arith, k.1, l))) (edges_shown count l es (λ f m. h f (inr m)))

tree_shown : (count : ℕ) (tree : ℕ × Topology) → IsDrawable count tree → list_all are_shown (tree_lines tree.1) ≡ true
tree_shown count tree is = edges_shown tree.1.count is.laws.most (edges_of tree.1) (λ e m. let w = edges-within tree.1 is.laws e m in ((server-in tree.1.count e.0 w.0).1, (server-in tree.1.count e.1 w.1).1))

phases_shown : (count : ℕ) (v : Version) (later : List (ℕ × Topology)) → AreDrawable count v later → list_all are_shown (flat_map phase_lines later) ≡ true
phases_shown count v [] is = refl
phases_shown count v (tree ∷ later) is =
    let l = is.2 in
    lines-append (phase_lines tree) (flat_map phase_lines later)
    (one-line (codes "phase " ++ decimal tree.0) (tree_lines tree.1) (list_all-append (nat_le 32) (codes "phase ") (decimal tree.0) refl (number_shown tree.0 (omega (arith, l)))) (tree_shown count tree is.0))
    (phases_shown count v later is.3)

clients_shown : (version count : ℕ) → count ≤ 64 → (cs : List ClientParts) → Each (IsWritableClient version count) cs → list_all are_shown (map client_line cs) ≡ true
clients_shown version count l [] is = refl
clients_shown version count l (c ∷ cs) is =
    let h = is.0.home in
    one-line (client_line c) (map client_line cs)
    (shown-then (codes "client " ++ c.name) (decimal c.home) (list_all-append (nat_le 32) (codes "client ") c.name refl (word_shown c.name (name_word c.name is.0.name).bytes)) (number_shown c.home (omega (arith, h.1, l))))
    (clients_shown version count l cs is.1)

barriers_shown : (n : ℕ) → list_all are_shown (barrier_lines n) ≡ true
barriers_shown zero = refl
barriers_shown (suc n) = barriers_shown n

steps_shown : (version phase : ℕ) (steps : List (ℕ × Command)) (barriers : ℕ) → Each (λ s. IsCommandIn version s.1) steps → list_all are_shown (step_lines phase steps barriers) ≡ true
steps_shown version phase [] barriers is = barriers_shown (barriers - phase)
steps_shown version phase (step ∷ steps) barriers is =
    lines-append (barrier_lines (step.0 - phase)) (command_text step.1 ∷ step_lines step.0 steps barriers) (barriers_shown (step.0 - phase))
    (one-line (command_text step.1) (step_lines step.0 steps barriers) (command_shown version step.1 is.0) (steps_shown version step.0 steps barriers is.1))

script_shown : (version count : ℕ) (c : ClientParts) → IsWritableClient version count c → list_all are_shown (script_lines c) ≡ true
script_shown version count c is = go (is_idle c)
  where
    go : (b : Bool) → list_all are_shown (if b then [] else (codes "script " ++ c.name) ∷ step_lines 0 c.script c.barriers) ≡ true
    go true = refl
    go false = one-line (codes "script " ++ c.name) (step_lines 0 c.script c.barriers) (list_all-append (nat_le 32) (codes "script ") c.name refl (word_shown c.name (name_word c.name is.name).bytes)) (steps_shown version 0 c.script c.barriers is.commands)

scripts_shown : (version count : ℕ) (cs : List ClientParts) → Each (IsWritableClient version count) cs → list_all are_shown (flat_map script_lines cs) ≡ true
scripts_shown version count [] is = refl
scripts_shown version count (c ∷ cs) is = lines-append (script_lines c) (flat_map script_lines cs) (script_shown version count c is.0) (scripts_shown version count cs is.1)

name_of_place : (version count : ℕ) (cs : List ClientParts) (place : ℕ) → Each (IsWritableClient version count) cs → are_shown (name_in (slice_get cs place)) ≡ true
name_of_place version count [] place is = refl
name_of_place version count (c ∷ cs) zero is = word_shown c.name (name_word c.name is.0.name).bytes
name_of_place version count (c ∷ cs) (suc place) is = name_of_place version count cs place is.1

name_of_number : (version count : ℕ) (cs : List ClientParts) (number : ℕ) → Each (IsWritableClient version count) cs → are_shown (name_in (client_of_number cs number)) ≡ true
name_of_number version count cs zero is = refl
name_of_number version count cs (suc place) is = name_of_place version count cs place is

turn_shown : (version count : ℕ) (trees : Drawn) (cs : List ClientParts) (turn : Turn) → Each (IsWritableClient version count) cs → IsWritableTurn trees cs turn → are_shown (turn_line cs turn) ≡ true
turn_shown version count trees cs (turns.Command client) each is = list_all-append (nat_le 32) (codes "command ") (name_in (client_of_number cs client)) refl (name_of_number version count cs client each)
turn_shown version count trees cs (turns.Receive a b) each is = shown-then (codes "take " ++ decimal a) (decimal b) (list_all-append (nat_le 32) (codes "take ") (decimal a) refl (number_shown a is.0)) (number_shown b is.1)
turn_shown version count trees cs (turns.TableUpdate a) each is = list_all-append (nat_le 32) (codes "version ") (decimal a) refl (number_shown a is.0)

turns_shown : (version count : ℕ) (trees : Drawn) (cs : List ClientParts) (schedule : List (ℕ × Turn)) → Each (IsWritableClient version count) cs → Each (λ t. IsWritableTurn trees cs t.1) schedule → list_all are_shown (map (λ t. turn_line cs t.1) schedule) ≡ true
turns_shown version count trees cs [] each is = refl
turns_shown version count trees cs (turn ∷ schedule) each is = one-line (turn_line cs turn.1) (map (λ t. turn_line cs t.1) schedule) (turn_shown version count trees cs turn.1 each is.0) (turns_shown version count trees cs schedule each is.1)

schedule_shown : (version count : ℕ) (trees : Drawn) (cs : List ClientParts) (schedule : List (ℕ × Turn)) → Each (IsWritableClient version count) cs → Each (λ t. IsWritableTurn trees cs t.1) schedule → list_all are_shown (schedule_lines cs schedule) ≡ true
schedule_shown version count trees cs [] each is = refl
schedule_shown version count trees cs (turn ∷ schedule) each is = turns_shown version count trees cs (turn ∷ schedule) each is

-- The text.

written_clients : (cs : List ClientParts) → cs ≡ map client_of (map written cs)
written_clients [] = refl
written_clients (c ∷ cs) = ap (λ (z : List ClientParts). c ∷ z) (written_clients cs)

open_of : (q : Place) → (q ≡ at.Edges) ⊎ (q ≡ at.Clients) → IsOpen q
open_of q (inl e) = subst IsOpen (sym e) Edges
open_of q (inr e) = subst IsOpen (sym e) Clients

pub open_ends : (q : Place) → IsOpen q → has_servers q ≡ true
open_ends at.Edges o = refl
open_ends at.Clients o = refl
open_ends at.Scripts o = refl
open_ends at.Header o = elim o [ ]
open_ends at.Semantics o = elim o [ ]
open_ends at.Servers o = elim o [ ]
open_ends at.Schedule o = elim o [ ]

place_ends : (q : Place) → IsOpen q ⊎ (q ≡ at.Schedule) → has_servers q ≡ true
place_ends q (inl o) = open_ends q o
place_ends q (inr e) = ap has_servers e

pub ends : (s : State) → has_servers s.place ≡ true → is_apart s.trees ≡ false → end_rule s ≡ Ok s
unfolding end_rule
ends s p w = rw (p, w) refl

-- the parts of a net, and what stands after the lines of its text
module _ (v : Version) (sem : Semantics) (first : ℕ × Topology) (later : List (ℕ × Topology)) (clients : List ClientParts) (schedule : List (ℕ × Turn))
    (begins : first.0 ≡ 0) (rising : RiseFrom 0 later) (drawable : IsDrawable first.1.count first) (all_drawable : AreDrawable first.1.count v later)
    (each : Each (IsWritableClient (version_number v) first.1.count) clients) (apart : AreApart clients) (few : length clients ≤ 1024)
    (are : Each (λ t. IsWritableTurn (drawn_all first.1.count [] first later) clients t.1) schedule)
    (counts : AreCounts (counts_after no_counts (flat_map (λ client. client.script) clients)) first.1.count (length clients)) where
  net : NetParts
  net = net_parts (version_number v) sem (first ∷ later) clients schedule

  trees : Drawn
  trees = drawn_all first.1.count [] first later

  servers_are : trees.servers ≡ first.1.count
  unfolding trees
  servers_are = all_servers first.1.count [] first later

  whole : is_apart trees ≡ false
  unfolding trees
  whole = all_whole first.1.count v [] first later drawable all_drawable

  -- what stands in the end
  record Final : Type 0 where
    pub place : Place
    pub stop : IsOpen place ⊎ (place ≡ at.Schedule)
    pub client : ℕ
    pub tally : CommandCounts
    pub taken : stands 1 start (lines_before net ++ schedule_lines clients schedule) ≡ Ok (state place v sem trees (map written clients) client tally (on_lines (length (lines_before net) + 2) schedule))

  final : Final
  unfolding net trees
  final =
      let lines1 = first_lines net in
      let lines2 = trees_lines net.trees in
      let lines3 = map client_line clients in
      let lines4 = flat_map script_lines clients in
      let n2 = length lines1 + 1 in
      let n3 = length lines2 + n2 in
      let n4 = length lines3 + n3 in
      let n5 = length (lines_before net) + 1 in
      let laws = drawable.laws in
      let s1 = first_stands 1 v sem first.1.count laws.some laws.most in
      let s2 = trees_stand n2 v sem first.1.count first later begins drawable all_drawable rising in
      let small : trees.servers ≤ 64 = omega (arith, servers_are, laws.most) in
      let here : Each (IsWritableClient (version_number v) trees.servers) clients = subst (λ (z : ℕ). Each (IsWritableClient (version_number v) z) clients) (sym servers_are) each in
      let s3 = clients_stand n3 at.Edges v sem trees [] clients (inl refl) whole small here apart few in
      let s4 = scripts_stand n4 s3.0 v sem trees [] clients 0 no_counts (open_of s3.0 s3.1) whole here apart (subst (λ (z : ℕ). AreCounts (counts_after no_counts (flat_map (λ client. client.script) clients)) z (length clients)) (sym servers_are) counts) in
      let s5 = schedule_stand n5 s4.0 v sem trees clients s4.2 (counts_after no_counts (flat_map (λ client. client.script) clients)) schedule s4.1 whole are here apart in
      let e : n5 + 1 ≡ length (lines_before net) + 2 = omega arith in
      let before : stands 1 start (lines_before net) ≡ Ok (state s4.0 v sem trees (map written clients) s4.2 (counts_after no_counts (flat_map (λ client. client.script) clients)) []) =
      stands_on 1 _ _ _ lines1 (lines2 ++ (lines3 ++ lines4)) s1 (stands_on n2 _ _ _ lines2 (lines3 ++ lines4) s2 (stands_on n3 _ _ _ lines3 lines4 s3.2 s4.3)) in
      record {
        place = s5.0;
        stop = s5.1;
        client = s4.2;
        tally = counts_after no_counts (flat_map (λ client. client.script) clients);
        taken = stands_on 1 _ _ _ (lines_before net) (schedule_lines clients schedule) before s5.2
            ∙ ap (λ (z : ℕ). Ok (state s5.0 v sem trees (map written clients) s4.2 (counts_after no_counts (flat_map (λ client. client.script) clients)) (on_lines z schedule))) e;
      }

  shown : list_all are_shown (lines_before net ++ schedule_lines clients schedule) ≡ true
  unfolding net trees
  shown =
      let most = drawable.laws.most in
      lines-append (lines_before net) (schedule_lines clients schedule)
      (lines-append (first_lines net) (trees_lines net.trees ++ (map client_line clients ++ flat_map script_lines clients))
      (one-line (codes "siena " ++ decimal (version_number v)) ((codes "semantics " ++ semantics_word sem) ∷ (codes "servers " ++ decimal first.1.count) ∷ []) (list_all-append (nat_le 32) (codes "siena ") (decimal (version_number v)) refl (version_shown v))
      (one-line (codes "semantics " ++ semantics_word sem) ((codes "servers " ++ decimal first.1.count) ∷ []) (list_all-append (nat_le 32) (codes "semantics ") (semantics_word sem) refl (semantics_shown sem))
      (one-line (codes "servers " ++ decimal first.1.count) [] (list_all-append (nat_le 32) (codes "servers ") (decimal first.1.count) refl (number_shown first.1.count (omega (arith, most)))) refl)))
      (lines-append (trees_lines net.trees) (map client_line clients ++ flat_map script_lines clients)
      (lines-append (tree_lines first.1) (flat_map phase_lines later) (tree_shown first.1.count first drawable) (phases_shown first.1.count v later all_drawable))
      (lines-append (map client_line clients) (flat_map script_lines clients) (clients_shown (version_number v) first.1.count most clients each) (scripts_shown (version_number v) first.1.count clients each))))
      (schedule_shown (version_number v) first.1.count trees clients schedule each are)

  parts_read : length (document_text net) ≤ 4194304 → IsNetOf (document_text net) (as_written net)
  unfolding net trees
  parts_read l =
      let f = final in
      let s = state f.place v sem trees (map written clients) f.client f.tally (on_lines (length (lines_before net) + 2) schedule) in
      let cut : lines (document_text net) ≡ lines_before net ++ schedule_lines clients schedule = lines_cut (lines_before net ++ schedule_lines clients schedule) shown in
      let taken : AreTaken (lines (document_text net)) s = record {
        taken = ap (stands 1 start) cut ∙ f.taken;
        ended = ends s (place_ends f.place f.stop) whole;
      } in
      record {
        state = s;
        read = (net_means (document_text net) s l).1 taken;
        holds = record {
          version = refl;
          semantics = refl;
          trees = subst (λ (z : ℕ). AreTreesOf z (blocks trees) (first ∷ later)) (sym servers_are) (all_trees_of first.1.count v first later drawable all_drawable);
          clients = written_clients clients;
          schedule = refl;
        };
      }

-- THE TEXT OF A WRITABLE NET is read as it, where it is within the limits
pub text_read : (n : NetParts) → IsWritable n → FitsDocument n → IsNetOf (document_text n) (as_written n)
unfolding net
text_read n w fits =
    let same : n ≡ net_parts (version_number w.version) n.semantics (w.first ∷ w.later) n.clients n.schedule =
    ap (λ (z : ℕ). net_parts z n.semantics n.trees n.clients n.schedule) w.number ∙ ap (λ (z : List (ℕ × Topology)). net_parts (version_number w.version) n.semantics z n.clients n.schedule) w.trees in
    let m = net_parts (version_number w.version) n.semantics (w.first ∷ w.later) n.clients n.schedule in
    let there : FitsDocument m = subst FitsDocument same fits in
    subst (λ (z : NetParts). IsNetOf (document_text z) (as_written z)) (sym same)
    (parts_read w.version n.semantics w.first w.later n.clients n.schedule w.begins w.rising w.drawable w.all_drawable w.clients w.apart w.few w.turns
    (record { controls = w.controls; control_bytes = there.controls; publications = w.publications; publish_bytes = there.notices }) there.bytes)
