-- A net that a document has is one whose text is read as it.
use Rattle.std.proofs.Common.{◌≡◌, ◌≢◌, ◌⊎◌, inl, inr, ℕ, suc, ◌+◌, ◌<◌, ◌≤◌, Bool, true, false, not, List, [], ◌∷◌, ◌++◌, length, map, get_or, refl, sym, ap, subst, arith, Result, Ok, Err}
use Rattle.std.specs.Prelude.{AllPairs, nat_lt, if◌then◌else◌}
use Rattle.std.specs.List.{flat_map, list_any}
use Rattle.std.specs.Str.{bytes_eq}
use Rattle.filter_constraints.proofs.BytesLemmas.{bytes_eq-tells}
use Rattle.base.specs.Sets.{Has}
use Rattle.base.specs.Numbers.{sum_over, count}
use Rattle.base_tree.specs.Graph.{has_edge}
use Rattle.base_tree.specs.Tree.{Topology, TreeLaws}
use Rattle.law_routing.specs.Net.{NeverFalls}
use Rattle.law_routing.specs.Clients.{is_publish}
use Rattle.law_phases.specs.Trees.{RiseFrom}
use Rattle.net_model.specs.Real.{real}
use Rattle.filter_text.specs.declared.command.Command.{Command}
use Rattle.filter_text.specs.declared.command.Command.TheVariants as commands
use Rattle.net_model.specs.Parts.{ClientParts, NetParts}
use Rattle.net_model.specs.Meaning.{command_of, phased_command}
use Rattle.net_model.specs.Nets.{first_tree}
use Rattle.net_model.specs.Sound.{AreTrees, HasTrees, IsSound, IsSoundClient, IsSoundTurn}
use Rattle.net_model.specs.declared.turn.Turn.{Turn}
use Rattle.net_model.specs.declared.turn.Turn.TheVariants as turns
use Rattle.document_reader.specs.Lines.{lines}
use Rattle.document_reader.specs.Drawn.{Block, Drawn, are_neighbours, blocks, is_server}
use Rattle.document_reader.specs.Rules.{version_number}
use Rattle.document_reader.specs.Tally.{CommandCounts, no_counts}
use Rattle.document_reader.specs.Places.{document_of, start}
use Rattle.document_reader.specs.Net.{AreTreesOf, IsNetIn, IsNetOf, client_of}
use Rattle.document_reader.specs.declared.draft.Draft.{Draft}
use Rattle.document_reader.specs.declared.fault.Fault.{Fault}
use Rattle.document_reader.specs.declared.fault.Fault.TheVariants as is
use Rattle.document_reader.specs.declared.version.Version.{Version}
use Rattle.document_reader.specs.declared.version.Version.TheVariants.{Two}
use Rattle.document_reader.specs.declared.state.State.{State}
use Rattle.document_reader.proofs.Meaning.{taken_stands}
use Rattle.filter_text.specs.MessageText.{Each}
use Rattle.document_reader.proofs.Members.{each_more}
use Rattle.document_reader.proofs.SoundDocuments.{document_is_sound}
use Rattle.document_format.specs.Limits.{counted, counts_after}
use Rattle.document_format.proofs.TreeStands.{AreDrawable, drawn_all, all_blocks, all_servers, server_test}
use Rattle.document_format.proofs.ClientStands.{AreApart, Rises, IsWritableClient}
use Rattle.document_format.proofs.TurnStands.{IsWritableTurn, near_again}
use Rattle.document_format.proofs.ReadLaws.{IsWritable}
use Rattle.document_format.proofs.Kept.{IsDraftIn, IsNearIn, IsPhaseIn, Kept, lines_keep, start_kept}
use Rattle.document_reader.proofs.SoundParts.{has-mapped}
use Rattle.base.proofs.Bools.{if-cases}

-- Trees.

phases_in : (v : Version) (n : ℕ) (bs : List Block) (ts : List (ℕ × Topology)) → AreTreesOf n bs ts → Each (λ b. IsPhaseIn v b.0) bs → Each (λ t. IsPhaseIn v t.0) ts
phases_in v n [] [] a h = tt
phases_in v n [] (t ∷ ts) a h = absurd a
phases_in v n (b ∷ bs) [] a h = absurd a
phases_in v n (b ∷ bs) (t ∷ ts) a h = (subst (λ (z : ℕ). IsPhaseIn v z) (sym a.0.phase) h.0, phases_in v n bs ts a.1 h.1)

later_phase : (v : Version) (phase : ℕ) → IsPhaseIn v phase → 0 < phase → (v ≡ Two) × (phase ≤ 4095)
later_phase v phase (inl e) l = absurd (omega (arith, e, l))
later_phase v phase (inr h) l = h

drawable_later : (v : Version) (count phase : ℕ) (later : List (ℕ × Topology)) → RiseFrom phase later → Each (λ t. IsPhaseIn v t.0) later
    → ((t : ℕ × Topology) → Has t later → TreeLaws t.1) → ((t : ℕ × Topology) → Has t later → t.1.count ≡ count) → AreDrawable count v later
drawable_later v count phase [] rise each laws same = tt
drawable_later v count phase (t ∷ later) rise each laws same =
    let l = rise.0 in
    let p = later_phase v t.0 each.0 (omega (arith, l)) in
    (record { laws = laws t (inl refl); same = same t (inl refl) }, p.0, p.1, drawable_later v count t.0 later rise.1 each.1 (λ u m. laws u (inr m)) (λ u m. same u (inr m)))

-- Clients.

rises_to : (phase : ℕ) (steps : List (ℕ × Command)) (barriers : ℕ) → phase ≤ barriers → ((s : ℕ × Command) → Has s steps → phase ≤ s.0) → ((s : ℕ × Command) → Has s steps → s.0 ≤ barriers)
    → NeverFalls real (map phased_command steps) → Rises phase steps barriers
rises_to phase [] barriers l low high never = l
rises_to phase (step ∷ steps) barriers l low high never =
    (low step (inl refl), rises_to step.0 steps barriers (high step (inl refl)) (λ s m. never.0 (phased_command s) (has-mapped steps s m)) (λ s m. high s (inr m)) never.1)

writable_client : (version servers : ℕ) (d : Draft) → IsDraftIn version d → IsSoundClient servers (client_of d) → IsWritableClient version servers (client_of d)
writable_client version servers d h s = record {
  name = h.name;
  home = s.home;
  barriers = s.barriers;
  rises = rises_to 0 d.client.script d.client.barriers (omega arith) (λ x m. omega arith) s.within s.never_falls;
  commands = h.commands;
}

writable_clients : (version servers : ℕ) (ds : List Draft) → Each (IsDraftIn version) ds → ((c : ClientParts) → Has c (map client_of ds) → IsSoundClient servers c) → Each (IsWritableClient version servers) (map client_of ds)
writable_clients version servers [] h s = tt
writable_clients version servers (d ∷ ds) h s = (writable_client version servers d h.0 (s (client_of d) (inl refl)), writable_clients version servers ds h.1 (λ c m. s c (inr m)))

differ : (a b : List ℕ) → (a ≡ b → ⊥) → bytes_eq a b ≡ false
differ a b k = go (bytes_eq a b) refl
  where
    go : (p : Bool) → bytes_eq a b ≡ p → bytes_eq a b ≡ false
    go true e = absurd (k (bytes_eq-tells a b e))
    go false e = e

first_apart : (c : ClientParts) (cs : List ClientParts) → ((j : ℕ) → j < length cs → c.name ≢ (get_or cs j c).name) → Each (λ o. bytes_eq o.name c.name ≡ false) cs
first_apart c [] h = tt
first_apart c (o ∷ cs) h = (differ o.name c.name (λ e. h 0 (omega arith) (sym e)), first_apart c cs (λ j l. h (suc j) (omega arith)))

names_apart : (cs : List ClientParts) → AllPairs (λ one other. one.name ≢ other.name) cs → AreApart cs
names_apart [] h = tt
names_apart (c ∷ cs) h = (first_apart c cs (λ j l. h 0 (suc j) c (omega arith) (omega arith)), names_apart cs (λ i j d l m. h (suc i) (suc j) d (omega arith) (omega arith)))

-- Counts.

controls_counted : (t : CommandCounts) (c : Command) → (counted t c).controls ≡ t.controls + count (not (is_publish real (command_of c)))
controls_counted t (commands.Subscribe f) = omega arith
controls_counted t (commands.Unsubscribe f) = omega arith
controls_counted t (commands.Advertise a) = omega arith
controls_counted t (commands.Unadvertise a) = omega arith
controls_counted t (commands.Publish n) = omega arith

publishes_counted : (t : CommandCounts) (c : Command) → (counted t c).publications ≡ t.publications + count (is_publish real (command_of c))
publishes_counted t (commands.Subscribe f) = omega arith
publishes_counted t (commands.Unsubscribe f) = omega arith
publishes_counted t (commands.Advertise a) = omega arith
publishes_counted t (commands.Unadvertise a) = omega arith
publishes_counted t (commands.Publish n) = omega arith

controls_after : (t : CommandCounts) (steps : List (ℕ × Command)) → (counts_after t steps).controls ≡ t.controls + sum_over (λ step. count (not (is_publish real (command_of step.1)))) steps
controls_after t [] = omega arith
controls_after t (step ∷ steps) = omega (arith, controls_after (counted t step.1) steps, controls_counted t step.1)

publishes_after : (t : CommandCounts) (steps : List (ℕ × Command)) → (counts_after t steps).publications ≡ t.publications + sum_over (λ step. count (is_publish real (command_of step.1))) steps
publishes_after t [] = omega arith
publishes_after t (step ∷ steps) = omega (arith, publishes_after (counted t step.1) steps, publishes_counted t step.1)

sum_append : (q : ℕ × Command → ℕ) (xs ys : List (ℕ × Command)) → sum_over q (xs ++ ys) ≡ sum_over q xs + sum_over q ys
sum_append q [] ys = omega arith
sum_append q (x ∷ xs) ys = omega (arith, sum_append q xs ys)

sum_all : (q : ℕ × Command → ℕ) (cs : List ClientParts) → sum_over q (flat_map (λ client. client.script) cs) ≡ sum_over (λ client. sum_over q client.script) cs
sum_all q [] = refl
sum_all q (c ∷ cs) = omega (arith, sum_append q c.script (flat_map (λ client. client.script) cs), sum_all q cs)

-- Turns.

writable_turn : (count clients : ℕ) (cs : List ClientParts) (first : ℕ × Topology) (later : List (ℕ × Topology)) (old : Drawn) (turn : Turn) → count ≤ 64 → clients ≡ length cs
    → old.servers ≡ count → AreTreesOf old.servers (blocks old) (first ∷ later) → IsNearIn old turn → IsSoundTurn count clients turn → IsWritableTurn (drawn_all count [] first later) cs turn
unfolding are_neighbours
writable_turn count clients cs first later old (turns.Command client) small len same trees near sound = (sound.0, let l = sound.1 in omega (arith, len, l))
writable_turn count clients cs first later old (turns.Receive a b) small len same trees near sound =
    let la = sound.0.1 in
    let lb = sound.1.1 in
    let servers = all_servers count [] first later in
    let ta : is_server count a ≡ true = server_test count a sound.0 in
    let tb : is_server count b ≡ true = server_test count b sound.1 in
    let there : (1 ≤ b) × (b ≤ old.servers) = (sound.1.0, omega (arith, same, lb)) in (
      omega (arith, la, small),
      omega (arith, lb, small),
      rw (servers, ta, tb) refl,
      subst (λ (bs : List Block). list_any (λ block. has_edge block.1 a b) bs ≡ true) (sym (all_blocks count [] first later)) (near_again old.servers a b (blocks old) (first ∷ later) trees there near),
    )
writable_turn count clients cs first later old (turns.TableUpdate a) small len same trees near sound =
    let la = sound.1 in
    (omega (arith, la, small), rw (all_servers count [] first later) (server_test count a sound))

writable_turns : (count clients : ℕ) (cs : List ClientParts) (first : ℕ × Topology) (later : List (ℕ × Topology)) (old : Drawn) (schedule : List (ℕ × Turn)) → count ≤ 64 → clients ≡ length cs
    → old.servers ≡ count → AreTreesOf old.servers (blocks old) (first ∷ later) → Each (λ t. IsNearIn old t.1) schedule → ((t : ℕ × Turn) → Has t schedule → IsSoundTurn count clients t.1)
    → Each (λ t. IsWritableTurn (drawn_all count [] first later) cs t.1) schedule
writable_turns count clients cs first later old [] small len same trees near sound = tt
writable_turns count clients cs first later old (turn ∷ schedule) small len same trees near sound =
    (writable_turn count clients cs first later old turn.1 small len same trees near.0 (sound turn (inl refl)), writable_turns count clients cs first later old schedule small len same trees near.1 (λ t m. sound t (inr m)))

-- The net.

first_count : (n : ℕ) (bs : List Block) (first : ℕ × Topology) (later : List (ℕ × Topology)) → AreTreesOf n bs (first ∷ later) → n ≡ first.1.count
first_count n [] first later a = absurd a
first_count n (b ∷ bs) first later a = sym a.0.count

net_writable : (s : State) (net : NetParts) (first : ℕ × Topology) (later : List (ℕ × Topology)) → net.trees ≡ first ∷ later → Kept s → IsNetIn s net → IsSound net → IsWritable net
net_writable s net first later parts h n sound =
    let trees : AreTrees first later = subst HasTrees parts sound.trees in
    let of : AreTreesOf s.trees.servers (blocks s.trees) (first ∷ later) = subst (AreTreesOf s.trees.servers (blocks s.trees)) parts n.trees in
    let servers : s.trees.servers ≡ first.1.count = first_count s.trees.servers (blocks s.trees) first later of in
    let phases = phases_in s.version s.trees.servers (blocks s.trees) (first ∷ later) of (each_more (λ (b : Block). IsPhaseIn s.version b.0) s.trees.earlier (s.trees.phase, s.trees.edges) h.early h.now) in
    let here : first_tree net.trees ≡ first.1 = ap first_tree parts in
    let few : first.1.count ≤ 64 = trees.tree.most in
    record {
      version = s.version;
      first = first;
      later = later;
      number = n.version;
      trees = parts;
      begins = trees.begins;
      rising = trees.rising;
      drawable = record { laws = trees.tree; same = refl };
      all_drawable = drawable_later s.version first.1.count 0 later trees.rising phases.1 trees.trees trees.same;
      clients = subst (λ (cs : List ClientParts). Each (IsWritableClient (version_number s.version) first.1.count) cs) (sym n.clients)
          (writable_clients (version_number s.version) first.1.count s.clients h.clients
          (λ c m. subst (λ (t : Topology). IsSoundClient t.count c) here (sound.clients c (subst (λ (cs : List ClientParts). Has c cs) (sym n.clients) m))));
      apart = names_apart net.clients sound.names;
      few = sound.few;
      controls = omega (arith, controls_after no_counts (flat_map (λ client. client.script) net.clients), sum_all (λ step. count (not (is_publish real (command_of step.1)))) net.clients, sound.controls);
      publications = omega (arith, publishes_after no_counts (flat_map (λ client. client.script) net.clients), sum_all (λ step. count (is_publish real (command_of step.1))) net.clients, sound.publishes);
      turns = writable_turns first.1.count (length net.clients) net.clients first later s.trees net.schedule few refl servers of
          (subst (λ (ts : List (ℕ × Turn)). Each (λ t. IsNearIn s.trees t.1) ts) (sym n.schedule) h.turns)
          (λ t m. subst (λ (z : Topology). IsSoundTurn z.count (length net.clients) t.1) here (sound.turns t m));
    }

some_writable : (s : State) (net : NetParts) (ts : List (ℕ × Topology)) → net.trees ≡ ts → Kept s → IsNetIn s net → IsSound net → IsWritable net
some_writable s net [] e h n sound = absurd (subst HasTrees e sound.trees)
some_writable s net (first ∷ later) e h n sound = net_writable s net first later e h n sound

pub document_writable : (bytes : List ℕ) (net : NetParts) → IsNetOf bytes net → IsWritable net
unfolding document_of
document_writable bytes net n =
    elim (if-cases (nat_lt 4194304 (length bytes)) _ _ _ n.read) [
      | inl a ↦ absurd (long a.1)
      | inr a ↦ (let k = taken_stands 1 start (lines bytes) n.state a.1 in some_writable n.state net net.trees refl (lines_keep 1 start n.state (lines bytes) k.0 start_kept) n.holds (document_is_sound bytes net n))
    ]
  where
    long : (let r : Result State (ℕ × Fault) = Err (0, is.TooLong) in r) ≡ Ok n.state → ⊥
    long e = cc
