-- Nets of one document have one canonical text, and the text's net has the same.
use Rattle.std.proofs.Common.{◌≡◌, ℕ, suc, ◌+◌, List, [], ◌∷◌, ◌++◌, length, map, refl, sym, ap, subst, ◌∙◌, Result, Ok}
use Rattle.std.specs.Prelude.{codes}
use Rattle.std.specs.List.{flat_map}
use Rattle.std.specs.Fmt.{decimal}
use Rattle.base_tree.specs.Tree.{Topology, links_of, servers_of}
use Rattle.base_tree.specs.Graph.{servers_to}
use Rattle.filter_text.specs.declared.semantics.Semantics.{Semantics}
use Rattle.net_model.specs.Parts.{ClientParts, NetParts}
use Rattle.net_model.specs.Nets.{first_tree}
use Rattle.net_model.specs.declared.turn.Turn.{Turn}
use Rattle.document_reader.specs.Drawn.{Block, blocks}
use Rattle.document_reader.specs.Net.{AreTreesOf, IsNetIn, IsNetOf, IsTreeOf}
use Rattle.document_reader.specs.declared.fault.Fault.{Fault}
use Rattle.document_reader.specs.declared.state.State.{State}
use Rattle.document_format.specs.Edges.{edges_to, edges_at, edges_of}
use Rattle.document_format.specs.DocumentText.{edge_line, lines_before, semantics_word, tree_lines, phase_lines, trees_lines, client_line, script_lines, turn_line, schedule_lines, ended, document_text, on_lines, as_written}
use Rattle.document_format.specs.Limits.{FitsDocument}
use Rattle.document_format.proofs.ReadLaws.{text_read}
use Rattle.document_format.proofs.Writable.{document_writable}

same_edges : (t u : Topology) (cs : List ℕ) → ((a : ℕ) → links_of t a ≡ links_of u a) → flat_map (edges_at t) cs ≡ flat_map (edges_at u) cs
same_edges t u [] h = refl
same_edges t u (a ∷ cs) h = ap (λ l. edges_to a l ++ flat_map (edges_at t) cs) (h a) ∙ ap (λ l. edges_at u a ++ l) (same_edges t u cs h)

same_tree : (n : ℕ) (b : Block) (t u : ℕ × Topology) → IsTreeOf n b t → IsTreeOf n b u → tree_lines t.1 ≡ tree_lines u.1
unfolding edges_of
same_tree n b t u x y =
    ap (λ z. map edge_line z) (same_edges t.1 u.1 (servers_of t.1) (λ a. x.neighbours a ∙ sym (y.neighbours a)) ∙ ap (λ k. flat_map (edges_at u.1) (servers_to k)) (x.count ∙ sym y.count))

same_phases : (n : ℕ) (bs : List Block) (ts us : List (ℕ × Topology)) → AreTreesOf n bs ts → AreTreesOf n bs us → flat_map phase_lines ts ≡ flat_map phase_lines us
same_phases n [] [] [] x y = refl
same_phases n [] [] (u ∷ us) x y = absurd y
same_phases n [] (t ∷ ts) us x y = absurd x
same_phases n (b ∷ bs) [] us x y = absurd x
same_phases n (b ∷ bs) (t ∷ ts) [] x y = absurd y
same_phases n (b ∷ bs) (t ∷ ts) (u ∷ us) x y =
    ap (λ k. ((codes "phase " ++ decimal k) ∷ tree_lines t.1) ++ flat_map phase_lines ts) (x.0.phase ∙ sym y.0.phase)
    ∙ ap (λ l. ((codes "phase " ++ decimal u.0) ∷ l) ++ flat_map phase_lines ts) (same_tree n b t u x.0 y.0)
    ∙ ap (λ l. phase_lines u ++ l) (same_phases n bs ts us x.1 y.1)

same_trees : (n : ℕ) (bs : List Block) (ts us : List (ℕ × Topology)) → AreTreesOf n bs ts → AreTreesOf n bs us → (trees_lines ts ≡ trees_lines us) × ((first_tree ts).count ≡ (first_tree us).count)
same_trees n [] [] [] x y = (refl, refl)
same_trees n [] [] (u ∷ us) x y = absurd y
same_trees n [] (t ∷ ts) us x y = absurd x
same_trees n (b ∷ bs) [] us x y = absurd x
same_trees n (b ∷ bs) (t ∷ ts) [] x y = absurd y
same_trees n (b ∷ bs) (t ∷ ts) (u ∷ us) x y =
    (ap (λ l. l ++ flat_map phase_lines ts) (same_tree n b t u x.0 y.0) ∙ ap (λ l. tree_lines u.1 ++ l) (same_phases n bs ts us x.1 y.1), x.0.count ∙ sym y.0.count)

-- the text by what it is made of
abbrev text_by : ℕ → Semantics → ℕ → List (List ℕ) → List ClientParts → List (ℕ × Turn) → List ℕ
text_by version semantics count trees clients schedule =
    flat_map ended ((((codes "siena " ++ decimal version) ∷ (codes "semantics " ++ semantics_word semantics) ∷ (codes "servers " ++ decimal count) ∷ [])
    ++ (trees ++ (map client_line clients ++ flat_map script_lines clients))) ++ schedule_lines clients schedule)

by_text : (m n : NetParts) → m.version ≡ n.version → m.semantics ≡ n.semantics → (first_tree m.trees).count ≡ (first_tree n.trees).count → trees_lines m.trees ≡ trees_lines n.trees → m.clients ≡ n.clients → m.schedule ≡ n.schedule → document_text m ≡ document_text n
by_text m n a b c d e f =
    ap (λ z. text_by z m.semantics (first_tree m.trees).count (trees_lines m.trees) m.clients m.schedule) a
    ∙ ap (λ z. text_by n.version z (first_tree m.trees).count (trees_lines m.trees) m.clients m.schedule) b
    ∙ ap (λ z. text_by n.version n.semantics z (trees_lines m.trees) m.clients m.schedule) c
    ∙ ap (λ z. text_by n.version n.semantics (first_tree n.trees).count z m.clients m.schedule) d
    ∙ ap (λ z. text_by n.version n.semantics (first_tree n.trees).count (trees_lines n.trees) z m.schedule) e
    ∙ ap (λ z. text_by n.version n.semantics (first_tree n.trees).count (trees_lines n.trees) n.clients z) f

same_in : (s : State) (m n : NetParts) → IsNetIn s m → IsNetIn s n → document_text m ≡ document_text n
same_in s m n x y =
    let t = same_trees s.trees.servers (blocks s.trees) m.trees n.trees x.trees y.trees in
    by_text m n (x.version ∙ sym y.version) (x.semantics ∙ sym y.semantics) t.1 t.0 (x.clients ∙ sym y.clients) (x.schedule ∙ sym y.schedule)

same_state : (s t : State) (r : Result State (ℕ × Fault)) → r ≡ Ok s → r ≡ Ok t → s ≡ t
same_state s t r e f = let g : (let q : Result State (ℕ × Fault) = Ok s in q) ≡ Ok t = sym e ∙ f in cc

pub one_text : (input : List ℕ) (m n : NetParts) → IsNetOf input m → IsNetOf input n → document_text m ≡ document_text n
one_text input m n x y = same_in y.state m n (subst (λ (s : State). IsNetIn s m) (same_state x.state y.state _ x.read y.read) x.holds) y.holds

same_turns : (clients : List ClientParts) (k : ℕ) (ts : List (ℕ × Turn)) → map (λ t. turn_line clients t.1) (on_lines k ts) ≡ map (λ t. turn_line clients t.1) ts
same_turns clients k [] = refl
same_turns clients k (t ∷ ts) = ap (λ l. turn_line clients t.1 ∷ l) (same_turns clients (suc k) ts)

same_schedule : (clients : List ClientParts) (k : ℕ) (ts : List (ℕ × Turn)) → schedule_lines clients (on_lines k ts) ≡ schedule_lines clients ts
same_schedule clients k [] = refl
same_schedule clients k (t ∷ ts) = ap (λ l. codes "schedule" ∷ l) (same_turns clients k (t ∷ ts))

written_same : (net : NetParts) → document_text (as_written net) ≡ document_text net
written_same net = ap (λ l. flat_map ended (lines_before net ++ l)) (same_schedule net.clients (length (lines_before net) + 2) net.schedule)

pub read_again : (input : List ℕ) (net : NetParts) → IsNetOf input net → FitsDocument net → IsNetOf (document_text net) (as_written net)
read_again input net is fits = text_read net (document_writable input net is) fits

pub text_again : (input : List ℕ) (net other : NetParts) → IsNetOf input net → FitsDocument net → IsNetOf (document_text net) other → document_text other ≡ document_text net
text_again input net other is fits there = one_text (document_text net) other (as_written net) there (read_again input net is fits) ∙ written_same net
