-- What stands after the canonical lines of the trees.
use Rattle.std.proofs.Common.{◌≡◌, inl, inr, ℕ, zero, suc, ◌+◌, ◌≤◌, Bool, true, false, List, [], ◌∷◌, ◌++◌, length, map, take, drop, refl, sym, ap, subst, ◌∙◌, arith, Some, Ok, append_assoc, append-nil}
use Rattle.std.specs.Prelude.{codes, slice_get}
use Rattle.std.specs.List.{flat_map}
use Rattle.std.specs.Fmt.{decimal}
use Rattle.std.proofs.lemmas.Grind.{common_steps}
use Rattle.std.proofs.lemmas.Option.{same_Some}
use Rattle.base.specs.Sets.{Has}
use Rattle.base_tree.specs.Graph.{has_edge, IsTree, neighbours_by}
use Rattle.base_tree.specs.Tree.{Topology, TreeLaws, links_of}
use Rattle.base_tree.proofs.Joined.{joined-edge}
use Rattle.base_tree.proofs.Servers.{server-in}
use Rattle.law_phases.specs.Trees.{RiseFrom}
use Rattle.filter_text.specs.declared.semantics.Semantics.{Semantics}
use Rattle.document_reader.specs.Drawn.{Block, Drawn, drawn, undrawn, blocks, are_joined, is_apart, is_server}
use Rattle.document_reader.specs.Tally.{no_counts}
use Rattle.document_reader.specs.Meaning.{stands}
use Rattle.document_reader.specs.Net.{IsTreeOf, AreTreesOf}
use Rattle.document_reader.specs.declared.version.Version.{Version}
use Rattle.document_reader.specs.declared.version.Version.TheVariants.{Two}
use Rattle.document_reader.specs.declared.state.Place.TheVariants as at
use Rattle.document_reader.proofs.Joining.{told, whole_is_not_apart}
use Rattle.document_format.specs.Edges.{edges_of}
use Rattle.document_format.specs.DocumentText.{edge_line, tree_lines, phase_lines}
use Rattle.document_format.proofs.EdgeLaws.{fresh-edge, edges-within, all-joined, same-neighbours}
use Rattle.document_format.proofs.Stands.{state, stands_on, stands_next, IsNewEdge, edge_stands, phase_stands}
use Rattle.std.proofs.lemmas.Bool.{false_from_ne_true}

pub server_test : (count a : ℕ) → (1 ≤ a) × (a ≤ count) → is_server count a ≡ true
server_test count a is = let lo : 1 ≤ a = is.0 in let hi : a ≤ count = is.1 in grind (arith, common_steps)

has-middle : {A : Type 0} (done rest : List A) (e : A) → Has e (done ++ e ∷ rest)
has-middle [] rest e = inl refl
has-middle (d ∷ done) rest e = inr (has-middle done rest e)

new_edge : (tree : Topology) → TreeLaws tree → (done rest : List (ℕ × ℕ)) (e : ℕ × ℕ) → done ++ e ∷ rest ≡ edges_of tree → IsNewEdge tree.count done e
new_edge tree laws done rest e same =
    let ends = edges-within tree laws e (subst (λ (z : List (ℕ × ℕ)). Has e z) same (has-middle done rest e)) in
    let a = server-in tree.count e.0 ends.0 in
    let b = server-in tree.count e.1 ends.1 in
    record {
      within = rw (server_test tree.count e.0 a, server_test tree.count e.1 b) refl;
      small = (omega (arith, a.1, laws.most), omega (arith, b.1, laws.most));
      new = false_from_ne_true (has_edge done e.0 e.1) (λ h. fresh-edge tree laws done rest e same (joined-edge done e.0 e.1 h));
      apart = false_from_ne_true (are_joined done e.0 e.1) (λ h. fresh-edge tree laws done rest e same (told done e.0 e.1 h));
    }

edges_stand : (n : ℕ) (v : Version) (sem : Semantics) (tree : Topology) → TreeLaws tree → (phase : ℕ) (earlier : List Block) (done rest : List (ℕ × ℕ)) → done ++ rest ≡ edges_of tree
    → stands n (state at.Edges v sem (drawn tree.count earlier phase done) [] 0 no_counts []) (map edge_line rest) ≡ Ok (state at.Edges v sem (drawn tree.count earlier phase (edges_of tree)) [] 0 no_counts [])
edges_stand n v sem tree laws phase earlier done [] same =
    let e : done ≡ edges_of tree = sym (append-nil done) ∙ same in
    ap (λ (z : List (ℕ × ℕ)). Ok (state at.Edges v sem (drawn tree.count earlier phase z) [] 0 no_counts [])) e
edges_stand n v sem tree laws phase earlier done (e ∷ rest) same =
    stands_next n _ _ _ (edge_line e) (map edge_line rest) (edge_stands n v sem tree.count phase earlier done e (new_edge tree laws done rest e same))
    (edges_stand (n + 1) v sem tree laws phase earlier (done ++ e ∷ []) rest (append_assoc done (e ∷ []) rest ∙ same))

split_at : (xs : List (ℕ × ℕ)) (i : ℕ) (x : ℕ × ℕ) → slice_get xs i ≡ Some x → take i xs ++ x ∷ drop (suc i) xs ≡ xs
split_at [] i x e = absurd cc
split_at (y ∷ xs) zero x e = ap (λ (z : ℕ × ℕ). z ∷ xs) (sym (same_Some y x e))
split_at (y ∷ xs) (suc i) x e = ap (λ (z : List (ℕ × ℕ)). y ∷ z) (split_at xs i x e)

tree_is_whole : (tree : Topology) → TreeLaws tree → IsTree tree.count (edges_of tree)
tree_is_whole tree laws = record {
  forest = λ i edge at j. fresh-edge tree laws (take i (edges_of tree)) (drop (suc i) (edges_of tree)) edge (split_at (edges_of tree) i edge at) j;
  joined = all-joined tree laws;
}

-- the trees with their edges as they are written
abbrev pub drawn_all : ℕ → List Block → ℕ × Topology → List (ℕ × Topology) → Drawn
drawn_all count earlier tree [] = drawn count earlier tree.0 (edges_of tree.1)
drawn_all count earlier tree (next ∷ later) = drawn_all count (earlier ++ (tree.0, edges_of tree.1) ∷ []) next later

-- what each tree is
pub record IsDrawable (count : ℕ) (tree : ℕ × Topology) : Type 0 where
  pub laws : TreeLaws tree.1
  pub same : tree.1.count ≡ count

abbrev pub AreDrawable : ℕ → Version → List (ℕ × Topology) → Type 0
AreDrawable count v [] = Unit {0}
AreDrawable count v (tree ∷ trees) = IsDrawable count tree × (v ≡ Two) × (tree.0 ≤ 4095) × AreDrawable count v trees

whole : (count : ℕ) (earlier : List Block) (tree : ℕ × Topology) → IsDrawable count tree → is_apart (drawn count earlier tree.0 (edges_of tree.1)) ≡ false
whole count earlier tree is = whole_is_not_apart (drawn count earlier tree.0 (edges_of tree.1)) (subst (λ (n : ℕ). IsTree n (edges_of tree.1)) is.same (tree_is_whole tree.1 is.laws))

pub all_whole : (count : ℕ) (v : Version) (earlier : List Block) (tree : ℕ × Topology) (later : List (ℕ × Topology)) → IsDrawable count tree → AreDrawable count v later → is_apart (drawn_all count earlier tree later) ≡ false
all_whole count v earlier tree [] is more = whole count earlier tree is
all_whole count v earlier tree (next ∷ later) is more = all_whole count v (earlier ++ (tree.0, edges_of tree.1) ∷ []) next later more.0 more.3

pub all_servers : (count : ℕ) (earlier : List Block) (tree : ℕ × Topology) (later : List (ℕ × Topology)) → (drawn_all count earlier tree later).servers ≡ count
all_servers count earlier tree [] = refl
all_servers count earlier tree (next ∷ later) = all_servers count (earlier ++ (tree.0, edges_of tree.1) ∷ []) next later

-- a tree as it is written
abbrev pub written_block : ℕ × Topology → Block
written_block tree = (tree.0, edges_of tree.1)

pub all_blocks : (count : ℕ) (earlier : List Block) (tree : ℕ × Topology) (later : List (ℕ × Topology)) → blocks (drawn_all count earlier tree later) ≡ earlier ++ written_block tree ∷ map written_block later
all_blocks count earlier tree [] = refl
all_blocks count earlier tree (next ∷ later) =
    all_blocks count (earlier ++ (tree.0, edges_of tree.1) ∷ []) next later
    ∙ append_assoc earlier (written_block tree ∷ []) (written_block next ∷ map written_block later)

tree_of : (count : ℕ) (tree : ℕ × Topology) → IsDrawable count tree → IsTreeOf count (written_block tree) tree
tree_of count tree is = record {
  phase = refl;
  count = is.same;
  neighbours = λ a. subst (λ (n : ℕ). links_of tree.1 a ≡ neighbours_by n (edges_of tree.1) a) is.same (same-neighbours tree.1 is.laws a);
  laws = is.laws;
}

trees_of : (count : ℕ) (v : Version) (trees : List (ℕ × Topology)) → AreDrawable count v trees → AreTreesOf count (map written_block trees) trees
trees_of count v [] is = tt
trees_of count v (tree ∷ trees) is = (tree_of count tree is.0, trees_of count v trees is.3)

pub all_trees_of : (count : ℕ) (v : Version) (tree : ℕ × Topology) (later : List (ℕ × Topology)) → IsDrawable count tree → AreDrawable count v later → AreTreesOf count (blocks (drawn_all count [] tree later)) (tree ∷ later)
all_trees_of count v tree later is more = subst (λ (z : List Block). AreTreesOf count z (tree ∷ later)) (sym (all_blocks count [] tree later)) (tree_of count tree is, trees_of count v later more)

tree_stands : (n : ℕ) (v : Version) (sem : Semantics) (count : ℕ) (earlier : List Block) (tree : ℕ × Topology) → IsDrawable count tree
    → stands n (state at.Edges v sem (drawn count earlier tree.0 []) [] 0 no_counts []) (tree_lines tree.1) ≡ Ok (state at.Edges v sem (drawn count earlier tree.0 (edges_of tree.1)) [] 0 no_counts [])
tree_stands n v sem count earlier tree is =
    subst (λ (c : ℕ). stands n (state at.Edges v sem (drawn c earlier tree.0 []) [] 0 no_counts []) (tree_lines tree.1) ≡ Ok (state at.Edges v sem (drawn c earlier tree.0 (edges_of tree.1)) [] 0 no_counts []))
    is.same (edges_stand n v sem tree.1 is.laws tree.0 earlier [] (edges_of tree.1) refl)

later_stand : (n : ℕ) (v : Version) (sem : Semantics) (count : ℕ) (earlier : List Block) (tree : ℕ × Topology) (later : List (ℕ × Topology)) → IsDrawable count tree → AreDrawable count v later → RiseFrom tree.0 later
    → stands n (state at.Edges v sem (drawn count earlier tree.0 (edges_of tree.1)) [] 0 no_counts []) (flat_map phase_lines later) ≡ Ok (state at.Edges v sem (drawn_all count earlier tree later) [] 0 no_counts [])
later_stand n v sem count earlier tree [] is more rise = refl
later_stand n v sem count earlier tree (next ∷ later) is more rise =
    let here : stands n (state at.Edges v sem (drawn count earlier tree.0 (edges_of tree.1)) [] 0 no_counts []) (phase_lines next) ≡ Ok (state at.Edges v sem (drawn count (earlier ++ (tree.0, edges_of tree.1) ∷ []) next.0 (edges_of next.1)) [] 0 no_counts []) =
    subst (λ (w : Version). stands n (state at.Edges w sem (drawn count earlier tree.0 (edges_of tree.1)) [] 0 no_counts []) (phase_lines next) ≡ Ok (state at.Edges w sem (drawn count (earlier ++ (tree.0, edges_of tree.1) ∷ []) next.0 (edges_of next.1)) [] 0 no_counts [])) (sym more.1)
    (stands_next n _ _ _ (codes "phase " ++ decimal next.0) (tree_lines next.1) (phase_stands n sem count tree.0 next.0 earlier (edges_of tree.1) (whole count earlier tree is) rise.0 more.2)
    (tree_stands (n + 1) Two sem count (earlier ++ (tree.0, edges_of tree.1) ∷ []) next more.0)) in
    stands_on n _ _ _ (phase_lines next) (flat_map phase_lines later) here
    (later_stand (length (phase_lines next) + n) v sem count (earlier ++ (tree.0, edges_of tree.1) ∷ []) next later more.0 more.3 rise.1)

pub trees_stand : (n : ℕ) (v : Version) (sem : Semantics) (count : ℕ) (tree : ℕ × Topology) (later : List (ℕ × Topology)) → tree.0 ≡ 0 → IsDrawable count tree → AreDrawable count v later → RiseFrom 0 later
    → stands n (state at.Edges v sem (undrawn count) [] 0 no_counts []) (tree_lines tree.1 ++ flat_map phase_lines later) ≡ Ok (state at.Edges v sem (drawn_all count [] tree later) [] 0 no_counts [])
trees_stand n v sem count tree later zero_first is more rise =
    stands_on n _ _ _ (tree_lines tree.1) (flat_map phase_lines later)
    (subst (λ (z : ℕ). stands n (state at.Edges v sem (drawn count [] z []) [] 0 no_counts []) (tree_lines tree.1) ≡ Ok (state at.Edges v sem (drawn count [] tree.0 (edges_of tree.1)) [] 0 no_counts [])) zero_first (tree_stands n v sem count [] tree is))
    (later_stand (length (tree_lines tree.1) + n) v sem count [] tree later is more (subst (λ (z : ℕ). RiseFrom z later) (sym zero_first) rise))
