-- Defines the trees of a document as its lines draw them.
use Rattle.std.specs.Prelude.{◌≡◌, ◌==◌, Bool, not, ◌&&◌, ◌||◌, ℕ, ◌≤◌, nat_lt, nat_le, List, [], ◌∷◌, ◌++◌, All, Option, Some, None, if◌then◌else◌}
use Rattle.std.specs.List.{list_any, list_all}
use Rattle.base_tree.specs.Graph.{AreWithin, IsTree, has_edge, servers_to}
use Rattle.base_tree.specs.Labels.{AreLabelsOf, ServerLabels}
use Rattle.document_reader.specs.Near.{is_near}
use Rattle.base_tree.specs.declared.fault.EdgeFault.{EdgeFault}
use Rattle.base_tree.specs.declared.fault.EdgeFault.TheVariants.{Twice, Loop}

-- a tree by its edges, with the first phase in which it is in force
abbrev pub Block : Type 0
Block = ℕ × List (ℕ × ℕ)

-- how many servers there are, the trees that are drawn, and the first phase and the edges of the one that is being drawn
pub record Drawn : Type 0 where
  pub servers : ℕ
  pub earlier : List Block
  pub phase : ℕ
  pub edges : List (ℕ × ℕ)

abbrev pub block : ℕ → List (ℕ × ℕ) → Block
block phase edges = (phase, edges)

abbrev pub drawn : ℕ → List Block → ℕ → List (ℕ × ℕ) → Drawn
drawn servers earlier phase edges = record { servers = servers; earlier = earlier; phase = phase; edges = edges }

-- so many servers and no edge
abbrev pub undrawn : ℕ → Drawn
undrawn n = drawn n [] 0 []

-- edges lead from a to b: those but the first do, or the first one does with them, one way or the other
abbrev pub are_joined : List (ℕ × ℕ) → ℕ → ℕ → Bool
are_joined [] a b = a == b
are_joined (e ∷ es) a b = are_joined es a b || ((are_joined es a e.0 && are_joined es e.1 b) || (are_joined es a e.1 && are_joined es e.0 b))

-- some server is one to which the edges don't lead from server 1
unfoldable pub is_apart : Drawn → Bool
is_apart d = not (list_all (are_joined d.edges 1) (servers_to d.servers))

-- the number is a server's
abbrev pub is_server : ℕ → ℕ → Bool
is_server servers a = nat_lt 0 a && nat_le a servers

-- both are
abbrev pub are_servers : ℕ → ℕ × ℕ → Bool
are_servers servers e = is_server servers e.0 && is_server servers e.1

-- what is at fault with an edge after the earlier ones of its tree
unfoldable pub edge_fault : List (ℕ × ℕ) → ℕ × ℕ → Option EdgeFault
edge_fault edges e =
    if has_edge edges e.0 e.1 then Some Twice
    else if are_joined edges e.0 e.1 then Some Loop
    else None

-- one edge more
abbrev pub with_edge : Drawn → ℕ × ℕ → Drawn
with_edge d e = record d { edges = d.edges ++ e ∷ [] }

-- all trees, with that which is being drawn
abbrev pub blocks : Drawn → List Block
blocks d = d.earlier ++ (d.phase, d.edges) ∷ []

-- the next tree, without edges, for phases from this one on
abbrev pub with_phase : Drawn → ℕ → Drawn
with_phase d phase = record d { earlier = blocks d; phase = phase; edges = [] }

-- a and b are neighbours in some tree
unfoldable pub are_neighbours : Drawn → ℕ × ℕ → Bool
are_neighbours d e = list_any (λ block. has_edge block.1 e.0 e.1) (blocks d)

-- the edges of a tree of so many servers
pub record IsWholeBlock (servers : ℕ) (block : Block) : Type 0 where
  pub within : AreWithin servers block.1
  pub tree : IsTree servers block.1

-- what is kept beside the edges: which servers they join, and the neighbours in all trees; the earlier trees are whole
pub record IsDrawn (d : Drawn) (labels : ServerLabels) (near : List ℕ) : Type 0 where
  pub few : d.servers ≤ 64
  pub count : labels.count ≡ d.servers
  pub labelled : AreLabelsOf d.edges labels
  pub within : AreWithin d.servers d.edges
  pub earlier : All (IsWholeBlock d.servers) d.earlier
  pub neighbours : (a b : ℕ) → a ≤ 64 → b ≤ 64 → is_near near a b ≡ are_neighbours d (a, b)
