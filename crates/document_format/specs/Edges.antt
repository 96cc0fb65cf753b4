-- Defines the edges of a tree of servers, each once.
use Rattle.std.specs.Prelude.{ℕ, nat_lt, List, map, filter}
use Rattle.std.specs.List.{flat_map}
use Rattle.base_tree.specs.Tree.{Topology, servers_of, links_of}

-- the edges of a server to those of its neighbours that are greater
abbrev pub edges_to : ℕ → List ℕ → List (ℕ × ℕ)
edges_to a neighbours = map (λ b. (a, b)) (filter (nat_lt a) neighbours)

-- those of a server of a tree
abbrev pub edges_at : Topology → ℕ → List (ℕ × ℕ)
edges_at tree a = edges_to a (links_of tree a)

-- the edges of a tree: each from its lesser end, by rising ends
unfoldable pub edges_of : Topology → List (ℕ × ℕ)
edges_of tree = flat_map (edges_at tree) (servers_of tree)
