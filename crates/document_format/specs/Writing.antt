-- How the code puts the lines of a net; no promise to a caller speaks of it.
use Rattle.std.specs.Prelude.{ℕ, List, [], ◌∷◌, map}
use Rattle.std.specs.List.{flat_map}
use Rattle.base_tree.specs.Tree.{Topology, links_of}
use Rattle.document_format.specs.Edges.{edges_to}
use Rattle.document_format.specs.DocumentText.{edge_line, ended}

-- the edge to one neighbour, where that is greater
abbrev pub edge_text : ℕ → ℕ → List ℕ
edge_text a b = flat_map ended (map edge_line (edges_to a (b ∷ [])))

-- the edges of a server to its greater neighbours
abbrev pub server_text : Topology → ℕ → List ℕ
server_text tree a = flat_map (edge_text a) (links_of tree a)
