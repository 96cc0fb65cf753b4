-- Defines the links of a net: those of all its trees, each once.
use Rattle.std.specs.Prelude.{ℕ, ◌&&◌, nat_lt, Bool, List, map, filter}
use Rattle.std.specs.List.{flat_map}
use Rattle.base_tree.specs.Tree.{Topology, links_of}
use Rattle.law_routing.specs.Clients.{some_pass}
use Rattle.law_routing.specs.Server.{is_among}
use Rattle.net_model.specs.Parts.{NetParts}
use Rattle.net_model.specs.Nets.{servers_in}

-- whether some one of the trees has a link between two servers
abbrev pub is_link : List (ℕ × Topology) → ℕ → ℕ → Bool
is_link trees a b = some_pass (λ tree. is_among b (links_of tree.1 a)) trees

-- the links of a server to greater ones
abbrev pub links_from : List (ℕ × Topology) → List ℕ → ℕ → List (ℕ × ℕ)
links_from trees servers a = map (λ b. (a, b)) (filter (λ b. nat_lt a b && is_link trees a b) servers)

-- THE LINKS OF A NET, each from its lesser end, by rising ends
abbrev pub links_in : NetParts → List (ℕ × ℕ)
links_in net = flat_map (links_from net.trees (servers_in net)) (servers_in net)
