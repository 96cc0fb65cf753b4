-- What contracts see of a tree of servers, and the paths in it.
use Rattle.std.specs.Prelude.{◌≡◌, ℕ, ◌≤◌, List, [], ◌∷◌, slice_index, nat_lt, length, suc}
use Rattle.std.specs.List.{slice_index_or}
use Rattle.base.specs.Sets.{Has, IsRising}
use Rattle.base.specs.Numbers.{IsDistinct}
use Rattle.base_tree.specs.Graph.{servers_to}
use Rattle.base_tree.specs.Hops.{AreHops}

-- how many servers there are, and by server its neighbours and the next server on the way to each other; place 0 is no server's
pub record Topology : Type 0 where
  pub count : ℕ
  pub neighbours : List (List ℕ)
  pub hops : List (List ℕ)

abbrev pub servers_of : Topology → List ℕ
servers_of tree = servers_to tree.count

-- the neighbours of a
abbrev pub links_of : Topology → ℕ → List ℕ
links_of tree a = slice_index_or tree.neighbours a []

-- the number in row a at place x
abbrev pub entry : List (List ℕ) → ℕ → ℕ → ℕ
entry rows a x = slice_index (slice_index_or rows a []) x

-- the neighbour of a on the way to x
abbrev pub hop_of : Topology → ℕ → ℕ → ℕ
hop_of tree a x = entry tree.hops a x

-- a is a server of the tree
abbrev pub IsServer : Topology → ℕ → Type 0
IsServer tree a = (1 ≤ a) × (a ≤ tree.count)

-- from a, each next one a neighbour of the one before, to x
abbrev pub IsWay : (ℕ → List ℕ) → ℕ → List ℕ → ℕ → Type 0
IsWay links a [] x = a ≡ x
IsWay links a (b ∷ way) x = Has b (links a) × IsWay links b way x

-- a way never turns back to the server that it came from, at first from prior
abbrev pub NeverTurnsBack : ℕ → ℕ → List ℕ → Type 0
NeverTurnsBack prior a [] = Unit {0}
NeverTurnsBack prior a (b ∷ way) = (b ≡ prior → ⊥) × NeverTurnsBack a b way

-- the path from a to x: along neighbours, both ends included, no server twice
pub record IsPath (links : ℕ → List ℕ) (a x : ℕ) (path : List ℕ) : Type 0 where
  pub way : List ℕ
  pub begins : path ≡ a ∷ way
  pub along : IsWay links a way x
  pub distinct : IsDistinct path

-- what holds of every tree of servers
pub record TreeLaws (tree : Topology) : Type 0 where
  pub some : 1 ≤ tree.count
  pub most : tree.count ≤ 64
  pub rising : (a : ℕ) → IsRising nat_lt (links_of tree a)
  pub hops : AreHops (servers_of tree) (links_of tree) (hop_of tree)

abbrev pub topology : ℕ → List (List ℕ) → List (List ℕ) → Topology
topology count neighbours hops = record { count = count; neighbours = neighbours; hops = hops }

-- a row for each of the servers 1 to n and for place 0, and in each a place for as many
pub record IsTable (n : ℕ) (rows : List (List ℕ)) : Type 0 where
  pub rows_there : length rows ≡ suc n
  pub places : (a : ℕ) → a ≤ n → length (slice_index_or rows a []) ≡ suc n

-- the tables have their size, and the laws hold
pub record IsSoundTree (tree : Topology) : Type 0 where
  pub laws : TreeLaws tree
  pub neighbour_rows : length tree.neighbours ≡ suc tree.count
  pub hop_rows : IsTable tree.count tree.hops
