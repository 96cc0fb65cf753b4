-- Defines servers numbered from 1 and edges between them: when these are a tree.
use Rattle.std.specs.Prelude.{◌≡◌, ℕ, ◌<◌, ◌≤◌, ◌==◌, Bool, true, false, ◌&&◌, ◌||◌, List, [], ◌∷◌, Some, slice_get, take, filter, All}
use Rattle.std.specs.List.{list_any, range_with_len}

-- the edge joins a and b, either way round
abbrev pub joins : ℕ × ℕ → ℕ → ℕ → Bool
joins edge a b = (edge.0 == a && edge.1 == b) || (edge.0 == b && edge.1 == a)

-- one of the edges joins a and b
abbrev pub has_edge : List (ℕ × ℕ) → ℕ → ℕ → Bool
has_edge edges a b = list_any (λ edge. joins edge a b) edges

-- from a by edges to b
abbrev pub IsTrail : List (ℕ × ℕ) → ℕ → List ℕ → ℕ → Type 0
IsTrail edges a [] b = a ≡ b
IsTrail edges a (c ∷ trail) b = (has_edge edges a c ≡ true) × IsTrail edges c trail b

-- edges lead from a to b
abbrev pub AreJoined : List (ℕ × ℕ) → ℕ → ℕ → Type 0
AreJoined edges a b = (trail : List ℕ) × IsTrail edges a trail b

-- the number of servers is one that a tree may have
abbrev pub IsCount : ℕ → Type 0
IsCount n = (1 ≤ n) × (n ≤ 64)

-- both ends of the edge are servers 1 to n
abbrev pub IsEdgeWithin : ℕ → ℕ × ℕ → Type 0
IsEdgeWithin n edge = (1 ≤ edge.0) × (edge.0 ≤ n) × (1 ≤ edge.1) × (edge.1 ≤ n)

-- both ends of each edge are servers 1 to n
abbrev pub AreWithin : ℕ → List (ℕ × ℕ) → Type 0
AreWithin n edges = All (IsEdgeWithin n) edges

-- no edge has ends that earlier edges join, nor equal ends
abbrev pub IsForest : List (ℕ × ℕ) → Type 0
IsForest edges = (i : ℕ) (edge : ℕ × ℕ) → slice_get edges i ≡ Some edge → AreJoined (take i edges) edge.0 edge.1 → ⊥

-- servers 1 to n and these edges are a tree
pub record IsTree (n : ℕ) (edges : List (ℕ × ℕ)) : Type 0 where
  pub forest : IsForest edges
  pub joined : (s : ℕ) → 1 ≤ s → s ≤ n → AreJoined edges 1 s

-- edge i joins the servers of an earlier one, and is the first whose ends are joined
pub record IsTwice (edges : List (ℕ × ℕ)) (i : ℕ) : Type 0 where
  pub edge : ℕ × ℕ
  pub at : slice_get edges i ≡ Some edge
  pub before : IsForest (take i edges)
  pub same : has_edge (take i edges) edge.0 edge.1 ≡ true

-- the ends of edge i are equal or joined by earlier edges, but by no earlier edge alone, and it is the first such
pub record IsLoop (edges : List (ℕ × ℕ)) (i : ℕ) : Type 0 where
  pub edge : ℕ × ℕ
  pub at : slice_get edges i ≡ Some edge
  pub before : IsForest (take i edges)
  pub joined : AreJoined (take i edges) edge.0 edge.1
  pub other : has_edge (take i edges) edge.0 edge.1 ≡ false

-- s is the least server to which no edges lead from server 1
pub record IsApart (n : ℕ) (edges : List (ℕ × ℕ)) (s : ℕ) : Type 0 where
  pub forest : IsForest edges
  pub from : 1 ≤ s
  pub to : s ≤ n
  pub apart : AreJoined edges 1 s → ⊥
  pub least : (r : ℕ) → 1 ≤ r → r < s → AreJoined edges 1 r

-- the servers 1 to n
abbrev pub servers_to : ℕ → List ℕ
servers_to n = range_with_len 1 n

-- the servers that edges join to a, rising
abbrev pub neighbours_by : ℕ → List (ℕ × ℕ) → ℕ → List ℕ
neighbours_by n edges a = filter (has_edge edges a) (servers_to n)
