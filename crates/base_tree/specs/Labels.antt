-- Defines labels of servers, and the faults of a list of edges.
use Rattle.std.specs.Prelude.{◌≡◌, ℕ, ◌<◌, ◌≤◌, true, List, slice_index}
use Rattle.base_tree.specs.Graph.{has_edge, AreJoined, IsForest, IsTwice, IsLoop, IsApart, IsCount}
use Rattle.base_tree.specs.declared.fault.TreeFault.{TreeFault}
use Rattle.base_tree.specs.declared.fault.TreeFault.TheVariants.{TooFew, TooMany, Twice, Loop, Apart, NoMemory}

-- servers have one label exactly where edges join them
pub record Labelled (n : ℕ) (edges : List (ℕ × ℕ)) (label : ℕ → ℕ) : Type 0 where
  pub joined : (x y : ℕ) → (1 ≤ x) × (x ≤ n) → (1 ≤ y) × (y ≤ n) → label x ≡ label y → AreJoined edges x y
  pub ends : (x y : ℕ) → has_edge edges x y ≡ true → ((1 ≤ x) × (x ≤ n)) × ((1 ≤ y) × (y ≤ n)) × (label x ≡ label y)

-- the edges are a forest with these labels
pub record IsPartition (n : ℕ) (edges : List (ℕ × ℕ)) (labels : List ℕ) : Type 0 where
  pub forest : IsForest edges
  pub labelled : Labelled n edges (λ x. slice_index labels x)

-- how many servers there are, and by server its label; place 0 is no server's
pub record ServerLabels : Type 0 where
  pub count : ℕ
  pub labels : List ℕ

abbrev pub server_labels : ℕ → List ℕ → ServerLabels
server_labels count labels = record { count = count; labels = labels }

-- the edges are a forest of these servers, and servers have one label exactly where the edges join them
abbrev pub AreLabelsOf : List (ℕ × ℕ) → ServerLabels → Type 0
AreLabelsOf edges servers = IsPartition servers.count edges servers.labels

-- what is at fault with the edges of n servers
abbrev pub IsFault : ℕ → List (ℕ × ℕ) → TreeFault → Type 0
IsFault n edges TooFew = n ≡ 0
IsFault n edges TooMany = 64 < n
IsFault n edges (Twice i) = IsCount n × IsTwice edges i
IsFault n edges (Loop i) = IsCount n × IsLoop edges i
IsFault n edges (Apart s) = IsCount n × IsApart n edges s
IsFault n edges NoMemory = ⊥
