-- How labels and hops change when an edge joins two parts of a forest.
use Rattle.std.specs.Prelude.{◌≡◌, ℕ, ◌<◌, ◌==◌, cond, List, [], length, slice_index}
use Rattle.std.specs.List.{slice_index_or}
use Rattle.base_tree.specs.Tree.{entry}

-- the row of x after an edge joins a and b: over the edge to what has the other label
abbrev pub hop_after : List ℕ → List ℕ → ℕ → ℕ → ℕ → ℕ → ℕ
hop_after labels row x a b y =
    cond (slice_index labels x == slice_index labels a)
    (cond (slice_index labels y == slice_index labels b) (cond (x == a) b (slice_index row a)) (slice_index row y))
    (cond (slice_index labels x == slice_index labels b)
    (cond (slice_index labels y == slice_index labels a) (cond (x == b) a (slice_index row b)) (slice_index row y)) (slice_index row y))

-- the rows after an edge joins a and b
pub record IsJoinedByEdge (labels : List ℕ) (old new : List (List ℕ)) (a b : ℕ) : Type 0 where
  pub rows : length new ≡ length old
  pub places : (x : ℕ) → x < length old → length (slice_index_or new x []) ≡ length (slice_index_or old x [])
  pub entries : (x y : ℕ) → x < length old → y < length (slice_index_or old x []) → entry new x y ≡ hop_after labels (slice_index_or old x []) x a b y
