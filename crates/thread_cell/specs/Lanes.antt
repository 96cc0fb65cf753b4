-- Defines the lanes of all links of a tree.
use Rattle.std.specs.Prelude.{◌≡◌, ◌↔◌, ◌⊎◌, ◌<◌, ℕ, zero, suc, ◌-◌, List, [], ◌∷◌, ◌++◌, map, length, nat_lt, Some, slice_get}
use Rattle.base.specs.Sets.{Has, IsRising}
use Rattle.base_tree.specs.Tree.{Topology, links_of}
use Rattle.thread_lane.specs.Lane.{put_list, taken_list}
use Rattle.thread_cell.specs.declared.link.Link.{Link}
use Rattle.filter_text.specs.MessageText.{Each}
use Rattle.thread_cell.specs.Links.{IsOneLane}

-- nothing was put or taken
pub record IsNew (link : Link) : Type 0 where
  pub put : put_list link.enter ≡ []
  pub taken : taken_list link.leave ≡ []

-- the ends that one server and another have of the lanes between them
pub record AreBetween (one other : ℕ) (x y : Link) : Type 0 where
  pub there : x.neighbour ≡ other
  pub back : y.neighbour ≡ one
  pub onward : IsOneLane x y
  pub backward : IsOneLane y x
  pub new_one : IsNew x
  pub new_other : IsNew y

-- rows without a lane
pub record AreNone (count : ℕ) (rows : List (List Link)) : Type 0 where
  pub long : length rows ≡ count
  pub none : (r : List Link) → Has r rows → r ≡ []

-- a link more in the row of a place
abbrev pub with_link : ℕ → Link → List (List Link) → List (List Link)
with_link place x [] = []
with_link zero x (r ∷ rows) = (r ++ x ∷ []) ∷ rows
with_link (suc place) x (r ∷ rows) = r ∷ with_link place x rows

-- two servers were joined by lanes
pub record AreJoinedByLanes (one other : ℕ) (old new : List (List Link)) : Type 0 where
  pub mine : Link
  pub theirs : Link
  pub between : AreBetween one other mine theirs
  pub rows : new ≡ with_link (other - 1) theirs (with_link (one - 1) mine old)

-- the links of a row, and the ends of two of them that are those of one lane
abbrev pub neighbours_in : List Link → List ℕ
neighbours_in row = map (λ link. link.neighbour) row

abbrev pub AreEnds : List (List Link) → Type 0
AreEnds rows = (i k q p : ℕ) (a b : List Link) (x y : Link) → slice_get rows i ≡ Some a → slice_get rows k ≡ Some b
    → slice_get a q ≡ Some x → slice_get b p ≡ Some y → x.neighbour ≡ suc k → y.neighbour ≡ suc i → IsOneLane x y

-- of each edge of the tree whose lower end is below this server, or is it with the other below that one, there are lanes
abbrev pub IsLaid : ℕ → ℕ → ℕ → ℕ → Type 0
IsLaid server bound a b = (a < server) ⊎ ((b < server) ⊎ (((a ≡ server) × (b < bound)) ⊎ ((b ≡ server) × (a < bound))))

pub record AreLanes (tree : Topology) (server bound : ℕ) (rows : List (List Link)) : Type 0 where
  pub long : length rows ≡ tree.count
  pub rising : (k : ℕ) (r : List Link) → slice_get rows k ≡ Some r → IsRising nat_lt (neighbours_in r)
  pub members : (k : ℕ) (r : List Link) → slice_get rows k ≡ Some r → (b : ℕ)
      → Has b (neighbours_in r) ↔ (Has b (links_of tree (suc k)) × IsLaid server bound (suc k) b)
  pub new : (k : ℕ) (r : List Link) → slice_get rows k ≡ Some r → Each IsNew r
  pub ends : AreEnds rows

-- THE LANES OF A TREE: of each server in order, by its neighbours, with nothing put or taken, and both ends of each among them
pub record AreLanesOf (tree : Topology) (rows : List (List Link)) : Type 0 where
  pub long : length rows ≡ tree.count
  pub names : (k : ℕ) (r : List Link) → slice_get rows k ≡ Some r → neighbours_in r ≡ links_of tree (suc k)
  pub new : (k : ℕ) (r : List Link) → slice_get rows k ≡ Some r → Each IsNew r
  pub ends : AreEnds rows
