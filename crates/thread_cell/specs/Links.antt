-- Defines the lanes between a server and its neighbours, by their places, and what it says that they are the same ones later.
use Rattle.std.specs.Prelude.{◌≡◌, ◌⊎◌, ℕ, List, [], ◌∷◌, ◌++◌, length, Some, slice_get}
use Rattle.thread_lane.specs.Lane.{put_list, pushed_list, waiting_list, free_places, mark_of, taken_list, rest_list, coming_list, IsLane, SameIn, SameOut}
use Rattle.thread_cell.specs.declared.link.Link.{Link}

-- two lists of one length, whose elements are related one by one
abbrev pub Both : {X : Type 0} → (X → X → Type 0) → List X → List X → Type 0
Both R [] [] = Unit {0}
Both R [] (y ∷ ys) = ⊥
Both R (x ∷ xs) [] = ⊥
Both R (x ∷ xs) (y ∷ ys) = R x y × Both R xs ys

-- the same ends of the same lanes, later
pub record IsSameLink (x y : Link) : Type 0 where
  pub neighbour : y.neighbour ≡ x.neighbour
  pub enter : SameIn x.enter y.enter
  pub leave : SameOut x.leave y.leave

-- nothing more was put or taken
pub record IsUnmoved (x y : Link) : Type 0 where
  pub same : IsSameLink x y
  pub put : put_list y.enter ≡ put_list x.enter
  pub taken : taken_list y.leave ≡ taken_list x.leave

-- at most room was made
pub record IsRoomed (x y : Link) : Type 0 where
  pub unmoved : IsUnmoved x y
  pub leave : y.leave ≡ x.leave

-- the neighbour at a place
abbrev pub IsNeighbour : ℕ → ℕ → List Link → Type 0
IsNeighbour place neighbour xs = (x : Link) × (slice_get xs place ≡ Some x) × (x.neighbour ≡ neighbour)

-- two links at their places
abbrev pub At : (Link → Link → Type 0) → ℕ → List Link → ℕ → List Link → Type 0
At R k xs p ys = (x y : Link) × (slice_get xs k ≡ Some x) × (slice_get ys p ≡ Some y) × R x y

-- the two ends of one lane
abbrev pub IsOneLane : Link → Link → Type 0
IsOneLane x y = IsLane x.enter y.leave

-- the putting end of one link and the taking end of the other are those of one lane, and all that was put and not taken is at the taking end
pub record IsSettledLane (x y : Link) : Type 0 where
  pub lane : IsLane x.enter y.leave
  pub all : taken_list y.leave ++ rest_list y.leave ≡ put_list x.enter
  pub coming : coming_list y.leave ≡ rest_list y.leave

-- the putting end stands as `flush` leaves it
abbrev pub IsFlushed : Link → Type 0
IsFlushed x = ((waiting_list x.enter ≡ []) ⊎ (free_places x.enter ≡ 0)) × (mark_of x.enter ≡ length (pushed_list x.enter))
