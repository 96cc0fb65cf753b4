-- Defines what a look at a lane finds, and what a reception takes from it.
use Rattle.std.specs.Prelude.{◌≡◌, ◌<◌, ℕ, ◌+◌, ◌==◌, cond, List, [], ◌∷◌, ◌++◌, length, Bool, true, false, Some, slice_get}
use Rattle.thread_lane.specs.Lane.{taken_list, rest_list, coming_list, misses}
use Rattle.server_message.specs.declared.stamped.StampedLoad.{StampedLoad}
use mathlib.Core.List.{IsPrefix}
use Rattle.thread_cell.specs.declared.link.Link.{Link}
use Rattle.thread_cell.specs.Links.{Both, IsSameLink, At}

-- a look found that all was taken
pub record IsMissed (x y : Link) : Type 0 where
  pub misses : misses y.leave ≡ misses x.leave + 1
  pub rest : rest_list x.leave ≡ []

-- an item that is in sight: the next reception takes it
abbrev pub ComesNext : StampedLoad → Link → Type 0
ComesNext item x = IsPrefix (item ∷ []) (coming_list x.leave)

-- what a look at a link shows: that there is a next item, or that all was taken
abbrev pub IsLooked : Link → Link → Bool → Type 0
IsLooked x y false = IsMissed x y
IsLooked x y true = (0 < length (coming_list y.leave)) × (misses y.leave ≡ misses x.leave)

-- an item was taken from a neighbour
pub record IsItemReceived (from : ℕ) (item : StampedLoad) (x y : Link) : Type 0 where
  pub same : IsSameLink x y
  pub enter : y.enter ≡ x.enter
  pub took : taken_list y.leave ≡ taken_list x.leave ++ cond (x.neighbour == from) (item ∷ []) []
  pub seen : misses y.leave ≡ misses x.leave

-- a look at a link found that all was taken
abbrev pub HasMissed : ℕ → List Link → List Link → Type 0
HasMissed place xs ys = (x y : Link) → slice_get xs place ≡ Some x → slice_get ys place ≡ Some y → IsMissed x y

-- this item comes next at the link at a place
abbrev pub IsNextAt : ℕ → StampedLoad → List Link → Type 0
IsNextAt place item xs = (x : Link) × (slice_get xs place ≡ Some x) × ComesNext item x

-- what was done at the link at a place found something, or looked for nothing
abbrev pub HasSeen : ℕ → List Link → List Link → Type 0
HasSeen place xs ys = (x y : Link) → slice_get xs place ≡ Some x → slice_get ys place ≡ Some y → misses y.leave ≡ misses x.leave

-- the same of a look at the link at a place
abbrev pub IsLookedAt : ℕ → List Link → List Link → Bool → Type 0
IsLookedAt place xs ys seen = At (λ x y. IsLooked x y seen) place xs place ys

-- the link at a place has an item in sight
abbrev pub IsInSight : ℕ → List Link → Type 0
IsInSight place xs = (x : Link) → slice_get xs place ≡ Some x → 0 < length (coming_list x.leave)

-- where this item comes next at the link at a place, it is taken
abbrev pub ReceivesAt : ℕ → StampedLoad → List Link → List Link → Type 0
ReceivesAt place item xs ys = (x : Link) → slice_get xs place ≡ Some x → ComesNext item x → Both (IsItemReceived x.neighbour item) xs ys
