-- Defines what a matcher keeps of its filters, and goals: how many parts each filter has, and 31 where there is no filter.
use Rattle.std.specs.Prelude.{◌≡◌, ◌≤◌, ◌<◌, ◌+◌, ◌*◌, ◌/◌, ℕ, suc, List, [], ◌∷◌, ◌++◌, length, nat_lt, cond, slice_index_or}
use Rattle.filter_constraints.specs.Constraint.{ConstraintParts}
use Rattle.match_index.specs.Pairs.{Same}
use Rattle.match_cells.specs.declared.counts.Counts.{Counts}
use Rattle.match_cells.specs.Counts.{goal_at}
use Rattle.match_filters.specs.Index.{Use}
use Rattle.match_filters.specs.Parts.{parts_of}
use Rattle.match_filters.specs.Slots.{numbered}
use Rattle.match_filters.specs.Kinds.{ByKind, all_uses, AreByKind}

-- the constraints of all filters, where a filter's number is its place, counted on from i
abbrev pub uses_from : ℕ → List (List ConstraintParts) → List Use
uses_from i [] = []
uses_from i (f ∷ rest) = numbered i f ++ uses_from (suc i) rest

-- the goal of a number
abbrev pub wanted_of : List (List ConstraintParts) → ℕ → ℕ
wanted_of filters k = cond (nat_lt k (length filters)) (parts_of (slice_index_or filters k [])) 31

-- as many words as the filters take, with the goal of each
pub record AreGoals (goals : List Counts) (filters : List (List ConstraintParts)) : Type 0 where
  pub long : length goals ≡ (length filters + 63) / 64
  pub each : (k : ℕ) → k < 64 * length goals → goal_at goals k ≡ wanted_of filters k

-- what a matcher keeps: the constraints of its filters in the index, and how many parts each has
pub record IsFilled (index : ByKind) (goals : List Counts) (filters : List (List ConstraintParts)) : Type 0 where
  pub sorted : AreByKind index
  pub indexed : Same (all_uses index) (uses_from 0 filters)
  pub reached : AreGoals goals filters
  pub few : (k : ℕ) → length (slice_index_or filters k []) ≤ 16

-- the constraints of a filter more
pub record AreEntered (f : List ConstraintParts) (id : ℕ) (old new : ByKind) : Type 0 where
  pub same : Same (all_uses new) (numbered id f ++ all_uses old)
  pub kept : AreByKind old → AreByKind new

-- as many words as so many filters take, where no count reaches the later goals
pub record IsOpen (count : ℕ) (goals : List Counts) : Type 0 where
  pub long : length goals ≡ (count + 63) / 64
  pub rest : (k : ℕ) → count ≤ k → k < 64 * length goals → goal_at goals k ≡ 31
