-- Defines the constraints of all filters by kind.
use Rattle.std.specs.Prelude.{ℕ, ◌++◌, ◌∷◌, List}
use Rattle.filter_constraints.specs.Constraint.{ConstraintParts}
use Rattle.filter_values.specs.declared.value.Kind.TheVariants as kinds
use Rattle.match_index.specs.Pairs.{Same}
use Rattle.match_filters.specs.Index.{Use}
use Rattle.match_filters.specs.Uses.{AreAll, AreJoined, AreAlone}

-- the constraints on ints, on bools, on times and on strs, and the patterns of strs
pub record ByKind : Type 0 where
  pub ints : List Use
  pub bools : List Use
  pub times : List Use
  pub strs : List Use
  pub texts : List Use

-- all of them
abbrev pub all_uses : ByKind → List Use
all_uses x = x.ints ++ (x.bools ++ (x.times ++ (x.strs ++ x.texts)))

-- each stands among those of its kind
pub record AreByKind (x : ByKind) : Type 0 where
  pub ints : AreAll kinds.Int x.ints
  pub bools : AreAll kinds.Bool x.bools
  pub times : AreAll kinds.Time x.times
  pub strs : AreAll kinds.Str x.strs
  pub joined : AreJoined x.strs
  pub texts : AreAll kinds.Str x.texts
  pub alone : AreAlone x.texts

-- one constraint more
pub record IsAdded (c : ConstraintParts) (id : ℕ) (old new : ByKind) : Type 0 where
  pub same : Same (all_uses new) ((c, id) ∷ all_uses old)
  pub kept : AreByKind old → AreByKind new
