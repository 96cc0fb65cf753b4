-- What an index holds: pairs of a test and an id.
use Rattle.std.specs.Prelude.{◌≡◌, ◌+◌, ℕ, Bool, List, [], ◌∷◌, ◌++◌, ◌⊎◌, cond, if◌then◌else◌}
use Rattle.std.specs.declared.option.Option.{Option}
use Rattle.filter_values.specs.declared.value.Kind.{Kind}
use Rattle.filter_values.specs.declared.value.Value.{Value}
use Rattle.filter_constraints.specs.declared.op.Op.{Op}
use Rattle.filter_constraints.specs.Constraint.{ConstraintParts, value_satisfies}

-- how many of the list pass
abbrev pub tally : {X : Type 0} → (X → Bool) → List X → ℕ
tally p [] = 0
tally p (x ∷ xs) = cond (p x) 1 0 + tally p xs

-- the same members, each as often, in whatever order
abbrev pub Same : {X : Type 0} → List X → List X → Type 0
Same {X} xs ys = (p : X → Bool) → tally p xs ≡ tally p ys

-- a constraint without its name
pub record Test : Type 0 where
  pub kind : Kind
  pub op : Op
  pub operand : Option Value

abbrev pub test_of : ConstraintParts → Test
test_of c = record { kind = c.kind; op = c.op; operand = c.operand }

abbrev pub Pair : Type 0
Pair = Test × ℕ

-- the value passes the test
abbrev pub passes : Value → Test → Bool
passes v t = value_satisfies t.kind t.op t.operand v

-- the ids of the pairs whose test the value passes
abbrev pub ids_met : Value → List Pair → List ℕ
ids_met v [] = []
ids_met v (x ∷ rest) = if passes v x.0 then x.1 ∷ ids_met v rest else ids_met v rest

-- the old list with these ids behind it, each as often, in whatever order
pub record Appends (old new ids : List ℕ) : Type 0 where
  pub tail : List ℕ
  pub whole : new ≡ old ++ tail
  pub same : Same tail ids

-- the list begins with these
pub record BeginsWith (first ids : List ℕ) : Type 0 where
  pub tail : List ℕ
  pub whole : ids ≡ first ++ tail

-- whatever the old list begins with, the new one begins with too
abbrev pub KeepsBeginning : List ℕ → List ℕ → Type 0
KeepsBeginning old new = (first : List ℕ) → BeginsWith first old → BeginsWith first new

-- the list has the member
abbrev pub IsIn : {X : Type 0} → X → List X → Type 0
IsIn x [] = ⊥
IsIn x (y ∷ ys) = (x ≡ y) ⊎ IsIn x ys
