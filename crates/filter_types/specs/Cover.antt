-- Defines matching, allowing, covering and overlap of notices, filters and advertisements.
use Rattle.std.specs.Prelude.{ℕ, List, Bool, false, not, ◌&&◌, ◌||◌, Some, None}
use Rattle.std.specs.declared.option.Option.{Option}
use Rattle.std.specs.List.{list_all, list_any}
use Rattle.std.specs.Str.{bytes_eq}
use Rattle.filter_values.specs.declared.value.Value.{Value}
use Rattle.filter_constraints.specs.Constraint.{ConstraintParts, same_subject, satisfies, constraint_covers, compatible}
use Rattle.filter_types.specs.Notice.{Attribute, attribute_at}

-- the attribute exists and its value satisfies the constraint
abbrev pub attribute_satisfies : Option Attribute → ConstraintParts → Bool
attribute_satisfies None c = false
attribute_satisfies (Some a) c = satisfies c a.1

-- the notice n matches the filter f: for each constraint of f the attribute of its name exists and satisfies it
unfoldable pub matches : List Attribute → List ConstraintParts → Bool
matches n f = list_all (λ c. attribute_satisfies (attribute_at n c.name) c) f

-- some constraint of a on that name is satisfied by the value
abbrev pub some_allows : List ConstraintParts → List ℕ → Value → Bool
some_allows a name v = list_any (λ c. bytes_eq c.name name && satisfies c v) a

-- the advertisement a allows the notice n: each attribute satisfies some constraint of a on its name
unfoldable pub allows : List ConstraintParts → List Attribute → Bool
allows a n = list_all (λ x. some_allows a x.0 x.1) n

-- the constraint covers some constraint of g
abbrev pub covers_some : ConstraintParts → List ConstraintParts → Bool
covers_some c g = list_any (λ d. constraint_covers c d) g

-- some constraint of a covers the constraint
abbrev pub some_covers : List ConstraintParts → ConstraintParts → Bool
some_covers a d = list_any (λ c. constraint_covers c d) a

-- the filter f covers the filter g: each constraint of f covers some constraint of g
unfoldable pub filter_covers : List ConstraintParts → List ConstraintParts → Bool
filter_covers f g = list_all (λ c. covers_some c g) f

-- the advertisement a covers the advertisement b: each constraint of b is covered by one of a
unfoldable pub advert_covers : List ConstraintParts → List ConstraintParts → Bool
advert_covers a b = list_all (λ d. some_covers a d) b

-- d is compatible with each constraint of f on the name and kind of c
abbrev pub fits_all : List ConstraintParts → ConstraintParts → ConstraintParts → Bool
fits_all f c d = list_all (λ e. not (same_subject c e) || compatible d e) f

-- some constraint of a on the name and kind of c is compatible with each of f there
abbrev pub some_fits : List ConstraintParts → List ConstraintParts → ConstraintParts → Bool
some_fits f a c = list_any (λ d. same_subject c d && fits_all f c d) a

-- the filter f overlaps the advertisement a: for each name and kind in f, some constraint of a there is compatible with each of f there
unfoldable pub overlaps : List ConstraintParts → List ConstraintParts → Bool
overlaps f a = list_all (λ c. some_fits f a c) f
