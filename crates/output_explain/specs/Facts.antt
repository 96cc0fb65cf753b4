-- What filters and advertisements say of a publication, and how the code gathers it.
use Rattle.std.specs.Prelude.{ℕ, Bool, false, cond, List, [], ◌∷◌, Option, Some, None}
use Rattle.std.specs.List.{flat_map}
use Rattle.filter_values.specs.declared.value.Value.{Value}
use Rattle.filter_constraints.specs.Constraint.{ConstraintParts, satisfies}
use Rattle.filter_types.specs.Cover.{some_allows}
use Rattle.filter_types.specs.Notice.{Attribute, attribute_at}
use Rattle.filter_text.specs.Messages.{Lists}
use Rattle.output_flood.specs.Held.{Script}
use Rattle.output_explain.specs.declared.stay.Stay.{Stay}
use Rattle.output_explain.specs.declared.facts.Miss.{Miss}
use Rattle.output_explain.specs.declared.facts.FilterFact.{FilterFact}
use Rattle.output_explain.specs.declared.facts.AdvertFact.{AdvertFact}
use Rattle.output_explain.specs.Stays.{filter_effect, advert_effect, is_there, stay_of}

-- the value of an attribute, where there is one
abbrev pub value_in : Option Attribute → Option Value
value_in None = None
value_in (Some a) = Some a.1

-- the value that a notification has under a name
abbrev pub value_at : List Attribute → List ℕ → Option Value
value_at n name = value_in (attribute_at n name)

-- there is a value, and it satisfies the constraint
abbrev pub is_satisfied : ConstraintParts → Option Value → Bool
is_satisfied c None = false
is_satisfied c (Some v) = satisfies c v

-- THE FIRST CONSTRAINT of a filter that a notification doesn't satisfy, with the value that stands against it
abbrev pub first_miss : List Attribute → List ConstraintParts → Option Miss
first_miss n [] = None
first_miss n (c ∷ f) = cond (is_satisfied c (value_at n c.name)) (first_miss n f) (Some (record { constraint = c; value = value_at n c.name }))

-- THE FIRST ATTRIBUTE of a notification that an advertisement doesn't allow
abbrev pub first_denied : List ConstraintParts → List Attribute → Option Attribute
first_denied a [] = None
first_denied a (x ∷ n) = cond (some_allows a x.0 x.1) (first_denied a n) (Some x)

-- the fact by the stay, where there is one
abbrev pub fact_by : {Fact : Type 0} → (Stay → Fact) → Option Stay → List Fact
fact_by make None = []
fact_by make (Some stay) = make stay ∷ []

-- the fact of a filter
abbrev pub filter_fact : List Attribute → List ConstraintParts → Stay → FilterFact
filter_fact n f stay = record { filter = f; miss = first_miss n f; stay = stay }

-- the facts of those filters that are in force at some moment, by the commands before a phase and those of the phase
abbrev pub filter_facts : List Attribute → Script → Script → Lists → List FilterFact
filter_facts n before within known = flat_map (λ f. fact_by (filter_fact n f) (stay_of (filter_effect f) before within)) known

-- the fact of an advertisement, by the commands before the publish
abbrev pub advert_fact : List Attribute → Script → List ConstraintParts → Stay → AdvertFact
advert_fact n ahead a stay = record { advert = a; denied = first_denied a n; here = is_there (advert_effect a) false ahead; stay = stay }

abbrev pub advert_facts : List Attribute → Script → Script → Script → Lists → List AdvertFact
advert_facts n ahead before within known = flat_map (λ a. fact_by (advert_fact n ahead a) (stay_of (advert_effect a) before within)) known
