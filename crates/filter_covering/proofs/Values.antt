-- The test of a notice's values tells that they are well formed.
use Rattle.std.proofs.Common.{◌≡◌, true, refl, arith, List, [], ◌∷◌}
use Rattle.std.proofs.lemmas.Int.{ints}
use Rattle.std.proofs.lemmas.Bool.Decides.{nat_tests}
use Rattle.std.specs.List.{list_all}
use Rattle.filter_values.specs.Value.{IsValue}
use Rattle.filter_values.specs.declared.value.Value.{Value}
use Rattle.filter_values.specs.declared.value.Value.TheVariants.{Bool as Truth, Int, Str, Time}
use Rattle.filter_values.proofs.TextTests.{text_tested, tested_text}
use Rattle.filter_constraints.proofs.ConstraintLaws.{in_range}
use Rattle.filter_constraints.proofs.ConstraintComplete.{fits}
use Rattle.filter_types.specs.Notice.{Attribute, AreValues}
use Rattle.filter_covering.specs.Values.{is_value, are_values}
use Rattle.std.proofs.lemmas.Bool.{and_parts, and_from}

value-tested : (v : Value) → IsValue v → is_value v ≡ true
value-tested (Truth b) i = refl
value-tested (Int x) i = let l = in_range x i in grind (arith, ints)
value-tested (Str t) i = text_tested t i
value-tested (Time n) i = grind (arith, nat_tests)

tested-value : (v : Value) → is_value v ≡ true → IsValue v
tested-value (Truth b) h = tt
tested-value (Int x) h = fits x (record { low = grind (arith, ints); high = grind (arith, ints) })
tested-value (Str t) h = tested_text t h
tested-value (Time n) h = grind (arith, nat_tests)

pub values_tested : (n : List Attribute) → AreValues n → are_values n ≡ true
unfolding are_values
values_tested [] v = refl
values_tested (a ∷ n) v = and_from (is_value a.1) (list_all (λ b. is_value b.1) n) (value-tested a.1 v.0) (values_tested n v.1)

pub tested_values : (n : List Attribute) → are_values n ≡ true → AreValues n
unfolding are_values
tested_values [] h = tt
tested_values (a ∷ n) h = let p = and_parts (is_value a.1) (list_all (λ b. is_value b.1) n) h in (tested-value a.1 p.0, tested_values n p.1)
