-- Defines the test that the values of a notice are well formed.
use Rattle.std.specs.Prelude.{Bool, true, not, ◌&&◌, ◌^◌, int_lt, nat_lt, List}
use Rattle.std.specs.List.{list_all}
use Rattle.filter_values.specs.Text.{is_text}
use Rattle.filter_values.specs.declared.value.Value.{Value}
use Rattle.filter_values.specs.declared.value.Value.TheVariants.{Bool as Truth, Int, Str, Time}
use Rattle.filter_constraints.specs.Constraint.{int_least, int_greatest}
use Rattle.filter_types.specs.Notice.{Attribute}

-- what every value of a program is: the number is an i64, the bytes are a text, the seconds are a u64
abbrev pub is_value : Value → Bool
is_value (Truth b) = true
is_value (Int x) = not (int_lt x int_least) && not (int_lt int_greatest x)
is_value (Str t) = is_text t
is_value (Time n) = nat_lt n (2 ^ 64)

-- each value is one that a program can have
unfoldable pub are_values : List Attribute → Bool
are_values n = list_all (λ a. is_value a.1) n
