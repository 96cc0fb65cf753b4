-- Defines the kind of a value, and which values are well formed.
use Rattle.std.specs.Prelude.{Bool, true, false, FitsSigned, ◌<◌, ◌^◌}
use Rattle.std.specs.Int.{w64}
use Rattle.filter_values.specs.Text.{IsText}
use Rattle.filter_values.specs.declared.value.Kind.{Kind}
use Rattle.filter_values.specs.declared.value.Value.{Value}
use Rattle.filter_values.specs.declared.value.Kind.TheVariants as kinds
use Rattle.filter_values.specs.declared.value.Value.TheVariants.{Bool as Truth, Int, Str, Time}

abbrev pub kind_of : Value → Kind
kind_of (Truth b) = kinds.Bool
kind_of (Int n) = kinds.Int
kind_of (Str t) = kinds.Str
kind_of (Time n) = kinds.Time

-- what every value of a program is: the number is an i64, the bytes are a text, the seconds are a u64
abbrev pub IsValue : Value → Type 0
IsValue (Truth b) = Unit {0}
IsValue (Int n) = FitsSigned w64 n
IsValue (Str t) = IsText t
IsValue (Time n) = n < 2 ^ 64

abbrev pub same_kind : Kind → Kind → Bool
same_kind kinds.Bool kinds.Bool = true
same_kind kinds.Int kinds.Int = true
same_kind kinds.Str kinds.Str = true
same_kind kinds.Time kinds.Time = true
same_kind k m = false
