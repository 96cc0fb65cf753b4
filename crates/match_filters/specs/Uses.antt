-- Defines what constraints with the numbers of their filters are kept together.
use Rattle.std.specs.Prelude.{◌≡◌, ℕ, not, nat_le, Bool, List}
use Rattle.filter_values.specs.Value.{kind_of, same_kind}
use Rattle.filter_values.specs.declared.value.Kind.{Kind}
use Rattle.filter_values.specs.declared.value.Value.{Value}
use Rattle.match_index.specs.Pairs.{tally}
use Rattle.match_filters.specs.Index.{Use}
use Rattle.match_filters.specs.Parts.{is_alone}

-- the constraint is of another kind
abbrev pub is_other : Kind → Use → Bool
is_other kind u = not (same_kind u.0.kind kind)

-- all constraints are of this kind
abbrev pub AreAll : Kind → List Use → Type 0
AreAll kind uses = tally (is_other kind) uses ≡ 0

-- no constraint is a part by itself
abbrev pub AreJoined : List Use → Type 0
AreJoined uses = tally (λ u. is_alone u.0) uses ≡ 0

-- each constraint is a part by itself
abbrev pub AreAlone : List Use → Type 0
AreAlone uses = tally (λ u. not (is_alone u.0)) uses ≡ 0

-- all constraints are of the value's kind, and none is a part by itself
abbrev pub AreOfKind : Value → List Use → Type 0
AreOfKind v uses = AreAll (kind_of v) uses × AreJoined uses

-- all numbers are below the bound
abbrev pub AreKnown : ℕ → List Use → Type 0
AreKnown bound uses = tally (λ u. nat_le bound u.1) uses ≡ 0
