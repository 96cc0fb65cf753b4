-- Of well-formed notices the theory says what the definitions of matching and allowing say.
use Rattle.std.proofs.Common.{◌≡◌, ◌&&◌, refl, List}
use Rattle.filter_constraints.specs.Constraint.{ConstraintParts}
use Rattle.filter_types.specs.Notice.{Attribute, AreValues}
use Rattle.filter_types.specs.Cover.{matches, allows}
use Rattle.filter_covering.proofs.Values.{values_tested}
use Rattle.net_model.specs.Real.{real_matches, real_allows}

pub matches_plain : (n : List Attribute) → AreValues n → real_matches n ≡ matches n
unfolding real_matches
matches_plain n v = let e = values_tested n v in λ i f. e i && matches n f

pub allows_plain : (n : List Attribute) (a : List ConstraintParts) → AreValues n → real_allows a n ≡ allows a n
unfolding real_allows
allows_plain n a v = rw (values_tested n v) refl
