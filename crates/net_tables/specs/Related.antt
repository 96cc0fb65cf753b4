-- Defines which filters overlap which advertisements, by numbers.
use Rattle.std.specs.Prelude.{Bool, false, List, length, map, slice_get, Option, Some, None}
use Rattle.base_bits.specs.Words.{passing}
use Rattle.base_bits.specs.Rows.{Numbers}
use Rattle.filter_constraints.specs.Constraint.{ConstraintParts}
use Rattle.filter_types.specs.Cover.{overlaps}
use Rattle.filter_text.specs.Messages.{Lists}

-- whether a filter that is there overlaps an advertisement
abbrev pub overlaps_in : Option (List ConstraintParts) → List ConstraintParts → Bool
overlaps_in None a = false
overlaps_in (Some f) a = overlaps f a

-- the numbers of the filters that overlap an advertisement
abbrev pub overlap_row : Lists → List ConstraintParts → Numbers
overlap_row filters a = record { width = length filters; members = passing (λ i. overlaps_in (slice_get filters i) a) (length filters) }

-- for each advertisement
abbrev pub overlap_rows : Lists → Lists → List Numbers
overlap_rows filters adverts = map (overlap_row filters) adverts
