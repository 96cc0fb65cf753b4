-- Defines the pairs of an index that contracts alone see.
use Rattle.std.specs.Prelude.{List, [], ◌∷◌}
use Rattle.match_index.specs.Pairs.{Pair, test_of}
use Rattle.match_numbers.specs.declared.told.Pairs.{Pairs}
use Rattle.match_numbers.specs.declared.told.Pairs.TheVariants.{Nothing, More}

abbrev pub told : Pairs → List Pair
told Nothing = []
told (More earlier constraint id) = (test_of constraint.value, id) ∷ earlier.value.value
