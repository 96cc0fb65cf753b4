-- Defines the list of notifications that a detector is fed.
use Rattle.std.specs.Prelude.{List, [], ◌∷◌, ◌++◌}
use Rattle.filter_types.specs.Notice.{Attribute}
use Rattle.output_patterns.specs.declared.heard.Notices.{Notices}
use Rattle.output_patterns.specs.declared.heard.Notices.TheVariants.{Nothing, More}

abbrev pub heard : Notices → List (List Attribute)
heard Nothing = []
heard (More earlier last) = earlier.value.value ++ last.value ∷ []
