-- Defines the text of what patterns find by the definition of all occurrences.
use Rattle.std.specs.Prelude.{ℕ, List, [], ◌∷◌, ◌++◌}
use Rattle.std.specs.List.{flat_map}
use Rattle.filter_text.specs.Deliveries.{Delivery}
use Rattle.net_model.specs.Parts.{ClientParts}
use Rattle.output_report.specs.Published.{by_number}
use Rattle.output_patterns.specs.Pattern.{AreAllOccurrences, Notices}
use Rattle.output_patterns.specs.Parts.{PatternParts}
use Rattle.output_patterns.specs.Published.{names_in, notices_in, notices_of}
use Rattle.output_patterns.specs.Found.{found_line, pattern_line}

-- the notices that a pattern's client received, in order
abbrev pub heard_by : List ClientParts → List (List Delivery) → PatternParts → Notices
heard_by clients received p = notices_of (notices_in clients) (by_number received p.client)

-- beside each pattern stand all its occurrences in what its client received
abbrev pub AreFound : List ClientParts → List (List Delivery) → List PatternParts → List (List (List ℕ)) → Type 0
AreFound clients received [] [] = Unit {0}
AreFound clients received [] (all ∷ others) = ⊥
AreFound clients received (p ∷ patterns) [] = ⊥
AreFound clients received (p ∷ patterns) (all ∷ others) =
    AreAllOccurrences p.steps (heard_by clients received p) all × AreFound clients received patterns others

-- a line for each pattern, and behind it one for each of its occurrences
abbrev pub occurrences_text : List ClientParts → List (List Delivery) → List PatternParts → List (List (List ℕ)) → List ℕ
occurrences_text clients received [] alls = []
occurrences_text clients received (p ∷ patterns) [] = []
occurrences_text clients received (p ∷ patterns) (all ∷ others) =
    (pattern_line (names_in clients) p.client p.label ++ flat_map (found_line (names_in clients) (by_number received p.client)) all)
    ++ occurrences_text clients received patterns others
