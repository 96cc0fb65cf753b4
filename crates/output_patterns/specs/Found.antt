-- Defines the text of what patterns find.
use Rattle.std.specs.Prelude.{ℕ, zero, suc, List, [], ◌++◌, Option, Some, None, codes, slice_get}
use Rattle.std.specs.Fmt.{decimal}
use Rattle.std.specs.List.{flat_map}
use Rattle.filter_types.specs.Notice.{Attribute}
use Rattle.filter_text.specs.Deliveries.{Delivery}
use Rattle.filter_text.specs.declared.id.Id.{Id}
use Rattle.net_model.specs.Parts.{ClientParts}
use Rattle.output_report.specs.Published.{by_number}
use Rattle.output_patterns.specs.Scan.{all_occurrences}
use Rattle.output_patterns.specs.Parts.{PatternParts}
use Rattle.output_patterns.specs.Published.{names_in, notices_in, notices_of}

-- ` PUBLISHER ORDINAL`
unfoldable pub id_text : List (List ℕ) → Id → List ℕ
id_text names id = codes " " ++ by_number names id.publisher ++ codes " " ++ decimal id.ordinal

-- the same of the delivery at a place, counted from 1
abbrev pub delivery_text : List (List ℕ) → Option Delivery → List ℕ
delivery_text names None = []
delivery_text names (Some d) = id_text names d.id

abbrev pub place_text : List (List ℕ) → List Delivery → ℕ → List ℕ
place_text names deliveries zero = []
place_text names deliveries (suc i) = delivery_text names (slice_get deliveries i)

-- `found` and the publication at each place of an occurrence
unfoldable pub found_line : List (List ℕ) → List Delivery → List ℕ → List ℕ
found_line names deliveries places = codes "found" ++ flat_map (place_text names deliveries) places ++ codes "\n"

-- `pattern CLIENT LABEL`
unfoldable pub pattern_line : List (List ℕ) → ℕ → List ℕ → List ℕ
pattern_line names client label = codes "pattern " ++ by_number names client ++ codes " " ++ label ++ codes "\n"

-- what a client received, where there is one
abbrev pub heard_in : Option (List Delivery) → List Delivery
heard_in None = []
heard_in (Some deliveries) = deliveries

-- a pattern, and a line for each of all its occurrences in the deliveries of its client
unfoldable pub pattern_text : List (List ℕ) → List (List (List Attribute)) → List Delivery → PatternParts → List ℕ
pattern_text names notices deliveries p =
    pattern_line names p.client p.label ++ flat_map (found_line names deliveries) (all_occurrences p.steps (notices_of notices deliveries))

-- all patterns, over what each client received
abbrev pub patterns_text : List (List ℕ) → List (List (List Attribute)) → List (List Delivery) → List PatternParts → List ℕ
patterns_text names notices received patterns = flat_map (λ p. pattern_text names notices (by_number received p.client) p) patterns

-- THE TEXT OF WHAT PATTERNS FIND in what the clients of a net received
abbrev pub found_text : List ClientParts → List (List Delivery) → List PatternParts → List ℕ
found_text clients received patterns = patterns_text (names_in clients) (notices_in clients) received patterns
