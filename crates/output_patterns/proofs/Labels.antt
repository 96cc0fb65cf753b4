-- Lemmas on labels and names in lists.
use Rattle.std.proofs.Common.{◌≡◌, ◌<◌, ◌||◌, ℕ, List, [], ◌++◌, length, Option, Some}
use Rattle.std.specs.List.{list_any, position}
use Rattle.std.proofs.lemmas.List.Folds.{list_any-append}
use Rattle.std.proofs.lemmas.List.Quantifiers.{position-Some}
use Rattle.net_model.specs.Parts.{ClientParts, client_parts}
use Rattle.output_patterns.specs.Parts.{PatternParts, has_label, has_name, is_labelled, listed}

pub label_parts : (client : ℕ) (label : List ℕ) (before : List PatternParts) (last : Option PatternParts)
    → has_label client label (before ++ listed last) ≡ list_any (is_labelled client label) before || list_any (is_labelled client label) (listed last)
unfolding has_label
label_parts client label before last = list_any-append (is_labelled client label) before (listed last)

pub place_within : (name : List ℕ) (clients : List ClientParts) (place : ℕ) → position (has_name name) clients ≡ Some place → place < length clients
place_within name clients place e = (position-Some (has_name name) clients place (client_parts [] 0 0 []) e).0
