use Rattle.std.proofs.Common.{◌≡◌, ◌+◌, ◌<◌, ℕ, zero, suc, All, List, [], ◌∷◌, ◌++◌, length, refl, ap, ◌∙◌, arith}
use Rattle.std.specs.List.{flat_map}
use Rattle.filter_types.specs.Notice.{Attribute}
use Rattle.filter_text.specs.Deliveries.{Delivery}
use Rattle.net_model.specs.Parts.{ClientParts}
use Rattle.output_report.specs.Published.{by_number}
use Rattle.output_patterns.specs.Pattern.{AreAll, AreAllOccurrences, Steps, end_of}
use Rattle.output_patterns.specs.Scan.{all_occurrences}
use Rattle.output_patterns.proofs.Laws.{all-found}
use Rattle.output_patterns.proofs.Occurrences.{all-one}
use Rattle.output_patterns.specs.Parts.{PatternParts}
use Rattle.output_patterns.specs.All.{AreFound, heard_by, occurrences_text}
use Rattle.output_patterns.specs.Found.{found_line, found_text, pattern_line, pattern_text}
use Rattle.output_patterns.specs.Published.{names_in, notices_in}
use Rattle.output_patterns.proofs.text_law.all_are_found.Goals as goal

no-steps : (notices : List (List Attribute)) (s : ℕ) (all : List (List ℕ)) → AreAll [] notices s all → ⊥
no-steps notices s [] h = h [] tt
no-steps notices s (places ∷ all) h = no-steps notices (end_of places + 1) all h.1

one-text : (clients : List ClientParts) (received : List (List Delivery)) (p : PatternParts) (all : List (List ℕ)) → AreAllOccurrences p.steps (heard_by clients received p) all
    → pattern_text (names_in clients) (notices_in clients) (by_number received p.client) p
    ≡ pattern_line (names_in clients) p.client p.label ++ flat_map (found_line (names_in clients) (by_number received p.client)) all
unfolding pattern_text
one-text clients received p all h = ap (λ z. pattern_line (names_in clients) p.client p.label ++ flat_map (found_line (names_in clients) (by_number received p.client)) z) (same p.steps h)
  where
    same : (steps : Steps) → AreAllOccurrences steps (heard_by clients received p) all → all_occurrences steps (heard_by clients received p) ≡ all
    same [] k = absurd (no-steps (heard_by clients received p) 1 all k)
    same (f ∷ steps) k = all-one (f ∷ steps) (heard_by clients received p) 1 _ all (all-found (f ∷ steps) (heard_by clients received p) (omega arith)) k

text : (clients : List ClientParts) (received : List (List Delivery)) (patterns : List PatternParts) (alls : List (List (List ℕ))) → AreFound clients received patterns alls
    → found_text clients received patterns ≡ occurrences_text clients received patterns alls
text clients received [] [] h = refl
text clients received [] (all ∷ others) h = absurd h
text clients received (p ∷ patterns) [] h = absurd h
text clients received (p ∷ patterns) (all ∷ others) h =
    ap (λ z. z ++ found_text clients received patterns) (one-text clients received p all h.0)
    ∙ ap (λ z. (pattern_line (names_in clients) p.client p.label ++ flat_map (found_line (names_in clients) (by_number received p.client)) all) ++ z) (text clients received patterns others h.1)

exist : (clients : List ClientParts) (received : List (List Delivery)) (patterns : List PatternParts) → All (λ p. 0 < length p.steps) patterns → (alls : List (List (List ℕ))) × AreFound clients received patterns alls
exist clients received [] h = ([], tt)
exist clients received (p ∷ patterns) h =
    let t = exist clients received patterns (λ k d lt. h (suc k) d (omega (arith, lt))) in
    (all_occurrences p.steps (heard_by clients received p) ∷ t.0, (all-found p.steps (heard_by clients received p) (h zero p (omega arith)), t.1))

pub returns-clause-text : goal.returns-clause-text
returns-clause-text c clients received patterns alls h = text clients received patterns alls h

pub returns-clause-exist : goal.returns-clause-exist
returns-clause-exist c clients received patterns h = exist clients received patterns h
