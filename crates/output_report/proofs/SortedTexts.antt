-- A text of sorted deliveries is the text of the deliveries sorted before.
use Rattle.std.proofs.Common.{◌≡◌, Bool, false, ℕ, List, [], ◌∷◌, ◌++◌, map, refl, ap, ◌∙◌}
use Rattle.filter_text.specs.Deliveries.{Delivery}
use Rattle.net_model.specs.Parts.{ClientParts}
use Rattle.output_report.specs.Deliveries.{ordered, delivery_section, delivery_sections}

-- lists that stay in their order
pub as_they_are : (received : List (List Delivery)) → map (ordered false) received ≡ received
as_they_are [] = refl
as_they_are (list ∷ received) = ap (λ l. list ∷ l) (as_they_are received)

section_ordered : (clients : List ClientParts) (sorted : Bool) (client : ClientParts) (refused : List ℕ) (list : List Delivery)
    → delivery_section clients sorted client refused list ≡ delivery_section clients false client refused (ordered sorted list)
unfolding delivery_section
section_ordered clients sorted client refused list = refl

pub sections_ordered : (clients : List ClientParts) (sorted : Bool) (rest : List ClientParts) (refused : List (List ℕ)) (received : List (List Delivery))
    → delivery_sections clients sorted rest refused received ≡ delivery_sections clients false rest refused (map (ordered sorted) received)
sections_ordered clients sorted [] refused received = refl
sections_ordered clients sorted (client ∷ rest) [] received = refl
sections_ordered clients sorted (client ∷ rest) (ordinals ∷ refused) [] = refl
sections_ordered clients sorted (client ∷ rest) (ordinals ∷ refused) (list ∷ received) =
    ap (λ l. l ++ delivery_sections clients sorted rest refused received) (section_ordered clients sorted client ordinals list)
    ∙ ap (λ l. delivery_section clients false client ordinals (ordered sorted list) ++ l) (sections_ordered clients sorted rest refused received)
