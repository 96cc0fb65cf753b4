-- Lemmas on deliveries that are visited by their numbers.
use Rattle.std.proofs.Common.{◌≡◌, ℕ, ◌+◌, ◌<◌, List, ◌++◌, length, take, get_or, ap, subst, sym, ◌∙◌}
use Rattle.std.specs.List.{flat_map}
use Rattle.std.proofs.Math.ListN.{get_or-map}
use Rattle.std.proofs.lemmas.List.{length-map}
use Rattle.filter_text.specs.Deliveries.{Delivery}
use Rattle.net_inbox.specs.Inbox.{at_numbers, delivery_at}
use Rattle.base.proofs.Lists.{flat_map-take-next}

-- the texts of the first so many deliveries, and of one more
pub texts-next : (text : Delivery → List ℕ) (all : List Delivery) (numbers : List ℕ) (i : ℕ) → i < length numbers
    → flat_map text (take i (at_numbers all numbers)) ++ text (delivery_at all (get_or numbers i 0)) ≡ flat_map text (take (i + 1) (at_numbers all numbers))
texts-next text all numbers i within =
    let long : i < length (at_numbers all numbers) = subst (λ n. i < n) (sym (length-map numbers (delivery_at all))) within in
    ap (λ d. flat_map text (take i (at_numbers all numbers)) ++ text d) (sym (get_or-map (delivery_at all) numbers i 0))
    ∙ sym (flat_map-take-next text (at_numbers all numbers) i (delivery_at all 0) long)
