-- Texts of the items of some numbers, one after the other.
use Rattle.std.proofs.Common.{◌≡◌, ℕ, zero, suc, ◌+◌, ◌<◌, List, [], ◌∷◌, ◌++◌, length, take, slice_get, slice_index_or, Option, Some, None, refl, sym, ap, ◌∙◌, arith, append_assoc}
use Rattle.std.specs.List.{flat_map}
use Rattle.law_routing.proofs.Listing.{append-none}
use Rattle.filter_constraints.specs.Constraint.{ConstraintParts}
use Rattle.filter_text.specs.FilterText.{constraints_text}
use Rattle.filter_text.specs.MessageText.{signed, change_text}
use Rattle.base_order.specs.Order.{picked}
use Rattle.sequential_network.specs.Last.{texts_of}

-- the text of the item of one number more
texts-more : {T : Type 0} (text : T → List ℕ) (items : List T) (ns : List ℕ) (i : ℕ) (x : T) → i < length ns → slice_get items (slice_index_or ns i 0) ≡ Some x
    → flat_map text (picked items (take (suc i) ns)) ≡ flat_map text (picked items (take i ns)) ++ text x
texts-more text items [] i x l e = absurd (omega (arith, l))
texts-more text items (n ∷ ns) zero x l e = rw e (append-none (text x))
texts-more {T} text items (n ∷ ns) (suc i) x l e = go (slice_get items n) refl (texts-more text items ns i x (omega (arith, l)) e)
  where
    go : (o : Option T) → slice_get items n ≡ o → flat_map text (picked items (take (suc i) ns)) ≡ flat_map text (picked items (take i ns)) ++ text x
        → flat_map text (picked items (n ∷ take (suc i) ns)) ≡ flat_map text (picked items (n ∷ take i ns)) ++ text x
    go None q ih = rw q ih
    go (Some y) q ih = rw q (ap (λ z. text y ++ z) ih ∙ sym (append_assoc (text y) (flat_map text (picked items (take i ns))) (text x)))

-- the list with one number more is put behind the texts of the others
pub put-more : {T : Type 0} (constraints : T → List ConstraintParts) (sign : ℕ) (items : List T) (ns : List ℕ) (i : ℕ) (x : T) (start before after bytes : List ℕ) → i < length ns
    → slice_get items (slice_index_or ns i 0) ≡ Some x → before ≡ start ++ texts_of constraints sign (picked items (take i ns)) → bytes ≡ constraints_text (constraints x) → after ≡ before ++ signed sign bytes
    → after ≡ start ++ texts_of constraints sign (picked items (take (i + 1) ns))
put-more constraints sign items ns i x start before after bytes l e was text now =
    let n : suc i ≡ i + 1 = omega arith in
    now ∙ (λ j. was j ++ signed sign (text j))
    ∙ append_assoc start (texts_of constraints sign (picked items (take i ns))) (change_text sign (constraints x))
    ∙ ap (λ z. start ++ z) (sym (texts-more (λ y. change_text sign (constraints y)) items ns i x l e) ∙ ap (λ k. texts_of constraints sign (picked items (take k ns))) n)
