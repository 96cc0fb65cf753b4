-- What is kept beside the edges of the trees stays so.
use Rattle.std.proofs.Common.{◌≡◌, ℕ, ◌≤◌, Bool, true, false, ◌||◌, List, [], ◌∷◌, ◌++◌, refl, sym, ap, ◌∙◌}
use Rattle.std.specs.List.{list_any}
use Rattle.std.proofs.lemmas.List.Folds.{list_any-append}
use Rattle.std.proofs.lemmas.List.Elements.{All-append, All-cons, All-nil}
use Rattle.base_tree.specs.Graph.{IsEdgeWithin, joins, has_edge}
use Rattle.base_tree.specs.Labels.{AreLabelsOf, ServerLabels}
use Rattle.base_tree.proofs.Joined.{has_edge-more}
use Rattle.document_reader.specs.Near.{is_near}
use Rattle.document_reader.specs.Drawn.{Block, Drawn, IsDrawn, IsWholeBlock, are_neighbours, blocks, is_apart, undrawn, with_edge, with_phase}
use Rattle.document_reader.proofs.Joining.{not_apart_is_whole}

or-none : (b : Bool) → b || false ≡ b
or-none true = refl
or-none false = refl

or-turn : (x y z : Bool) → x || ((y || z) || false) ≡ z || (x || (y || false))
or-turn true y true = refl
or-turn true y false = refl
or-turn false true true = refl
or-turn false true false = refl
or-turn false false true = refl
or-turn false false false = refl

pub pair_same : (x y : ℕ × ℕ) → (y.0 ≡ x.0) × (y.1 ≡ x.1) → y ≡ x
pair_same x y e = ap (λ (a : ℕ). (a, y.1)) e.0 ∙ ap (λ (b : ℕ). (x.0, b)) e.1

near-edge : (d : Drawn) (e : ℕ × ℕ) (a b : ℕ) → are_neighbours (with_edge d e) (a, b) ≡ joins e a b || are_neighbours d (a, b)
unfolding are_neighbours
near-edge d e a b =
    (list_any-append (λ (block : Block). has_edge block.1 a b) d.earlier ((d.phase, d.edges ++ e ∷ []) ∷ [])
    ∙ rw (has_edge-more d.edges e a b) (or-turn (list_any (λ (block : Block). has_edge block.1 a b) d.earlier) (has_edge d.edges a b) (joins e a b)))
    ∙ ap (λ (x : Bool). joins e a b || x) (sym (list_any-append (λ (block : Block). has_edge block.1 a b) d.earlier ((d.phase, d.edges) ∷ [])))

near-phase : (d : Drawn) (phase a b : ℕ) → are_neighbours (with_phase d phase) (a, b) ≡ are_neighbours d (a, b)
unfolding are_neighbours
near-phase d phase a b =
    list_any-append (λ (block : Block). has_edge block.1 a b) (blocks d) ((phase, []) ∷ [])
    ∙ or-none (list_any (λ (block : Block). has_edge block.1 a b) (blocks d))

near-none : (n a b : ℕ) → are_neighbours (undrawn n) (a, b) ≡ false
unfolding are_neighbours
near-none n a b = refl

pub nothing_drawn : (n : ℕ) (labels : ServerLabels) (near : List ℕ) → n ≤ 64 → labels.count ≡ n → AreLabelsOf [] labels
    → ((a b : ℕ) → a ≤ 64 → b ≤ 64 → is_near near a b ≡ false) → IsDrawn (undrawn n) labels near
nothing_drawn n labels near few count are none = record {
  few = few;
  count = count;
  labelled = are;
  within = All-nil (IsEdgeWithin n);
  earlier = All-nil (IsWholeBlock n);
  neighbours = λ a b p q. none a b p q ∙ sym (near-none n a b);
}

pub edge_drawn : (d : Drawn) (e : ℕ × ℕ) (old new : ServerLabels) (pairs near : List ℕ) → IsDrawn d old pairs → IsEdgeWithin d.servers e → new.count ≡ old.count → AreLabelsOf (d.edges ++ e ∷ []) new
    → ((a b : ℕ) → a ≤ 64 → b ≤ 64 → is_near near a b ≡ joins e a b || is_near pairs a b) → IsDrawn (with_edge d e) new near
edge_drawn d e old new pairs near h within count are more = record {
  few = h.few;
  count = count ∙ h.count;
  labelled = are;
  within = All-append (IsEdgeWithin d.servers) d.edges (e ∷ []) h.within (All-cons (IsEdgeWithin d.servers) e [] within (All-nil (IsEdgeWithin d.servers)));
  earlier = h.earlier;
  neighbours = λ a b p q. (more a b p q ∙ ap (λ (x : Bool). joins e a b || x) (h.neighbours a b p q)) ∙ sym (near-edge d e a b);
}

pub phase_drawn : (d : Drawn) (phase : ℕ) (old new : ServerLabels) (near : List ℕ) → IsDrawn d old near → is_apart d ≡ false → new.count ≡ d.servers → AreLabelsOf [] new → IsDrawn (with_phase d phase) new near
phase_drawn d phase old new near h whole count are = record {
  few = h.few;
  count = count;
  labelled = are;
  within = All-nil (IsEdgeWithin d.servers);
  earlier = All-append (IsWholeBlock d.servers) d.earlier ((d.phase, d.edges) ∷ []) h.earlier (All-cons (IsWholeBlock d.servers) (d.phase, d.edges) [] (record { within = h.within; tree = not_apart_is_whole d h.labelled.forest whole }) (All-nil (IsWholeBlock d.servers)));
  neighbours = λ a b p q. h.neighbours a b p q ∙ sym (near-phase d phase a b);
}
