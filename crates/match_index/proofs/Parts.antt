-- Lemmas on the search for a key in a text, byte by byte.
use Rattle.std.proofs.Common.{◌≡◌, ◌==◌, ◌&&◌, ◌||◌, ◌∙◌, refl, ap, arith, ℕ, Bool, true, false, List, [], ◌∷◌, length, nat_eq}
use Rattle.std.proofs.lemmas.Bool.Decides.{nat_tests}
use Rattle.std.specs.List.{starts_with}
use Rattle.filter_constraints.specs.Bytes.{has_part, has_prefix}

-- no bytes stand in every text
pub part-of-nothing : (x u : List ℕ) → length u ≡ 0 → has_part x u ≡ true
unfolding has_part has_prefix
part-of-nothing [] [] h = refl
part-of-nothing (b ∷ x) [] h = refl
part-of-nothing x (f ∷ u) h = absurd (omega (arith, h))

-- some bytes do not stand in no text
pub part-in-nothing : (x : List ℕ) (f : ℕ) (r : List ℕ) → length x ≡ 0 → has_part x (f ∷ r) ≡ false
unfolding has_part has_prefix
part-in-nothing [] f r h = refl
part-in-nothing (b ∷ x) f r h = absurd (omega (arith, h))

begins : (b f : ℕ) (later r : List ℕ) → has_part (b ∷ later) (f ∷ r) ≡ (((f == b) && starts_with nat_eq later r) || has_part later (f ∷ r))
unfolding has_part has_prefix
begins b f later r = refl

pub part-here : (b f : ℕ) (later r : List ℕ) → b ≡ f → starts_with nat_eq later r ≡ true → has_part (b ∷ later) (f ∷ r) ≡ true
part-here b f later r e h = let t : (f == b) ≡ true = grind (arith, nat_tests) in begins b f later r ∙ ap {B = Bool} (λ x. (x && starts_with nat_eq later r) || has_part later (f ∷ r)) t ∙ ap {B = Bool} (λ x. x || has_part later (f ∷ r)) h

pub part-not-first : (b f : ℕ) (later r : List ℕ) → (b ≡ f → ⊥) → has_part (b ∷ later) (f ∷ r) ≡ has_part later (f ∷ r)
part-not-first b f later r n = let t : (f == b) ≡ false = grind (arith, nat_tests) in begins b f later r ∙ ap {B = Bool} (λ x. (x && starts_with nat_eq later r) || has_part later (f ∷ r)) t

pub part-not-here : (b f : ℕ) (later r : List ℕ) → starts_with nat_eq later r ≡ false → has_part (b ∷ later) (f ∷ r) ≡ has_part later (f ∷ r)
part-not-here b f later r h = begins b f later r ∙ ap {B = Bool} (λ x. ((f == b) && x) || has_part later (f ∷ r)) h ∙ go (f == b)
  where
    go : (x : Bool) → ((x && false) || has_part later (f ∷ r)) ≡ has_part later (f ∷ r)
    go true = refl
    go false = refl
