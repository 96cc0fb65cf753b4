-- Going along a list of trees, or of clients, place by place.
use Rattle.std.proofs.Common.{◌≡◌, ℕ, zero, suc, ◌+◌, ◌<◌, ◌≤◌, max, nat_le, true, false, List, [], ◌∷◌, inl, inr, length, drop, get_or, refl, sym, ap, ◌∙◌, arith, add-one}
use Rattle.std.proofs.lemmas.Bool.Decides.{nat_tests}
use Rattle.base.specs.Sets.{Has}
use Rattle.law_phases.specs.Trees.{tree_after}
use Rattle.net_model.specs.Parts.{ClientParts}
use Rattle.net_model.specs.Nets.{most_barriers}
use Rattle.base.proofs.Numbers.{le-nat_le}

-- a list from a place on: what stands there, and the rest
drop-next : {X : Type 0} (xs : List X) (i : ℕ) (d : X) → i < length xs → drop i xs ≡ get_or xs i d ∷ drop (suc i) xs
drop-next [] i d l = absurd (omega (arith, l))
drop-next (x ∷ xs) zero d l = refl
drop-next (x ∷ xs) (suc i) d l = drop-next xs i d (omega arith)

pub drop-end : {X : Type 0} (xs : List X) (i : ℕ) → length xs ≤ i → drop i xs ≡ []
drop-end [] zero l = refl
drop-end [] (suc i) l = refl
drop-end (x ∷ xs) zero l = absurd (omega (arith, l))
drop-end (x ∷ xs) (suc i) l = drop-end xs i (omega arith)

nat_le-false : (a b : ℕ) → b < a → nat_le a b ≡ false
nat_le-false a b l = grind (arith, nat_tests, l)

module _ {T : Type 0} (k : ℕ) (t : T) (xs : List (ℕ × T)) (i : ℕ) (next : ℕ × T) (here : i < length xs) (is : next ≡ get_or xs i next) where
  front : drop i xs ≡ next ∷ drop (suc i) xs
  front = drop-next xs i next here ∙ ap (λ z. z ∷ drop (suc i) xs) (sym is)

  -- the next tree has come
  pub tree-on : next.0 ≤ k → tree_after next.1 (drop (i + 1) xs) k ≡ tree_after t (drop i xs) k
  tree-on l = rw (front, add-one i, le-nat_le next.0 k l) refl

  -- the next tree has not come
  pub tree-stays : k < next.0 → tree_after t (drop i xs) k ≡ t
  tree-stays l = rw (front, nat_le-false next.0 k l) refl

-- the most barriers, where what is left has none
pub most-end : (clients : List ClientParts) (i : ℕ) (found : ℕ) → length clients ≤ i → max found (most_barriers (drop i clients)) ≡ most_barriers clients → found ≡ most_barriers clients
most-end clients i found l e = grind (arith, ap most_barriers (drop-end clients i l), e)

-- where each client has few barriers, so has the one with the most
pub most-low : (most : ℕ) (clients : List ClientParts) → ((client : ClientParts) → Has client clients → client.barriers ≤ most) → most_barriers clients ≤ most
most-low most [] all = omega arith
most-low most (x ∷ xs) all = grind (arith, all x (inl refl), most-low most xs (λ y h. all y (inr h)))
