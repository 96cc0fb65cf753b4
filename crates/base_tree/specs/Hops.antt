-- A tree of servers by the next server on the way, and the sizes of its sides.
use Rattle.std.specs.Prelude.{◌≡◌, ℕ, ◌==◌, Bool, not, ◌&&◌, List}
use Rattle.base.specs.Sets.{Has}
use Rattle.base.specs.Numbers.{IsDistinct, sum_over, count}

-- x lies beyond b, seen from a: the way from a to x begins with b
abbrev pub side : (ℕ → ℕ → ℕ) → ℕ → ℕ → ℕ → Bool
side hop a b x = not (x == a) && (hop a x == b)

-- how many servers lie beyond b, seen from a
abbrev pub side_size : (ℕ → ℕ → ℕ) → List ℕ → ℕ → ℕ → ℕ
side_size hop servers a b = sum_over (λ x. count (side hop a b x)) servers

-- servers, the neighbours of each, and the neighbour of one on the way to another, are those of a tree
pub record AreHops (servers : List ℕ) (links : ℕ → List ℕ) (hop : ℕ → ℕ → ℕ) : Type 0 where
  pub distinct : IsDistinct servers
  pub single : (a : ℕ) → IsDistinct (links a)
  pub linked : (a b : ℕ) → Has b (links a) → Has a servers
  pub both : (a b : ℕ) → Has b (links a) → Has a (links b)
  pub apart : (a : ℕ) → Has a (links a) → ⊥
  -- the way between two servers begins with a neighbour
  pub near : (b x : ℕ) → Has b servers → Has x servers → (x ≡ b → ⊥) → Has (hop b x) (links b)
  -- each server is on one side of an edge and not on the other
  pub one_side : (a b x : ℕ) → Has b (links a) → Has x servers → side hop a b x ≡ not (side hop b a x)
