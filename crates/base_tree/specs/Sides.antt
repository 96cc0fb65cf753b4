-- What follows for the sides of a tree's edges and for the ways in it.
use Rattle.std.specs.Prelude.{◌≡◌, ℕ, suc, ◌==◌, true, cond, not, List, ◌∷◌, length}
use Rattle.base.specs.Sets.{Has}
use Rattle.base.specs.Numbers.{sum_over}
use Rattle.base_tree.specs.Hops.{side, side_size}
use Rattle.base_tree.specs.Tree.{IsWay, NeverTurnsBack, IsPath}

-- the sizes of the sides of b's edges, without that to a
abbrev pub size_but : (ℕ → ℕ → ℕ) → List ℕ → ℕ → ℕ → List ℕ → ℕ
size_but hop servers a b neighbours = sum_over (λ c. cond (c == a) 0 (side_size hop servers b c)) neighbours

-- b is the one neighbour of a with x beyond it
pub record IsToward (links : ℕ → List ℕ) (hop : ℕ → ℕ → ℕ) (a x b : ℕ) : Type 0 where
  pub near : Has b (links a)
  pub beyond : side hop a b x ≡ true
  pub alone : (c : ℕ) → Has c (links a) → side hop a c x ≡ true → c ≡ b

-- each server is on one side of an edge, one neighbour lies towards any other server, ways that never turn back are paths and the only ones, and sides add up
pub record AreSides (servers : List ℕ) (links : ℕ → List ℕ) (hop : ℕ → ℕ → ℕ) : Type 0 where
  pub one_side : (a b x : ℕ) → Has b (links a) → Has x servers → side hop a b x ≡ not (side hop b a x)
  pub one_neighbour : (a x : ℕ) → Has a servers → Has x servers → (x ≡ a → ⊥) → IsToward links hop a x (hop a x)
  pub a_path : (a x : ℕ) → Has a servers → Has x servers → (path : List ℕ) × IsPath links a x path
  pub one_way : (prior a x : ℕ) (way path : List ℕ) → Has x servers → IsWay links a way x → NeverTurnsBack prior a way → IsPath links a x path → a ∷ way ≡ path
  pub weighs : (a b : ℕ) → Has b (links a) → side_size hop servers a b ≡ suc (size_but hop servers a b (links b))
  pub total : (a : ℕ) → Has a servers → suc (sum_over (side_size hop servers a) (links a)) ≡ length servers
