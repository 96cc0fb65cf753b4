-- Defines a tree by the sizes of its sides.
use Rattle.std.specs.Prelude.{◌≡◌, ℕ, suc, false, List, length}
use Rattle.base.specs.Sets.{Has}
use Rattle.base.specs.Numbers.{sum_over, IsDistinct}
use Rattle.law_machine.specs.Load.{other_sizes}
use Rattle.law_routing.specs.Theory.{Theory}

-- size a b: how many servers stand on b's side of the edge from a to b
pub record IsTreeBySizes (servers : List ℕ) (links : ℕ → List ℕ) (size : ℕ → ℕ → ℕ) : Type 0 where
  pub distinct : IsDistinct servers
  pub single : (a : ℕ) → IsDistinct (links a)
  pub linked : (a b : ℕ) → Has b (links a) → Has a servers
  pub both : (a b : ℕ) → Has b (links a) → Has a (links b)
  pub apart : (a : ℕ) → Has a (links a) → ⊥
  pub weighs : (a b : ℕ) → Has b (links a) → size a b ≡ suc (other_sizes (size b) a (links b))
  pub total : (t : ℕ) → Has t servers → suc (sum_over (size t) (links t)) ≡ length servers

-- nothing is before itself
pub record StrictOrders (theory : Theory) : Type 0 where
  pub filters : (f : theory.Filter) → theory.before f f ≡ false
  pub adverts : (a : theory.Advert) → theory.before_advert a a ≡ false
