-- What contracts inside this crate see: rows of keys by link, and the order of links.
use Rattle.std.specs.Prelude.{◌≡◌, ℕ, ◌-◌, List, Some, take, slice_get}
use Rattle.base.specs.Sets.{Has}
use Rattle.base_tree.specs.Hops.{side_size}
use Rattle.base_tree.specs.Tree.{Topology, servers_of, links_of, hop_of}

-- how many servers lie beyond b, seen from a
abbrev pub size_of : Topology → ℕ → ℕ → ℕ
size_of tree a b = side_size (hop_of tree) (servers_of tree) a b

-- links, before each of which those stand that it is made of: from b to its neighbours but a
pub record IsOrder (tree : Topology) (order : List (ℕ × ℕ)) : Type 0 where
  pub linked : (i a b : ℕ) → slice_get order i ≡ Some (a, b) → Has b (links_of tree a)
  pub earlier : (i a b : ℕ) → slice_get order i ≡ Some (a, b) → (c : ℕ) → Has c (links_of tree b) → (c ≡ a → ⊥) → Has (b, c) (take i order)
