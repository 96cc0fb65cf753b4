-- A tree by its ways is a tree by the sizes of its sides.
use Rattle.std.proofs.Common.{ℕ, List}
use Rattle.base_tree.specs.Hops.{side_size, AreHops}
use Rattle.base_tree.proofs.Sizes.{weighs, total}
use Rattle.law_routing.specs.Tree.{IsTreeBySizes}

pub sides-tree : (servers : List ℕ) (links : ℕ → List ℕ) (hop : ℕ → ℕ → ℕ) → AreHops servers links hop → IsTreeBySizes servers links (side_size hop servers)
sides-tree servers links hop good = record {
  distinct = good.distinct;
  single = good.single;
  linked = good.linked;
  both = good.both;
  apart = good.apart;
  weighs = weighs servers links hop good;
  total = total servers links hop good;
}
