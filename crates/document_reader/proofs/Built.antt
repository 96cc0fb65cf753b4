-- Proves that one more tree that is built is the next tree of the document.
use Rattle.std.proofs.Common.{ℕ, List, [], ◌∷◌, ◌++◌}
use Rattle.base_tree.specs.Tree.{Topology}
use Rattle.document_reader.specs.Drawn.{Block}
use Rattle.document_reader.specs.Net.{AreTreesOf, IsTreeOf}

pub trees_more : (servers : ℕ) (bs : List Block) (ts : List (ℕ × Topology)) (b : Block) (t : ℕ × Topology) → AreTreesOf servers bs ts → IsTreeOf servers b t → AreTreesOf servers (bs ++ b ∷ []) (ts ++ t ∷ [])
trees_more servers [] [] b t h k = (k, tt)
trees_more servers [] (x ∷ ts) b t h k = absurd h
trees_more servers (x ∷ bs) [] b t h k = absurd h
trees_more servers (x ∷ bs) (y ∷ ts) b t h k = (h.0, trees_more servers bs ts b t h.1 k)
