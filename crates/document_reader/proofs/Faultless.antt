-- Where servers and edges are a tree, building it fails for lack of memory alone.
use Rattle.std.proofs.Common.{◌≡◌, ℕ, ◌<◌, List, arith, refl, Result, Err}
use Rattle.base_tree.specs.Graph.{IsApart, IsCount, IsLoop, IsTree, IsTwice}
use Rattle.base_tree.specs.Tree.{Topology}
use Rattle.base_tree.specs.declared.fault.TreeFault.{TreeFault}
use Rattle.base_tree.specs.declared.fault.TreeFault.TheVariants.{TooFew, TooMany, Twice, Loop, Apart, NoMemory}
use Rattle.base_tree.proofs.Joined.{joined-edge}

-- what an answer tells of the edges
pub record Tells (n : ℕ) (edges : List (ℕ × ℕ)) (r : Result Topology TreeFault) : Type 0 where
  pub few : r ≡ Err TooFew → n ≡ 0
  pub many : r ≡ Err TooMany → 64 < n
  pub twice : (i : ℕ) → r ≡ Err (Twice i) → IsCount n × IsTwice edges i
  pub loops : (i : ℕ) → r ≡ Err (Loop i) → IsCount n × IsLoop edges i
  pub apart : (s : ℕ) → r ≡ Err (Apart s) → IsCount n × IsApart n edges s

no_twice : (n : ℕ) (edges : List (ℕ × ℕ)) (i : ℕ) → IsTree n edges → IsTwice edges i → ⊥
no_twice n edges i t h = t.forest i h.edge h.at (joined-edge _ _ _ h.same)

no_loop : (n : ℕ) (edges : List (ℕ × ℕ)) (i : ℕ) → IsTree n edges → IsLoop edges i → ⊥
no_loop n edges i t h = t.forest i h.edge h.at h.joined

none_apart : (n : ℕ) (edges : List (ℕ × ℕ)) (s : ℕ) → IsTree n edges → IsApart n edges s → ⊥
none_apart n edges s t h = h.apart (t.joined s h.from h.to)

pub only_memory : (n : ℕ) (edges : List (ℕ × ℕ)) (r : Result Topology TreeFault) (f : TreeFault) → IsCount n → IsTree n edges → Tells n edges r → r ≡ Err f → f ≡ NoMemory
only_memory n edges r TooFew c t h e = absurd (omega (arith, h.few e, c.0))
only_memory n edges r TooMany c t h e = absurd (omega (arith, h.many e, c.1))
only_memory n edges r (Twice i) c t h e = absurd (no_twice n edges i t (h.twice i e).1)
only_memory n edges r (Loop i) c t h e = absurd (no_loop n edges i t (h.loops i e).1)
only_memory n edges r (Apart s) c t h e = absurd (none_apart n edges s t (h.apart s e).1)
only_memory n edges r NoMemory c t h e = refl
