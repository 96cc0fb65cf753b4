-- What the fault of an edge among earlier ones is in the list of edges.
use Rattle.std.proofs.Common.{◌≡◌, ℕ, true, false, ◌<◌, ◌↔◌, List, length, take, get_or, Option, Some, refl, sym, subst}
use Rattle.std.proofs.lemmas.Option.{slice_get-get_or}
use Rattle.base_tree.specs.Graph.{has_edge, AreJoined, IsForest, IsCount}
use Rattle.base_tree.specs.Labels.{IsFault}
use Rattle.base_tree.specs.declared.fault.EdgeFault.{EdgeFault}
use Rattle.base_tree.specs.declared.fault.EdgeFault.TheVariants.{Twice, Loop}
use Rattle.base_tree.specs.declared.fault.TreeFault.{TreeFault}
use Rattle.base_tree.specs.declared.fault.TreeFault.TheVariants as tree

module _ (n : ℕ) (edges : List (ℕ × ℕ)) (i : ℕ) (some : IsCount n) (here : i < length edges) (before : IsForest (take i edges)) where
  abbrev last : ℕ × ℕ
  last = get_or edges i (0, 0)

  twice : has_edge (take i edges) last.0 last.1 ≡ true → IsFault n edges (tree.Twice i)
  twice e = (some, record { edge = last; at = slice_get-get_or edges i (0, 0) here; before = before; same = e })

  loops : AreJoined (take i edges) last.0 last.1 × (has_edge (take i edges) last.0 last.1 ≡ false) → IsFault n edges (tree.Loop i)
  loops w = (some, record { edge = last; at = slice_get-get_or edges i (0, 0) here; before = before; joined = w.0; other = w.1 })

  pub fault-of : (answer : Option EdgeFault) (fault : EdgeFault) (found : TreeFault) → answer ≡ Some fault
      → (answer ≡ Some Twice) ↔ (has_edge (take i edges) last.0 last.1 ≡ true)
      → (answer ≡ Some Loop) ↔ (AreJoined (take i edges) last.0 last.1 × (has_edge (take i edges) last.0 last.1 ≡ false))
      → (fault ≡ Twice → found ≡ tree.Twice i) → (fault ≡ Loop → found ≡ tree.Loop i) → IsFault n edges found
  fault-of answer Twice found e t l p q = subst (IsFault n edges) (sym (p refl)) (twice (t.0 e))
  fault-of answer Loop found e t l p q = subst (IsFault n edges) (sym (q refl)) (loops (l.0 e))
