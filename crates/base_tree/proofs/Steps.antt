-- One edge more: the labels stay those of a forest.
use Rattle.std.proofs.Common.{◌≡◌, ℕ, zero, suc, ◌+◌, ◌<◌, ◌≤◌, ◌==◌, cond, List, [], ◌∷◌, ◌++◌, ◌⊎◌, inl, inr, length, take, get_or, slice_get, Option, Some, None, IfSome, IfNone, ◌≢◌, ◌↔◌, refl, sym, ap, subst, arith}
use Rattle.std.proofs.lemmas.List.{take_more}
use Rattle.std.proofs.lemmas.Option.{same_Some}
use Rattle.base_tree.specs.Graph.{AreJoined, AreWithin, IsEdgeWithin, IsForest, IsTree, IsApart}
use Rattle.base_tree.specs.Labels.{IsPartition}
use Rattle.base_tree.proofs.Forest.{In, level, labelled}
use Rattle.base_tree.proofs.Verdict.{apart-same}

-- a place in a list with one more at its end
snoc-get : {X : Type 0} (xs : List X) (x : X) (i : ℕ) (y : X) → slice_get (xs ++ x ∷ []) i ≡ Some y → ((slice_get xs i ≡ Some y) × (take i (xs ++ x ∷ []) ≡ take i xs)) ⊎ ((x ≡ y) × (take i (xs ++ x ∷ []) ≡ xs))
snoc-get [] x zero y e = inr (same_Some _ _ e, refl)
snoc-get [] x (suc i) y e = absurd cc
snoc-get (z ∷ xs) x zero y e = inl (e, refl)
snoc-get (z ∷ xs) x (suc i) y e = elim (snoc-get xs x i y e) [ inl p ↦ inl (p.0, ap (λ t. z ∷ t) p.1) | inr p ↦ inr (p.0, ap (λ t. z ∷ t) p.1) ]

forest-more : (edges : List (ℕ × ℕ)) (edge : ℕ × ℕ) → IsForest edges → (AreJoined edges edge.0 edge.1 → ⊥) → IsForest (edges ++ edge ∷ [])
forest-more edges edge f n i other at p = go (snoc-get edges edge i other at)
  where
    go : ((slice_get edges i ≡ Some other) × (take i (edges ++ edge ∷ []) ≡ take i edges)) ⊎ ((edge ≡ other) × (take i (edges ++ edge ∷ []) ≡ edges)) → ⊥
    go (inl q) = f i other q.0 (subst (λ es. AreJoined es other.0 other.1) q.1 p)
    go (inr q) = n (subst (λ z. AreJoined edges z.0 z.1) (sym q.0) (subst (λ es. AreJoined es other.0 other.1) q.1 p))

-- where the ends have one label, edges join them
pub alike-joined : (n : ℕ) (edges : List (ℕ × ℕ)) (edge : ℕ × ℕ) (labels : List ℕ) → IsEdgeWithin n edge → IsPartition n edges labels → get_or labels edge.0 0 ≡ get_or labels edge.1 0 → AreJoined edges edge.0 edge.1
alike-joined n edges edge labels ends p e = p.labelled.joined edge.0 edge.1 (ends.0, ends.1) (ends.2, ends.3) e

-- where edges join the ends, they have one label
pub joined-alike : (n : ℕ) (edges : List (ℕ × ℕ)) (edge : ℕ × ℕ) (labels : List ℕ) → IsPartition n edges labels → AreJoined edges edge.0 edge.1 → get_or labels edge.0 0 ≡ get_or labels edge.1 0
joined-alike n edges edge labels p j = level n edges (λ x. get_or labels x 0) p.labelled edge.0 edge.1 j

pub join-more : (n : ℕ) (edges : List (ℕ × ℕ)) (edge : ℕ × ℕ) (old new : List ℕ) → n ≤ 64 → IsEdgeWithin n edge → IsPartition n edges old → (get_or old edge.0 0 ≡ get_or old edge.1 0 → ⊥)
    → ((x : ℕ) → x < 65 → get_or new x 0 ≡ cond (get_or old x 0 == get_or old edge.1 0) (get_or old edge.0 0) (get_or old x 0)) → IsPartition n (edges ++ edge ∷ []) new
join-more n edges edge old new few ends p differ is = record {
  forest = forest-more edges edge p.forest (λ j. differ (joined-alike n edges edge old p j));
  labelled = labelled n edges (λ x. get_or old x 0) (λ x. get_or new x 0) p.labelled edge (ends.0, ends.1) (ends.2, ends.3) (λ x k. is x (omega (arith, k.1)));
}

-- the ends of edge i are servers
pub edge-in : (n : ℕ) (edges : List (ℕ × ℕ)) (i : ℕ) → AreWithin n edges → i < length edges → In n (get_or edges i (0, 0)).0 × In n (get_or edges i (0, 0)).1
edge-in n edges i within l = let e = within i (0, 0) l in ((e.0, e.1), (e.2, e.3))

-- where the ends of edge i have one label, earlier edges join them
pub ends-joined : (n : ℕ) (edges : List (ℕ × ℕ)) (i : ℕ) (labels : List ℕ) → AreWithin n edges → i < length edges → IsPartition n (take i edges) labels
    → get_or labels (get_or edges i (0, 0)).0 0 ≡ get_or labels (get_or edges i (0, 0)).1 0 → AreJoined (take i edges) (get_or edges i (0, 0)).0 (get_or edges i (0, 0)).1
ends-joined n edges i labels within l p e = alike-joined n (take i edges) (get_or edges i (0, 0)) labels (within i (0, 0) l) p e

pub one-more : (n : ℕ) (edges : List (ℕ × ℕ)) (i : ℕ) (old new : List ℕ) → n ≤ 64 → AreWithin n edges → i < length edges → IsPartition n (take i edges) old
    → (get_or old (get_or edges i (0, 0)).0 0 ≡ get_or old (get_or edges i (0, 0)).1 0 → ⊥)
    → ((x : ℕ) → x < 65 → get_or new x 0 ≡ cond (get_or old x 0 == get_or old (get_or edges i (0, 0)).1 0) (get_or old (get_or edges i (0, 0)).0 0) (get_or old x 0))
    → IsPartition n (take (i + 1) edges) new
one-more n edges i old new few within l p differ is = subst (λ es. IsPartition n es new) (sym (take_more edges i (0, 0) l)) (join-more n (take i edges) (get_or edges i (0, 0)) old new few (within i (0, 0) l) p differ is)

-- all servers have the label of server 1 exactly where the edges are a tree
pub alike-tree : (n : ℕ) (edges : List (ℕ × ℕ)) (labels : List ℕ) → 1 ≤ n → IsPartition n edges labels → ((x : ℕ) → 1 ≤ x → x ≤ n → get_or labels x 0 ≡ get_or labels 1 0) → IsTree n edges
alike-tree n edges labels some p alike = record { forest = p.forest; joined = λ s low high. p.labelled.joined 1 s (omega arith, some) (low, high) (sym (alike s low high)) }

pub tree-alike : (n : ℕ) (edges : List (ℕ × ℕ)) (labels : List ℕ) → IsPartition n edges labels → IsTree n edges → (s : ℕ) → 1 ≤ s → s ≤ n → get_or labels s 0 ≡ get_or labels 1 0
tree-alike n edges labels p tree s low high = sym (level n edges (λ x. get_or labels x 0) p.labelled 1 s (tree.joined s low high))

pub apart-least : (n : ℕ) (edges : List (ℕ × ℕ)) (labels : List ℕ) (s : ℕ) → 1 ≤ n → IsPartition n edges labels → 1 ≤ s → s ≤ n → (get_or labels s 0 ≡ get_or labels 1 0 → ⊥) → ((x : ℕ) → 1 ≤ x → x < s → get_or labels x 0 ≡ get_or labels 1 0) → IsApart n edges s
apart-least n edges labels s some p from to differ least = record {
  forest = p.forest;
  from = from;
  to = to;
  apart = λ j. differ (sym (level n edges (λ x. get_or labels x 0) p.labelled 1 s j));
  least = λ r low high. p.labelled.joined 1 r (omega arith, some) (low, omega arith) (sym (least r low high));
}

-- what the search for a server with another label than server 1 may answer
abbrev pub NoneUnlike : ℕ → List ℕ → Option ℕ → Type 0
NoneUnlike n labels answer = IfNone answer ((x : ℕ) → 1 ≤ x → x ≤ n → get_or labels x 0 ≡ get_or labels 1 0)

abbrev pub SomeUnlike : ℕ → List ℕ → Option ℕ → Type 0
SomeUnlike n labels answer = IfSome answer (λ s. (1 ≤ s) × (s ≤ n) × (get_or labels s 0 ≢ get_or labels 1 0) × ((x : ℕ) → 1 ≤ x → x < s → get_or labels x 0 ≡ get_or labels 1 0))

-- it answers none exactly of a tree
pub tree_answer : (n : ℕ) (edges : List (ℕ × ℕ)) (labels : List ℕ) (answer : Option ℕ) → 1 ≤ n → IsPartition n edges labels → NoneUnlike n labels answer → SomeUnlike n labels answer → (answer ≡ None) ↔ IsTree n edges
tree_answer n edges labels None some p none one = (λ e. alike-tree n edges labels some p none, λ tree. refl)
tree_answer n edges labels (Some s) some p none one = (λ e. absurd cc, λ tree. absurd (one.2 (tree-alike n edges labels p tree s one.0 one.1)))

-- and else the least server apart from server 1
pub apart_answer : (n : ℕ) (edges : List (ℕ × ℕ)) (labels : List ℕ) (answer : Option ℕ) (s : ℕ) → 1 ≤ n → IsPartition n edges labels → NoneUnlike n labels answer → SomeUnlike n labels answer → (answer ≡ Some s) ↔ IsApart n edges s
apart_answer n edges labels None s some p none one = (λ e. absurd cc, λ a. absurd (a.apart ((alike-tree n edges labels some p none).joined s a.from a.to)))
apart_answer n edges labels (Some r) s some p none one =
    let found : IsApart n edges r = apart-least n edges labels r some p one.0 one.1 one.2 one.3 in
    (λ e. let same : r ≡ s = same_Some _ _ e in subst (IsApart n edges) same found, λ a. ap Some (apart-same n edges r s found a))
