-- Lemmas on which servers a list of edges joins.
use Rattle.std.proofs.Common.{◌≡◌, ℕ, ◌==◌, Bool, true, false, ◌&&◌, ◌||◌, List, [], ◌∷◌, ◌++◌, refl, sym, subst, ◌∙◌, arith, eqb-true, eq-eqb}
use Rattle.base_tree.specs.Graph.{joins, has_edge, IsTrail, AreJoined}
use Rattle.base_tree.proofs.Truths.{Test, Yes, No, test, both-left, both-right, either-left, either-right}

or-swap : (a b : Bool) → a || b ≡ b || a
or-swap true true = refl
or-swap true false = refl
or-swap false true = refl
or-swap false false = refl

or-join : (a b c : Bool) → a || (b || c) ≡ (a || b) || c
or-join true b c = refl
or-join false b c = refl

pub has_edge-swap : (edges : List (ℕ × ℕ)) (a b : ℕ) → has_edge edges a b ≡ has_edge edges b a
has_edge-swap [] a b = refl
has_edge-swap (edge ∷ edges) a b = rw (or-swap (edge.0 == a && edge.1 == b) (edge.0 == b && edge.1 == a), has_edge-swap edges a b) refl

pub has_edge-back : (edges : List (ℕ × ℕ)) (a b : ℕ) → has_edge edges a b ≡ true → has_edge edges b a ≡ true
has_edge-back edges a b e = sym (has_edge-swap edges a b) ∙ e

-- one edge more
pub has_edge-more : (edges : List (ℕ × ℕ)) (edge : ℕ × ℕ) (a b : ℕ) → has_edge (edges ++ edge ∷ []) a b ≡ has_edge edges a b || joins edge a b
has_edge-more [] edge a b = or-swap (joins edge a b) false
has_edge-more (first ∷ edges) edge a b = rw (has_edge-more edges edge a b) (or-join (joins first a b) (has_edge edges a b) (joins edge a b))

pub has_edge-old : (edges : List (ℕ × ℕ)) (edge : ℕ × ℕ) (a b : ℕ) → has_edge edges a b ≡ true → has_edge (edges ++ edge ∷ []) a b ≡ true
has_edge-old edges edge a b e = has_edge-more edges edge a b ∙ either-left (has_edge edges a b) (joins edge a b) e

pub has_edge-new : (edges : List (ℕ × ℕ)) (edge : ℕ × ℕ) → has_edge (edges ++ edge ∷ []) edge.0 edge.1 ≡ true
has_edge-new edges edge = has_edge-more edges edge edge.0 edge.1 ∙ either-right (has_edge edges edge.0 edge.1) (joins edge edge.0 edge.1) (rw (eq-eqb edge.0 edge.0 refl, eq-eqb edge.1 edge.1 refl) refl)

-- an edge of the longer list is an old one or the last, one way or the other
pub data IsOf (edges : List (ℕ × ℕ)) (edge : ℕ × ℕ) (a b : ℕ) : Type 0 where
  Old : has_edge edges a b ≡ true → IsOf edges edge a b
  Out : a ≡ edge.0 → b ≡ edge.1 → IsOf edges edge a b
  Back : a ≡ edge.1 → b ≡ edge.0 → IsOf edges edge a b

pub split-edge : (edges : List (ℕ × ℕ)) (edge : ℕ × ℕ) (a b : ℕ) → has_edge (edges ++ edge ∷ []) a b ≡ true → IsOf edges edge a b
split-edge edges edge a b e = go (test (has_edge edges a b)) (test (edge.0 == a && edge.1 == b)) (test (edge.0 == b && edge.1 == a))
  where
    both : (p q : ℕ) → edge.0 == p && edge.1 == q ≡ true → (p ≡ edge.0) × (q ≡ edge.1)
    both p q f = (sym (eqb-true edge.0 p (both-left (edge.0 == p) (edge.1 == q) f)), sym (eqb-true edge.1 q (both-right (edge.0 == p) (edge.1 == q) f)))

    none : (x y z : Bool) → x || (y || z) ≡ true → x ≡ false → y ≡ false → z ≡ false → ⊥
    none x y z f p q r = grind (arith, f, p, q, r)

    go : Test (has_edge edges a b) → Test (edge.0 == a && edge.1 == b) → Test (edge.0 == b && edge.1 == a) → IsOf edges edge a b
    go (Yes p) y z = Old p
    go (No p) (Yes q) z = let s = both a b q in Out s.0 s.1
    go (No p) (No q) (Yes r) = let s = both b a r in Back s.1 s.0
    go (No p) (No q) (No r) = absurd (none (has_edge edges a b) (edge.0 == a && edge.1 == b) (edge.0 == b && edge.1 == a) (sym (has_edge-more edges edge a b) ∙ e) p q r)

pub joined-edge : (edges : List (ℕ × ℕ)) (a b : ℕ) → has_edge edges a b ≡ true → AreJoined edges a b
joined-edge edges a b e = (b ∷ [], (e, refl))

pub joined-same : (edges : List (ℕ × ℕ)) (a b : ℕ) → a ≡ b → AreJoined edges a b
joined-same edges a b e = ([], e)

trail-on : (edges : List (ℕ × ℕ)) (a b c : ℕ) (p q : List ℕ) → IsTrail edges a p b → IsTrail edges b q c → IsTrail edges a (p ++ q) c
trail-on edges a b c [] q s t = subst (λ z. IsTrail edges z q c) (sym s) t
trail-on edges a b c (d ∷ p) q s t = (s.0, trail-on edges d b c p q s.1 t)

pub joined-on : (edges : List (ℕ × ℕ)) (a b c : ℕ) → AreJoined edges a b → AreJoined edges b c → AreJoined edges a c
joined-on edges a b c p q = (p.0 ++ q.0, trail-on edges a b c p.0 q.0 p.1 q.1)

trail-back : (edges : List (ℕ × ℕ)) (a b : ℕ) (p : List ℕ) → IsTrail edges a p b → AreJoined edges b a
trail-back edges a b [] s = joined-same edges b a (sym s)
trail-back edges a b (c ∷ p) s = joined-on edges b c a (trail-back edges c b p s.1) (joined-edge edges c a (has_edge-back edges a c s.0))

pub joined-back : (edges : List (ℕ × ℕ)) (a b : ℕ) → AreJoined edges a b → AreJoined edges b a
joined-back edges a b p = trail-back edges a b p.0 p.1

trail-more : (edges : List (ℕ × ℕ)) (edge : ℕ × ℕ) (a b : ℕ) (p : List ℕ) → IsTrail edges a p b → IsTrail (edges ++ edge ∷ []) a p b
trail-more edges edge a b [] s = s
trail-more edges edge a b (c ∷ p) s = (has_edge-old edges edge a c s.0, trail-more edges edge c b p s.1)

pub joined-more : (edges : List (ℕ × ℕ)) (edge : ℕ × ℕ) (a b : ℕ) → AreJoined edges a b → AreJoined (edges ++ edge ∷ []) a b
joined-more edges edge a b p = (p.0, trail-more edges edge a b p.0 p.1)
