-- The test of joined servers tells where edges lead.
use Rattle.std.proofs.Common.{◌≡◌, ◌↔◌, ℕ, zero, suc, ◌+◌, ◌<◌, ◌≤◌, ◌==◌, Bool, true, false, cond, not, ◌&&◌, ◌||◌, List, [], ◌∷◌, refl, sym, subst, ◌∙◌, arith, eqb-true, eq-eqb, Option, Some, None}
use Rattle.std.specs.List.{list_all, range_with_len}
use Rattle.std.specs.Option.{is_some}
use Rattle.base_tree.specs.Labels.{AreLabelsOf, ServerLabels}
use Rattle.base_tree.specs.Graph.{joins, has_edge, IsTrail, AreJoined, IsForest, IsTree, IsApart, servers_to}
use Rattle.base_tree.specs.declared.fault.EdgeFault.{EdgeFault}
use Rattle.base_tree.specs.declared.fault.EdgeFault.TheVariants.{Twice, Loop}
use Rattle.base_tree.proofs.Truths.{Test, Yes, No, test, both-left, both-right, either-right}
use Rattle.base_tree.proofs.Joined.{joined-on, joined-edge as trail-edge, joined-same}
use Rattle.document_reader.specs.Drawn.{Drawn, edge_fault, is_apart, are_joined}
use Rattle.std.proofs.lemmas.Bool.{both_ways, true_from_ne_false}

-- A test.

pub joined-self : (edges : List (ℕ × ℕ)) (a : ℕ) → are_joined edges a a ≡ true
joined-self [] a = eq-eqb a a refl
joined-self (edge ∷ edges) a = rw (joined-self edges a) refl

-- ways from a to b: without the first edge, or over it one way or the other
data Way (edges : List (ℕ × ℕ)) (edge : ℕ × ℕ) (a b : ℕ) : Type 0 where
  Without : are_joined edges a b ≡ true → Way edges edge a b
  Out : are_joined edges a edge.0 ≡ true → are_joined edges edge.1 b ≡ true → Way edges edge a b
  Back : are_joined edges a edge.1 ≡ true → are_joined edges edge.0 b ≡ true → Way edges edge a b

none : (x y z : Bool) → x || (y || z) ≡ true → x ≡ false → y ≡ false → z ≡ false → ⊥
none x y z f p q r = grind (arith, f, p, q, r)

way : (edges : List (ℕ × ℕ)) (edge : ℕ × ℕ) (a b : ℕ) → are_joined (edge ∷ edges) a b ≡ true → Way edges edge a b
way edges edge a b e = go (test (are_joined edges a b)) (test (are_joined edges a edge.0 && are_joined edges edge.1 b)) (test (are_joined edges a edge.1 && are_joined edges edge.0 b))
  where
    go : Test (are_joined edges a b) → Test (are_joined edges a edge.0 && are_joined edges edge.1 b) → Test (are_joined edges a edge.1 && are_joined edges edge.0 b) → Way edges edge a b
    go (Yes p) y z = Without p
    go (No p) (Yes q) z = Out (both-left (are_joined edges a edge.0) (are_joined edges edge.1 b) q) (both-right (are_joined edges a edge.0) (are_joined edges edge.1 b) q)
    go (No p) (No q) (Yes r) = Back (both-left (are_joined edges a edge.1) (are_joined edges edge.0 b) r) (both-right (are_joined edges a edge.1) (are_joined edges edge.0 b) r)
    go (No p) (No q) (No r) = absurd (none (are_joined edges a b) (are_joined edges a edge.0 && are_joined edges edge.1 b) (are_joined edges a edge.1 && are_joined edges edge.0 b) e p q r)

first-one : (x y z : Bool) → x ≡ true → x || (y || z) ≡ true
first-one x y z e = rw e refl

second-one : (x y z w : Bool) → y ≡ true → z ≡ true → x || ((y && z) || w) ≡ true
second-one true y z w e f = refl
second-one false y z w e f = rw (e, f) refl

third-one : (x y z w : Bool) → z ≡ true → w ≡ true → x || (y || (z && w)) ≡ true
third-one true y z w e f = refl
third-one false true z w e f = refl
third-one false false z w e f = rw (e, f) refl

unway : (edges : List (ℕ × ℕ)) (edge : ℕ × ℕ) (a b : ℕ) → Way edges edge a b → are_joined (edge ∷ edges) a b ≡ true
unway edges edge a b (Without p) = first-one (are_joined edges a b) (are_joined edges a edge.0 && are_joined edges edge.1 b) (are_joined edges a edge.1 && are_joined edges edge.0 b) p
unway edges edge a b (Out p q) = second-one (are_joined edges a b) (are_joined edges a edge.0) (are_joined edges edge.1 b) (are_joined edges a edge.1 && are_joined edges edge.0 b) p q
unway edges edge a b (Back p q) = third-one (are_joined edges a b) (are_joined edges a edge.0 && are_joined edges edge.1 b) (are_joined edges a edge.1) (are_joined edges edge.0 b) p q

pub joined-chain : (edges : List (ℕ × ℕ)) (a b c : ℕ) → are_joined edges a b ≡ true → are_joined edges b c ≡ true → are_joined edges a c ≡ true
joined-chain [] a b c p q = eq-eqb a c (eqb-true a b p ∙ eqb-true b c q)
joined-chain (edge ∷ edges) a b c p q = unway edges edge a c (go (λ x y z r s. joined-chain edges x y z r s) (way edges edge a b p) (way edges edge b c q))
  where
    go : ((x y z : ℕ) → are_joined edges x y ≡ true → are_joined edges y z ≡ true → are_joined edges x z ≡ true) → Way edges edge a b → Way edges edge b c → Way edges edge a c
    go on (Without r) (Without s) = Without (on a b c r s)
    go on (Without r) (Out s t) = Out (on a b edge.0 r s) t
    go on (Without r) (Back s t) = Back (on a b edge.1 r s) t
    go on (Out r s) (Without t) = Out r (on edge.1 b c s t)
    go on (Out r s) (Out t u) = Out r u
    go on (Out r s) (Back t u) = Without (on a edge.0 c r u)
    go on (Back r s) (Without t) = Back r (on edge.0 b c s t)
    go on (Back r s) (Out t u) = Without (on a edge.1 c r u)
    go on (Back r s) (Back t u) = Back r u

pub joined-edge : (edges : List (ℕ × ℕ)) (a b : ℕ) → has_edge edges a b ≡ true → are_joined edges a b ≡ true
joined-edge [] a b e = cc
joined-edge (edge ∷ edges) a b e = unway edges edge a b (go (λ r. joined-edge edges a b r) (test (edge.0 == a && edge.1 == b)) (test (edge.0 == b && edge.1 == a)) (test (has_edge edges a b)))
  where
    same : (x y : ℕ) → x ≡ y → are_joined edges x y ≡ true
    same x y f = subst (λ z. are_joined edges x z ≡ true) f (joined-self edges x)

    both : (p q : ℕ) → edge.0 == p && edge.1 == q ≡ true → (edge.0 ≡ p) × (edge.1 ≡ q)
    both p q f = (eqb-true edge.0 p (both-left (edge.0 == p) (edge.1 == q) f), eqb-true edge.1 q (both-right (edge.0 == p) (edge.1 == q) f))

    nowhere : (x y z : Bool) → (x || y) || z ≡ true → x ≡ false → y ≡ false → z ≡ false → ⊥
    nowhere x y z f p q r = grind (arith, f, p, q, r)

    go : (has_edge edges a b ≡ true → are_joined edges a b ≡ true) → Test (edge.0 == a && edge.1 == b) → Test (edge.0 == b && edge.1 == a) → Test (has_edge edges a b) → Way edges edge a b
    go more (Yes p) y z = let s = both a b p in Out (same a edge.0 (sym s.0)) (same edge.1 b s.1)
    go more (No p) (Yes q) z = let s = both b a q in Back (same a edge.1 (sym s.1)) (same edge.0 b s.0)
    go more (No p) (No q) (Yes r) = Without (more r)
    go more (No p) (No q) (No r) = absurd (nowhere (edge.0 == a && edge.1 == b) (edge.0 == b && edge.1 == a) (has_edge edges a b) e p q r)

-- Trails.

trail_tested : (edges : List (ℕ × ℕ)) (a b : ℕ) (trail : List ℕ) → IsTrail edges a trail b → are_joined edges a b ≡ true
trail_tested edges a b [] t = subst (λ z. are_joined edges a z ≡ true) t (joined-self edges a)
trail_tested edges a b (c ∷ trail) t = joined-chain edges a c b (joined-edge edges a c t.0) (trail_tested edges c b trail t.1)

pub tested : (edges : List (ℕ × ℕ)) (a b : ℕ) → AreJoined edges a b → are_joined edges a b ≡ true
tested edges a b j = trail_tested edges a b j.0 j.1

-- an edge in front
has-old : (edge : ℕ × ℕ) (edges : List (ℕ × ℕ)) (a b : ℕ) → has_edge edges a b ≡ true → has_edge (edge ∷ edges) a b ≡ true
has-old edge edges a b e = either-right (joins edge a b) (has_edge edges a b) e

has-first : (edge : ℕ × ℕ) (edges : List (ℕ × ℕ)) → has_edge (edge ∷ edges) edge.0 edge.1 ≡ true
has-first edge edges = rw (eq-eqb edge.0 edge.0 refl, eq-eqb edge.1 edge.1 refl) refl

or-yes : (x y z : Bool) → y ≡ true → (x || y) || z ≡ true
or-yes true y z e = refl
or-yes false y z e = rw e refl

has-back : (edge : ℕ × ℕ) (edges : List (ℕ × ℕ)) → has_edge (edge ∷ edges) edge.1 edge.0 ≡ true
has-back edge edges = or-yes (edge.0 == edge.1 && edge.1 == edge.0) (edge.0 == edge.0 && edge.1 == edge.1) (has_edge edges edge.1 edge.0) (rw (eq-eqb edge.0 edge.0 refl, eq-eqb edge.1 edge.1 refl) refl)

trail-old : (edge : ℕ × ℕ) (edges : List (ℕ × ℕ)) (a b : ℕ) (trail : List ℕ) → IsTrail edges a trail b → IsTrail (edge ∷ edges) a trail b
trail-old edge edges a b [] t = t
trail-old edge edges a b (c ∷ trail) t = (has-old edge edges a c t.0, trail-old edge edges c b trail t.1)

old : (edge : ℕ × ℕ) (edges : List (ℕ × ℕ)) (a b : ℕ) → AreJoined edges a b → AreJoined (edge ∷ edges) a b
old edge edges a b j = (j.0, trail-old edge edges a b j.0 j.1)

pub told : (edges : List (ℕ × ℕ)) (a b : ℕ) → are_joined edges a b ≡ true → AreJoined edges a b
told [] a b e = joined-same [] a b (eqb-true a b e)
told (edge ∷ edges) a b e = go (λ x y f. old edge edges x y (told edges x y f)) (way edges edge a b e)
  where
    over : (x y : ℕ) → has_edge (edge ∷ edges) x y ≡ true → AreJoined (edge ∷ edges) a x → AreJoined (edge ∷ edges) y b → AreJoined (edge ∷ edges) a b
    over x y h p q = joined-on (edge ∷ edges) a x b p (joined-on (edge ∷ edges) x y b (trail-edge (edge ∷ edges) x y h) q)

    go : ((x y : ℕ) → are_joined edges x y ≡ true → AreJoined (edge ∷ edges) x y) → Way edges edge a b → AreJoined (edge ∷ edges) a b
    go on (Without p) = on a b p
    go on (Out p q) = over edge.0 edge.1 (has-first edge edges) (on a edge.0 p) (on edge.1 b q)
    go on (Back p q) = over edge.1 edge.0 (has-back edge edges) (on a edge.1 p) (on edge.0 b q)

-- The fault of an edge.

fault_by : (h j : Bool) (r : Option EdgeFault) → (r ≡ Some Twice → h ≡ true) → (h ≡ true → r ≡ Some Twice) → (r ≡ Some Loop → (j ≡ true) × (h ≡ false)) → (j ≡ true → h ≡ false → r ≡ Some Loop) → r ≡ cond h (Some Twice) (cond j (Some Loop) None)
fault_by true j r a b c d = b refl
fault_by false true r a b c d = d refl refl
fault_by false false None a b c d = refl
fault_by false false (Some Twice) a b c d = let e = a refl in cc
fault_by false false (Some Loop) a b c d = let e = (c refl).0 in cc

pub fault_told : (edges : List (ℕ × ℕ)) (e : ℕ × ℕ) (r : Option EdgeFault) → (r ≡ Some Twice) ↔ (has_edge edges e.0 e.1 ≡ true) → (r ≡ Some Loop) ↔ (AreJoined edges e.0 e.1 × (has_edge edges e.0 e.1 ≡ false)) → r ≡ edge_fault edges e
unfolding edge_fault
fault_told edges e r t l = fault_by (has_edge edges e.0 e.1) (are_joined edges e.0 e.1) r t.0 t.1 (λ x. let y = l.0 x in (tested edges e.0 e.1 y.0, y.1)) (λ x y. l.1 (told edges e.0 e.1 x, y))

-- All servers.

first_or_later : (a x : ℕ) → a ≤ x → (x ≡ a → ⊥) → a + 1 ≤ x
first_or_later a x l n = omega arith

all_of : (p : ℕ → Bool) (k n : ℕ) → ((s : ℕ) → k ≤ s → s < k + n → p s ≡ true) → list_all p (range_with_len k n) ≡ true
all_of p k zero h = refl
all_of p k (suc n) h = rw (h k (omega arith) (omega arith), all_of p (k + 1) n (λ s a b. h s (omega arith) (omega arith))) refl

of_all : (p : ℕ → Bool) (k n : ℕ) → list_all p (range_with_len k n) ≡ true → (s : ℕ) → k ≤ s → s < k + n → p s ≡ true
of_all p k zero h s a b = absurd (omega arith)
of_all p k (suc n) h s a b = go (test (s == k)) (λ l. of_all p (k + 1) n (both-right (p k) (list_all p (range_with_len (k + 1) n)) h) s l (omega arith))
  where
    go : Test (s == k) → (k + 1 ≤ s → p s ≡ true) → p s ≡ true
    go (Yes e) later = subst (λ z. p z ≡ true) (sym (eqb-true s k e)) (both-left (p k) (list_all p (range_with_len (k + 1) n)) h)
    go (No e) later = later (first_or_later k s a (λ q. both_ways _ e (eq-eqb s k q)))

not-true : (b : Bool) → b ≡ true → not b ≡ false
not-true b e = rw e refl

not-false : (b : Bool) → not b ≡ false → b ≡ true
not-false true e = refl
not-false false e = cc

pub whole_is_not_apart : (d : Drawn) → IsTree d.servers d.edges → is_apart d ≡ false
unfolding is_apart
whole_is_not_apart d t = not-true (list_all (are_joined d.edges 1) (servers_to d.servers)) (all_of (are_joined d.edges 1) 1 d.servers (λ s a b. tested d.edges 1 s (t.joined s a (omega arith))))

pub not_apart_is_whole : (d : Drawn) → IsForest d.edges → is_apart d ≡ false → IsTree d.servers d.edges
unfolding is_apart
not_apart_is_whole d f e = record { forest = f; joined = λ s a b. told d.edges 1 s (of_all (are_joined d.edges 1) 1 d.servers (not-false (list_all (are_joined d.edges 1) (servers_to d.servers)) e) s a (omega arith)) }

pub apart_is_told : (d : Drawn) (s : ℕ) → IsApart d.servers d.edges s → is_apart d ≡ true
apart_is_told d s a = true_from_ne_false (is_apart d) (λ e. a.apart ((not_apart_is_whole d a.forest e).joined s a.from a.to))

pub none_is_not_apart : (d : Drawn) → d.servers ≡ 0 → is_apart d ≡ false
unfolding is_apart
none_is_not_apart d e = rw e refl

-- what the labels tell of the edges that they are of
pub apart_tested : (d : Drawn) (labels : ServerLabels) (r : Option ℕ) (b : Bool) → labels.count ≡ d.servers → AreLabelsOf d.edges labels
    → ((edges : List (ℕ × ℕ)) → AreLabelsOf edges labels → (r ≡ None) ↔ IsTree labels.count edges)
    → ((edges : List (ℕ × ℕ)) → AreLabelsOf edges labels → (s : ℕ) → (r ≡ Some s) ↔ IsApart labels.count edges s) → b ≡ is_some r → b ≡ is_apart d
apart_tested d labels None b count are none some e =
    e ∙ sym (whole_is_not_apart d (subst (λ (n : ℕ). IsTree n d.edges) count ((none d.edges are).0 refl)))
apart_tested d labels (Some s) b count are none some e =
    e ∙ sym (apart_is_told d s (subst (λ (n : ℕ). IsApart n d.edges s) count ((some d.edges are s).0 refl)))
