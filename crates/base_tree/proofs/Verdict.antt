-- A list of edges has at most one fault, and none if it is a tree.
use Rattle.std.proofs.Common.{◌≡◌, ℕ, zero, suc, ◌<◌, true, List, [], ◌∷◌, ◌⊎◌, ◌↔◌, inl, inr, Result, Ok, Err, take, slice_get, Some, refl, sym, ap, subst, ◌∙◌, arith}
use Rattle.std.specs.Result.{IsErrAnd}
use Rattle.std.proofs.lemmas.Option.{same_Some}
use Rattle.base_tree.specs.Graph.{has_edge, AreJoined, IsForest, IsTree, IsTwice, IsLoop, IsApart, IsCount}
use Rattle.base_tree.specs.Labels.{IsFault}
use Rattle.base_tree.specs.declared.fault.TreeFault.{TreeFault}
use Rattle.base_tree.specs.declared.fault.TreeFault.TheVariants.{TooFew, TooMany, Twice, Loop, Apart, NoMemory}
use Rattle.base_tree.proofs.Joined.{joined-edge}
use Rattle.std.proofs.lemmas.Bool.{both_ways}

-- edge i is the first whose ends are joined already
record IsBad (edges : List (ℕ × ℕ)) (i : ℕ) : Type 0 where
  edge : ℕ × ℕ
  at : slice_get edges i ≡ Some edge
  before : IsForest (take i edges)
  joined : AreJoined (take i edges) edge.0 edge.1

bad-twice : (edges : List (ℕ × ℕ)) (i : ℕ) → IsTwice edges i → IsBad edges i
bad-twice edges i t = record { edge = t.edge; at = t.at; before = t.before; joined = joined-edge (take i edges) t.edge.0 t.edge.1 t.same }

bad-loop : (edges : List (ℕ × ℕ)) (i : ℕ) → IsLoop edges i → IsBad edges i
bad-loop edges i t = record { edge = t.edge; at = t.at; before = t.before; joined = t.joined }

take-front : {X : Type 0} (xs : List X) (i j : ℕ) → i < j → (slice_get (take j xs) i ≡ slice_get xs i) × (take i (take j xs) ≡ take i xs)
take-front xs i zero l = absurd (omega arith)
take-front [] zero (suc j) l = (refl, refl)
take-front [] (suc i) (suc j) l = (refl, refl)
take-front (x ∷ xs) zero (suc j) l = (refl, refl)
take-front (x ∷ xs) (suc i) (suc j) l = let r = take-front xs i j (omega arith) in (r.0, ap (λ z. x ∷ z) r.1)

bad-whole : (edges : List (ℕ × ℕ)) (i : ℕ) → IsBad edges i → IsForest edges → ⊥
bad-whole edges i b f = f i b.edge b.at b.joined

bad-later : (edges : List (ℕ × ℕ)) (i j : ℕ) → i < j → IsBad edges i → IsBad edges j → ⊥
bad-later edges i j l b c =
    let r = take-front edges i j l in
    c.before i b.edge (r.0 ∙ b.at) (subst (λ es. AreJoined es b.edge.0 b.edge.1) (sym r.1) b.joined)

data Order (i j : ℕ) : Type 0 where
  Equal : i ≡ j → Order i j
  Before : i < j → Order i j
  After : j < i → Order i j

order : (i j : ℕ) → Order i j
order i j = go (three i j)
  where
    three : (i j : ℕ) → ((i ≡ j) ⊎ (i < j)) ⊎ (j < i)
    three i j = grind arith

    go : ((i ≡ j) ⊎ (i < j)) ⊎ (j < i) → Order i j
    go (inl (inl e)) = Equal e
    go (inl (inr l)) = Before l
    go (inr l) = After l

bad-same : (edges : List (ℕ × ℕ)) (i j : ℕ) → IsBad edges i → IsBad edges j → i ≡ j
bad-same edges i j b c = go (order i j)
  where
    go : Order i j → i ≡ j
    go (Equal e) = e
    go (Before l) = absurd (bad-later edges i j l b c)
    go (After l) = absurd (bad-later edges j i l c b)

twice-loop : (edges : List (ℕ × ℕ)) (i j : ℕ) → IsTwice edges i → IsLoop edges j → ⊥
twice-loop edges i j t u =
    let same : i ≡ j = bad-same edges i j (bad-twice edges i t) (bad-loop edges j u) in
    let edge : t.edge ≡ u.edge = same_Some _ _ (sym t.at ∙ ap (λ k. slice_get edges k) same ∙ u.at) in
    let found : has_edge (take j edges) u.edge.0 u.edge.1 ≡ true = subst (λ z. has_edge (take j edges) z.0 z.1 ≡ true) edge (subst (λ k. has_edge (take k edges) t.edge.0 t.edge.1 ≡ true) same t.same) in
    both_ways _ u.other found

pub apart-same : (n : ℕ) (edges : List (ℕ × ℕ)) (s r : ℕ) → IsApart n edges s → IsApart n edges r → s ≡ r
apart-same n edges s r a b = go (order s r)
  where
    go : Order s r → s ≡ r
    go (Equal e) = e
    go (Before l) = absurd (a.apart (b.least s a.from l))
    go (After l) = absurd (b.apart (a.least r b.from l))

pub no-fault : (n : ℕ) (edges : List (ℕ × ℕ)) (f : TreeFault) → IsCount n → IsTree n edges → IsFault n edges f → ⊥
no-fault n edges TooFew some tree h = omega (arith, h, some.0)
no-fault n edges TooMany some tree h = omega (arith, h, some.1)
no-fault n edges (Twice i) some tree h = bad-whole edges i (bad-twice edges i h.1) tree.forest
no-fault n edges (Loop i) some tree h = bad-whole edges i (bad-loop edges i h.1) tree.forest
no-fault n edges (Apart s) some tree h = h.1.apart (tree.joined s h.1.from h.1.to)
no-fault n edges NoMemory some tree h = h

few : (n : ℕ) (edges : List (ℕ × ℕ)) (f : TreeFault) → n ≡ 0 → IsFault n edges f → TooFew ≡ f
few n edges TooFew e h = refl
few n edges TooMany e h = absurd (omega (arith, h, e))
few n edges (Twice i) e h = absurd (omega (arith, h.0, e))
few n edges (Loop i) e h = absurd (omega (arith, h.0, e))
few n edges (Apart s) e h = absurd (omega (arith, h.0, e))
few n edges NoMemory e h = absurd h

many : (n : ℕ) (edges : List (ℕ × ℕ)) (f : TreeFault) → 64 < n → IsFault n edges f → TooMany ≡ f
many n edges TooFew e h = absurd (omega (arith, h, e))
many n edges TooMany e h = refl
many n edges (Twice i) e h = absurd (omega (arith, h.0, e))
many n edges (Loop i) e h = absurd (omega (arith, h.0, e))
many n edges (Apart s) e h = absurd (omega (arith, h.0, e))
many n edges NoMemory e h = absurd h

twice : (n : ℕ) (edges : List (ℕ × ℕ)) (i : ℕ) (f : TreeFault) → IsCount n × IsTwice edges i → IsFault n edges f → Twice i ≡ f
twice n edges i TooFew t h = absurd (omega (arith, h, t.0))
twice n edges i TooMany t h = absurd (omega (arith, h, t.0))
twice n edges i (Twice j) t h = ap Twice (bad-same edges i j (bad-twice edges i t.1) (bad-twice edges j h.1))
twice n edges i (Loop j) t h = absurd (twice-loop edges i j t.1 h.1)
twice n edges i (Apart s) t h = absurd (bad-whole edges i (bad-twice edges i t.1) h.1.forest)
twice n edges i NoMemory t h = absurd h

loops : (n : ℕ) (edges : List (ℕ × ℕ)) (i : ℕ) (f : TreeFault) → IsCount n × IsLoop edges i → IsFault n edges f → Loop i ≡ f
loops n edges i TooFew t h = absurd (omega (arith, h, t.0))
loops n edges i TooMany t h = absurd (omega (arith, h, t.0))
loops n edges i (Twice j) t h = absurd (twice-loop edges j i h.1 t.1)
loops n edges i (Loop j) t h = ap Loop (bad-same edges i j (bad-loop edges i t.1) (bad-loop edges j h.1))
loops n edges i (Apart s) t h = absurd (bad-whole edges i (bad-loop edges i t.1) h.1.forest)
loops n edges i NoMemory t h = absurd h

aparts : (n : ℕ) (edges : List (ℕ × ℕ)) (s : ℕ) (f : TreeFault) → IsCount n × IsApart n edges s → IsFault n edges f → Apart s ≡ f
aparts n edges s TooFew t h = absurd (omega (arith, h, t.0))
aparts n edges s TooMany t h = absurd (omega (arith, h, t.0))
aparts n edges s (Twice j) t h = absurd (bad-whole edges j (bad-twice edges j h.1) t.1.forest)
aparts n edges s (Loop j) t h = absurd (bad-whole edges j (bad-loop edges j h.1) t.1.forest)
aparts n edges s (Apart r) t h = ap Apart (apart-same n edges s r t.1 h.1)
aparts n edges s NoMemory t h = absurd h

pub one-fault : (n : ℕ) (edges : List (ℕ × ℕ)) (f g : TreeFault) → IsFault n edges f → IsFault n edges g → f ≡ g
one-fault n edges TooFew g h k = few n edges g h k
one-fault n edges TooMany g h k = many n edges g h k
one-fault n edges (Twice i) g h k = twice n edges i g h k
one-fault n edges (Loop i) g h k = loops n edges i g h k
one-fault n edges (Apart s) g h k = aparts n edges s g h k
one-fault n edges NoMemory g h k = absurd h

unerr : {A : Type 0} (r : Result A TreeFault) (f g : TreeFault) → r ≡ Err f → r ≡ Err g → f ≡ g
unerr r f g p q = cc

-- a fault that was found is the one
pub found : (A : Type 0) (n : ℕ) (edges : List (ℕ × ℕ)) (f g : TreeFault) (r : Result A TreeFault) → r ≡ Err f → IsFault n edges f → (r ≡ Err g) ↔ IsFault n edges g
found A n edges f g r q h = ((λ e. subst (IsFault n edges) (unerr r f g q e) h), (λ k. q ∙ ap Err (one-fault n edges f g h k)))

-- a tree has no fault
pub none : (A : Type 0) (n : ℕ) (edges : List (ℕ × ℕ)) (t : A) (g : TreeFault) (r : Result A TreeFault) → r ≡ Ok t → IsCount n → IsTree n edges → (r ≡ Err g) ↔ IsFault n edges g
none A n edges t g r q some tree = ((λ e. absurd (apart r q e)), (λ k. absurd (no-fault n edges g some tree k)))
  where
    apart : (r : Result A TreeFault) → r ≡ Ok t → r ≡ Err g → ⊥
    apart r p e = cc

-- out of memory is answered for a tree alone
pub wanting : (A : Type 0) (n : ℕ) (edges : List (ℕ × ℕ)) (g : TreeFault) (r : Result A TreeFault) → IsErrAnd r (λ e. e ≡ NoMemory) → (NoMemory ≡ g → ⊥) → IsCount n → IsTree n edges → (r ≡ Err g) ↔ IsFault n edges g
wanting A n edges g (Ok x) h m some tree = absurd h
wanting A n edges g (Err f) h m some tree = ((λ e. absurd (m (sym h ∙ unerr (Err f) f g refl e))), (λ k. absurd (no-fault n edges g some tree k)))
