-- The edges of a tree of servers, each once, are a tree, whose neighbours are those of the tree.
use Rattle.std.proofs.Common.{◌≡◌, ℕ, zero, suc, ◌+◌, ◌<◌, ◌≤◌, ◌==◌, Bool, true, false, ◌&&◌, ◌||◌, List, [], ◌∷◌, ◌++◌, ◌⊎◌, inl, inr, map, filter, refl, sym, ap, subst, arith, nat_lt, nat_le, eq-eqb, eqb-true}
use Rattle.std.specs.List.{flat_map, range_with_len}
use Rattle.std.proofs.lemmas.Bool.Decides.{nat_tests}
use Rattle.base.specs.Laws.{CoverLaws}
use Rattle.base.specs.Sets.{Has, IsRising}
use Rattle.base.proofs.Roots.{Has-filter, filter-Has}
use Rattle.base.proofs.Sets.{rising-filter, ext, has-append, has-append-left, has-append-right, range-rises}
use Rattle.base_tree.specs.Graph.{joins, has_edge, IsTrail, AreJoined, neighbours_by}
use Rattle.base_tree.specs.Tree.{Topology, TreeLaws, servers_of, links_of, hop_of, IsWay, NeverTurnsBack, IsPath}
use Rattle.base_tree.proofs.Truths.{both-left, both-right, Test, Yes, No, test, either-left, either-right}
use Rattle.base_tree.proofs.Joined.{has_edge-back}
use Rattle.base_tree.proofs.Paths.{sides}
use Rattle.base_tree.proofs.Servers.{server-in, in-server, rising-neighbours}
use Rattle.document_format.specs.Edges.{edges_at, edges_of}
use Rattle.base.proofs.Numbers.{nat_lt-true, lt-nat_lt}
use Rattle.std.proofs.lemmas.Bool.{both_ways}

numbers : CoverLaws nat_le nat_lt
numbers = record { reflexive = λ x. grind (arith, nat_tests); transitive = λ x y z e f. grind (arith, nat_tests, e, f); irreflexive = λ x. grind (arith, nat_tests); chain = λ x y z e f. grind (arith, nat_tests, e, f); total = λ x y e f. grind (arith, nat_tests, e, f) }

-- Members.

-- an edge from a lesser server to one of its neighbours
record IsEdgeOf (tree : Topology) (e : ℕ × ℕ) : Type 0 where
  pub near : Has e.1 (links_of tree e.0)
  pub less : e.0 < e.1

at-has : (a : ℕ) (bs : List ℕ) (e : ℕ × ℕ) → Has e (map (λ (b : ℕ). (a, b)) bs) → (e.0 ≡ a) × Has e.1 bs
at-has a [] e h = absurd h
at-has a (b ∷ bs) e (inl q) = (ap (λ (z : ℕ × ℕ). z.0) q, inl (ap (λ (z : ℕ × ℕ). z.1) q))
at-has a (b ∷ bs) e (inr h) = let r = at-has a bs e h in (r.0, inr r.1)

abbrev pair : ℕ → ℕ → ℕ × ℕ
pair a b = (a, b)

has-at : (a b : ℕ) (bs : List ℕ) → Has b bs → Has {T = ℕ × ℕ} (a, b) (map (λ (x : ℕ). (a, x)) bs)
has-at a b [] h = absurd h
has-at a b (c ∷ bs) (inl q) = inl (ap (λ (z : ℕ). pair a z) q)
has-at a b (c ∷ bs) (inr h) = inr (has-at a b bs h)

edges-are : (tree : Topology) (cs : List ℕ) (e : ℕ × ℕ) → Has e (flat_map (edges_at tree) cs) → IsEdgeOf tree e × Has e.0 cs
edges-are tree [] e h = absurd h
edges-are tree (a ∷ cs) e h =
    elim (has-append e (edges_at tree a) (flat_map (edges_at tree) cs) h) [
      | inl k ↦ (let r = at-has a (filter (nat_lt a) (links_of tree a)) e k in
          let f = filter-Has (nat_lt a) e.1 (links_of tree a) r.1 in
          (record { near = subst (λ (z : ℕ). Has e.1 (links_of tree z)) (sym r.0) f.0; less = subst (λ (z : ℕ). z < e.1) (sym r.0) (nat_lt-true a e.1 f.1) }, inl r.0))
      | inr k ↦ (let r = edges-are tree cs e k in (r.0, inr r.1))
    ]

are-edges : (tree : Topology) (cs : List ℕ) (a b : ℕ) → Has a cs → Has b (links_of tree a) → a < b → Has (a, b) (flat_map (edges_at tree) cs)
are-edges tree [] a b h n l = absurd h
are-edges tree (c ∷ cs) a b (inl q) n l =
    has-append-left (a, b) (edges_at tree c) (flat_map (edges_at tree) cs)
    (subst (λ (z : ℕ). Has (a, b) (edges_at tree z)) q (has-at a b (filter (nat_lt a) (links_of tree a)) (Has-filter (nat_lt a) b (links_of tree a) n (lt-nat_lt a b l))))
are-edges tree (c ∷ cs) a b (inr h) n l = has-append-right (a, b) (edges_at tree c) (flat_map (edges_at tree) cs) (are-edges tree cs a b h n l)

-- Order.

-- an edge stands before another: by its lesser end, then by its greater one
abbrev Before : ℕ × ℕ → ℕ × ℕ → Type 0
Before e f = (e.0 < f.0) ⊎ ((e.0 ≡ f.0) × (e.1 < f.1))

abbrev Ordered : List (ℕ × ℕ) → Type 0
Ordered [] = Unit {0}
Ordered (e ∷ es) = ((f : ℕ × ℕ) → Has f es → Before e f) × Ordered es

ordered-append : (xs ys : List (ℕ × ℕ)) → Ordered xs → Ordered ys → ((e f : ℕ × ℕ) → Has e xs → Has f ys → Before e f) → Ordered (xs ++ ys)
ordered-append [] ys o p k = p
ordered-append (x ∷ xs) ys o p k = ((λ f h. elim (has-append f xs ys h) [ inl m ↦ o.0 f m | inr m ↦ k x f (inl refl) m ]), ordered-append xs ys o.1 p (λ e f h m. k e f (inr h) m))

ordered-at : (a : ℕ) (bs : List ℕ) → IsRising nat_lt bs → Ordered (map (λ (b : ℕ). (a, b)) bs)
ordered-at a [] r = tt
ordered-at a (b ∷ bs) r = ((λ f h. let m = at-has a bs f h in inr (sym m.0, nat_lt-true b f.1 (r.0 f.1 m.1))), ordered-at a bs r.1)

ordered-edges : (tree : Topology) (cs : List ℕ) → ((a : ℕ) → IsRising nat_lt (links_of tree a)) → IsRising nat_lt cs → Ordered (flat_map (edges_at tree) cs)
ordered-edges tree [] rising r = tt
ordered-edges tree (a ∷ cs) rising r =
    ordered-append (edges_at tree a) (flat_map (edges_at tree) cs) (ordered-at a (filter (nat_lt a) (links_of tree a)) (rising-filter numbers (nat_lt a) (links_of tree a) (rising a))) (ordered-edges tree cs rising r.1)
    (λ e f h m. let x = at-has a (filter (nat_lt a) (links_of tree a)) e h in let y = edges-are tree cs f m in inl (subst (λ (z : ℕ). z < f.0) (sym x.0) (nat_lt-true a f.0 (r.0 f.0 y.1))))

-- Joining.

joins-is : (e : ℕ × ℕ) (a b : ℕ) → joins e a b ≡ true → (e ≡ (a, b)) ⊎ (e ≡ (b, a))
joins-is e a b h = go (test (e.0 == a && e.1 == b)) (test (e.0 == b && e.1 == a))
  where
    pair : (p q : ℕ) → e.0 == p && e.1 == q ≡ true → e ≡ (p, q)
    pair p q f =
        let x = eqb-true e.0 p (both-left (e.0 == p) (e.1 == q) f) in
        let y = eqb-true e.1 q (both-right (e.0 == p) (e.1 == q) f) in λ i. (x i, y i)

    none : (x y : Bool) → x || y ≡ true → x ≡ false → y ≡ false → ⊥
    none x y f p q = grind (arith, f, p, q)

    go : Test (e.0 == a && e.1 == b) → Test (e.0 == b && e.1 == a) → (e ≡ (a, b)) ⊎ (e ≡ (b, a))
    go (Yes p) y = inl (pair a b p)
    go (No p) (Yes q) = inr (pair b a q)
    go (No p) (No q) = absurd (none (e.0 == a && e.1 == b) (e.0 == b && e.1 == a) h p q)

or-split : (x y : Bool) → x || y ≡ true → (x ≡ true) ⊎ (y ≡ true)
or-split true y e = inl refl
or-split false y e = inr e

edge-has : (es : List (ℕ × ℕ)) (a b : ℕ) → has_edge es a b ≡ true → (e : ℕ × ℕ) × Has e es × (joins e a b ≡ true)
edge-has [] a b h = absurd cc
edge-has (e ∷ es) a b h =
    elim (or-split (joins e a b) (has_edge es a b) h) [
      | inl k ↦ (e, inl refl, k)
      | inr k ↦ (let r = edge-has es a b k in (r.0, inr r.1, r.2))
    ]

has-edge : (es : List (ℕ × ℕ)) (a b : ℕ) → Has (a, b) es → has_edge es a b ≡ true
has-edge [] a b h = absurd h
has-edge (e ∷ es) a b (inl q) = either-left (joins e a b) (has_edge es a b) (subst (λ (z : ℕ × ℕ). joins z a b ≡ true) q (either-left (a == a && b == b) (a == b && b == a) (rw (eq-eqb a a refl, eq-eqb b b refl) refl)))
has-edge (e ∷ es) a b (inr h) = either-right (joins e a b) (has_edge es a b) (has-edge es a b h)

-- what lies between numbers
data Compared (a b : ℕ) : Type 0 where
  Less : a < b → Compared a b
  Same : a ≡ b → Compared a b
  More : b < a → Compared a b

compared : (a b : ℕ) → Compared a b
compared zero zero = Same refl
compared zero (suc b) = Less (omega arith)
compared (suc a) zero = More (omega arith)
compared (suc a) (suc b) = elim (compared a b) [ Less l ↦ Less (omega arith) | Same e ↦ Same (ap suc e) | More l ↦ More (omega arith) ]

-- a way that never turns back behind its first step
abbrev IsStraight : ℕ → List ℕ → Type 0
IsStraight a [] = Unit {0}
IsStraight a (c ∷ way) = NeverTurnsBack a c way

loosened : (c d : ℕ) (way : List ℕ) → NeverTurnsBack c d way → IsStraight d way
loosened c d [] n = tt
loosened c d (x ∷ way) n = n.1

-- where a trail leads a straight one leads
straight : (es : List (ℕ × ℕ)) (a b : ℕ) (trail : List ℕ) → IsTrail es a trail b → (way : List ℕ) × IsTrail es a way b × IsStraight a way
straight es a b [] t = ([], t, tt)
straight es a b (c ∷ trail) t = go (straight es c b trail t.1)
  where
    turned : (d : ℕ) (way : List ℕ) → IsTrail es c (d ∷ way) b → IsStraight c (d ∷ way) → Test (d == a) → (w : List ℕ) × IsTrail es a w b × IsStraight a w
    turned d way u s (Yes e) = let q = eqb-true d a e in (way, subst (λ (z : ℕ). IsTrail es z way b) q u.1, subst (λ (z : ℕ). IsStraight z way) q (loosened c d way s))
    turned d way u s (No e) = (c ∷ d ∷ way, (t.0, u), ((λ q. differs d a q e), s))
      where
        differs : (x y : ℕ) → x ≡ y → (x == y) ≡ false → ⊥
        differs x y q f = let g = eq-eqb x y q in cc

    go : ((way : List ℕ) × IsTrail es c way b × IsStraight c way) → (w : List ℕ) × IsTrail es a w b × IsStraight a w
    go ([], u, s) = (c ∷ [], (t.0, u), tt)
    go ((d ∷ way), u, s) = turned d way u s (test (d == a))

abbrev tail-of : List ℕ → List ℕ
tail-of [] = []
tail-of (x ∷ xs) = xs

edge-left : (xs ys : List (ℕ × ℕ)) (a b : ℕ) → has_edge xs a b ≡ true → has_edge (xs ++ ys) a b ≡ true
edge-left [] ys a b h = absurd cc
edge-left (e ∷ xs) ys a b h =
    elim (or-split (joins e a b) (has_edge xs a b) h) [
      | inl k ↦ either-left (joins e a b) (has_edge (xs ++ ys) a b) k
      | inr k ↦ either-right (joins e a b) (has_edge (xs ++ ys) a b) (edge-left xs ys a b k)
    ]

ordered-before : (done rest : List (ℕ × ℕ)) (e z : ℕ × ℕ) → Ordered (done ++ e ∷ rest) → Has z done → Before z e
ordered-before [] rest e z o h = absurd h
ordered-before (d ∷ done) rest e z o (inl q) = subst (λ (y : ℕ × ℕ). Before y e) (sym q) (o.0 e (has-append-right e done (e ∷ rest) (inl refl)))
ordered-before (d ∷ done) rest e z o (inr h) = ordered-before done rest e z o.1 h

not-before : (e : ℕ × ℕ) → Before e e → ⊥
not-before e (inl l) = omega (arith, l)
not-before e (inr l) = omega (arith, l.1)

no-edge : (done : List (ℕ × ℕ)) (e : ℕ × ℕ) → ((z : ℕ × ℕ) → Has z done → Before z e) → ((z : ℕ × ℕ) → Has z done → z.0 < z.1) → e.0 < e.1 → has_edge done e.0 e.1 ≡ false
no-edge done e before less l = go (test (has_edge done e.0 e.1))
  where
    go : Test (has_edge done e.0 e.1) → has_edge done e.0 e.1 ≡ false
    go (No f) = f
    go (Yes f) =
        let r = edge-has done e.0 e.1 f in
        elim (joins-is r.0 e.0 e.1 r.2) [
          | inl q ↦ absurd (not-before e (subst (λ (z : ℕ × ℕ). Before z e) q (before r.0 r.1)))
          | inr q ↦ absurd (let k : e.1 < e.0 = subst (λ (z : ℕ × ℕ). z.0 < z.1) q (less r.0 r.1) in omega (arith, k, l))
        ]

module _ (tree : Topology) (laws : TreeLaws tree) where
  server-of : (a b : ℕ) → Has b (links_of tree a) → Has a (servers_of tree)
  server-of a b h = laws.hops.linked a b h

  -- an edge of the list joins neighbours
  pub edge-near : (a b : ℕ) → has_edge (edges_of tree) a b ≡ true → Has b (links_of tree a)
  unfolding edges_of
  edge-near a b h =
      let r = edge-has (edges_of tree) a b h in
      let k = edges-are tree (servers_of tree) r.0 r.1 in
      elim (joins-is r.0 a b r.2) [
        | inl e ↦ subst (λ (z : ℕ × ℕ). Has z.1 (links_of tree z.0)) e k.0.near
        | inr e ↦ laws.hops.both b a (subst (λ (z : ℕ × ℕ). Has z.1 (links_of tree z.0)) e k.0.near)
      ]

  -- neighbours are joined by an edge of the list
  pub near-edge : (a b : ℕ) → Has b (links_of tree a) → has_edge (edges_of tree) a b ≡ true
  unfolding edges_of
  near-edge a b h =
      elim (compared a b) [
        | Less l ↦ has-edge (edges_of tree) a b (are-edges tree (servers_of tree) a b (server-of a b h) h l)
        | Same e ↦ absurd (laws.hops.apart a (subst (λ (z : ℕ). Has z (links_of tree a)) (sym e) h))
        | More l ↦ has_edge-back (edges_of tree) b a (has-edge (edges_of tree) b a (are-edges tree (servers_of tree) b a (laws.hops.linked b a (laws.hops.both a b h)) (laws.hops.both a b h) l))
      ]

  -- the neighbours by the edges are those of the tree
  pub same-neighbours : (a : ℕ) → links_of tree a ≡ neighbours_by tree.count (edges_of tree) a
  same-neighbours a = ext numbers (links_of tree a) (neighbours_by tree.count (edges_of tree) a) (laws.rising a) (rising-neighbours tree.count (edges_of tree) a)
      (λ b h. Has-filter (has_edge (edges_of tree) a) b (servers_of tree) (laws.hops.linked b a (laws.hops.both a b h)) (near-edge a b h))
      (λ b h. edge-near a b (filter-Has (has_edge (edges_of tree) a) b (servers_of tree) h).1)

  pub edges-within : (e : ℕ × ℕ) → Has e (edges_of tree) → Has e.0 (servers_of tree) × Has e.1 (servers_of tree)
  unfolding edges_of
  edges-within e h = let k = edges-are tree (servers_of tree) e h in (k.1, laws.hops.linked e.1 e.0 (laws.hops.both e.0 e.1 k.0.near))

  -- Ways that never turn back.

  along-links : (es : List (ℕ × ℕ)) → ((x y : ℕ) → has_edge es x y ≡ true → Has y (links_of tree x)) → (a b : ℕ) (trail : List ℕ) → IsTrail es a trail b → IsWay (links_of tree) a trail b
  along-links es near a b [] t = t
  along-links es near a b (c ∷ trail) t = (near a c t.0, along-links es near c b trail t.1)

  by-links : (a b : ℕ) (way : List ℕ) → IsWay (links_of tree) a way b → IsTrail (edges_of tree) a way b
  by-links a b [] w = w
  by-links a b (c ∷ way) w = (near-edge a c w.0, by-links c b way w.1)

  never-back : (a b : ℕ) (way : List ℕ) → IsWay (links_of tree) a way b → IsStraight a way → NeverTurnsBack 0 a way
  never-back a b [] w s = tt
  never-back a b (c ∷ way) w s = ((λ e. zero-server c e (laws.hops.linked c a (laws.hops.both a c w.0))), s)
    where
      zero-server : (c : ℕ) → c ≡ 0 → Has c (servers_of tree) → ⊥
      zero-server c e h = let r = server-in tree.count c h in omega (arith, e, r.0)

  -- edges of the tree without that of two neighbours don't lead from one to the other
  not-joined : (es : List (ℕ × ℕ)) → ((x y : ℕ) → has_edge es x y ≡ true → Has y (links_of tree x)) → (a b : ℕ) → Has b (links_of tree a) → has_edge es a b ≡ false → AreJoined es a b → ⊥
  not-joined es near a b h absent j =
      let s = straight es a b j.0 j.1 in
      let way = along-links es near a b s.0 s.1 in
      let there = laws.hops.linked b a (laws.hops.both a b h) in
      let path : IsPath (links_of tree) a b (a ∷ b ∷ []) = record {
        way = b ∷ [];
        begins = refl;
        along = (h, refl);
        distinct = ((λ k. elim k [ inl e ↦ laws.hops.apart a (subst (λ (z : ℕ). Has z (links_of tree a)) (sym e) h) | inr z ↦ z ]), ((λ z. z), tt));
      } in
      let same : a ∷ s.0 ≡ a ∷ b ∷ [] = (sides (servers_of tree) (links_of tree) (hop_of tree) laws.hops).one_way 0 a b s.0 (a ∷ b ∷ []) there way (never-back a b s.0 way s.2) path in
      let there_is : has_edge es a b ≡ true = (subst (λ (z : List ℕ). IsTrail es a z b) (ap tail-of same) s.1).0 in
      both_ways (has_edge es a b) absent there_is

  -- each edge of the list joins what the earlier ones don't join
  pub fresh-edge : (done rest : List (ℕ × ℕ)) (e : ℕ × ℕ) → done ++ e ∷ rest ≡ edges_of tree → AreJoined done e.0 e.1 → ⊥
  unfolding edges_of
  fresh-edge done rest e same j =
      let ordered : Ordered (done ++ e ∷ rest) = subst Ordered (sym same) (ordered-edges tree (servers_of tree) laws.rising (range-rises 1 tree.count)) in
      let of : (f : ℕ × ℕ) → Has f (done ++ e ∷ rest) → IsEdgeOf tree f = λ f h. (edges-are tree (servers_of tree) f (subst (λ (z : List (ℕ × ℕ)). Has f z) same h)).0 in
      let is = of e (has-append-right e done (e ∷ rest) (inl refl)) in
      not-joined done (λ x y h. edge-near x y (subst (λ (z : List (ℕ × ℕ)). has_edge z x y ≡ true) same (edge-left done (e ∷ rest) x y h))) e.0 e.1 is.near
      (no-edge done e (λ z h. ordered-before done rest e z ordered h) (λ z h. (of z (has-append-left z done (e ∷ rest) h)).less) is.less) j

  pub all-joined : (s : ℕ) → 1 ≤ s → s ≤ tree.count → AreJoined (edges_of tree) 1 s
  all-joined s l m =
      let p = (sides (servers_of tree) (links_of tree) (hop_of tree) laws.hops).a_path 1 s (in-server tree.count 1 (omega arith, omega (arith, l, m))) (in-server tree.count s (l, m)) in
      (p.1.way, by-links 1 s p.1.way p.1.along)
