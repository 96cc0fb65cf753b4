-- A tree of servers that grows: each new server is joined to an earlier one, and the hops of the tree are known at each time.
use Rattle.std.proofs.Common.{◌≡◌, inl, inr, ℕ, zero, suc, ◌<◌, ◌≤◌, ◌==◌, Bool, true, false, cond, not, ◌&&◌, nat_le, List, [], ◌∷◌, ◌++◌, length, map, filter, get_or, refl, sym, ap, subst, ◌∙◌, arith}
use Rattle.std.specs.List.{range_with_len, list_all}
use Rattle.std.proofs.lemmas.Grind.{common_steps}
use Rattle.std.proofs.lemmas.Bool.{false_from_ne_true, eq-eqb, ne_eqb}
use Rattle.base.proofs.Bools.{absurd-false}
use Rattle.std.proofs.lemmas.List.FromFn.{get_or-map-range_with_len, length-map-range_with_len}
use Rattle.base.specs.Sets.{Has}
use Rattle.base.proofs.Numbers.{Same, Is, Not, compare, le-or-gt}
use Rattle.base_tree.specs.Graph.{has_edge, AreJoined, servers_to, neighbours_by}
use Rattle.base_tree.specs.Hops.{AreHops, side}
use Rattle.base_tree.specs.Labels.{Labelled}
use Rattle.base_tree.specs.Tree.{Topology, topology, entry, IsTable}
use Rattle.base_tree.proofs.Forest.{In, Hopped, cross, hopped, labelled, level, relabel}
use Rattle.base_tree.proofs.Hopping.{neighbours-by-hops}
use Rattle.base_tree.proofs.Joined.{joined-same}
use Rattle.base_tree.proofs.Servers.{hops-of, server-in}
use Rattle.base_tree.proofs.Whole.{links-are, sound}
use Rattle.document_reader.specs.Drawn.{drawn, is_apart, are_joined}
use Rattle.document_reader.specs.Net.{IsTreeOf}
use Rattle.document_reader.proofs.Joining.{told, tested}

-- servers 1 to m have one label, and each later one has its own
abbrev label : ℕ → ℕ → ℕ
label m x = cond (nat_le x m) 1 x

label-low : (m x : ℕ) → x ≤ m → label m x ≡ 1
label-low m x l = let e : nat_le x m ≡ true = grind (arith, common_steps) in rw e refl

label-high : (m x : ℕ) → m < x → label m x ≡ x
label-high m x l = let e : nat_le x m ≡ false = grind (arith, common_steps) in rw e refl

low-label : (m x : ℕ) → 1 ≤ m → label m x ≡ 1 → x ≤ m
low-label m x l e = elim (le-or-gt x m) [ inl k ↦ k | inr k ↦ absurd (omega (arith, label-high m x k, e, k, l)) ]

last-label : (m x : ℕ) → 1 ≤ m → label m x ≡ suc m → x ≡ suc m
last-label m x l e = elim (le-or-gt x m) [ inl k ↦ absurd (omega (arith, label-low m x k, e, l)) | inr k ↦ sym (label-high m x k) ∙ e ]

-- edges of servers 1 to m, of 16, are a tree of these, with its hops
pub record Grown (m : ℕ) (edges : List (ℕ × ℕ)) : Type 0 where
  pub labels : Labelled 16 edges (label m)
  pub hop : ℕ → ℕ → ℕ
  pub hops : Hopped 16 edges (label m) hop

-- the hops after server v is joined to u
abbrev hop-more : (ℕ → ℕ → ℕ) → ℕ → ℕ → ℕ → ℕ → ℕ
hop-more hop u v x y = cond (y == v) (cond (x == v) (hop x y) (cross hop u v x)) (cond (x == v) (cross hop v u x) (hop x y))

-- server 1 alone
pub alone : Grown 1 []
alone = record {
  labels = record { joined = λ x y i j e. joined-same [] x y (same x y i.0 j.0 e); ends = λ x y e. absurd-false e };
  hop = λ x y. 0;
  hops = record {
    apart = λ a e. absurd-false e;
    near = λ b x i j e n. absurd (n (same x b j.0 i.0 e));
    one_side = λ a b x e i f. absurd-false e;
  };
}
  where
    own : (x : ℕ) → 1 ≤ x → label 1 x ≡ x
    own x l = elim (le-or-gt x 1) [ inl k ↦ omega (arith, label-low 1 x k, l, k) | inr k ↦ label-high 1 x k ]

    same : (x y : ℕ) → 1 ≤ x → 1 ≤ y → label 1 x ≡ label 1 y → x ≡ y
    same x y l k e = sym (own x l) ∙ e ∙ own y k

module _ (m u v : ℕ) (edges : List (ℕ × ℕ)) (some : 1 ≤ m) (more : m < 16) (from : (1 ≤ u) × (u ≤ m)) (next : v ≡ suc m) (tree : Grown m edges) where
  label-u : label m u ≡ 1
  label-u = label-low m u from.1

  label-v : label m v ≡ suc m
  label-v = label-high m v (omega (arith, next)) ∙ next

  differ : label m u ≡ label m v → ⊥
  differ e = omega (arith, label-u, label-v, e, some)

  pub not-joined : AreJoined edges u v → ⊥
  not-joined j = differ (level 16 edges (label m) tree.labels u v j)

  pub no-edge : has_edge edges u v ≡ false
  no-edge = false_from_ne_true (has_edge edges u v) (λ e. differ (tree.labels.ends u v e).2)

  pub no-way : are_joined edges u v ≡ false
  no-way = false_from_ne_true (are_joined edges u v) (λ e. not-joined (told edges u v e))

  in-u : In 16 u
  in-u = (from.0, omega (arith, from.1, more))

  in-v : In 16 v
  in-v = (omega (arith, next), omega (arith, next, more))

  relabelled : (x : ℕ) → In 16 x → label (suc m) x ≡ relabel (label m) u v x
  relabelled x i = elim (le-or-gt x m) [
    | inl k ↦ (let a : label m x ≡ 1 = label-low m x k in
        let off : (label m x == label m v) ≡ false = ne_eqb (label m x) (label m v) (λ e. differ (label-u ∙ sym a ∙ e)) in
        label-low (suc m) x (omega (arith, k)) ∙ rw off (sym a))
    | inr k ↦ go k (compare x v)
  ]
    where
      go : m < x → Same x v → label (suc m) x ≡ relabel (label m) u v x
      go k (Is p w) = label-low (suc m) x (omega (arith, p, next)) ∙ rw (eq-eqb (label m x) (label m v) (ap (label m) p)) (sym label-u)
      go k (Not p w) =
          let off : (label m x == label m v) ≡ false = ne_eqb (label m x) (label m v) (λ e. p (last-label m x some (e ∙ label-v) ∙ sym next)) in
          label-high (suc m) x (omega (arith, k, next, p)) ∙ rw off (sym (label-high m x k))

  -- where x has the label of u, and where y has that of v
  low : (x : ℕ) → label m x ≡ label m u → x ≤ m
  low x e = low-label m x some (e ∙ label-u)

  last : (y : ℕ) → label m y ≡ label m v → y ≡ v
  last y e = last-label m y some (e ∙ label-v) ∙ sym next

  off-v : (x : ℕ) → x ≤ m → (x == v) ≡ false
  off-v x l = ne_eqb x v (λ e. omega (arith, e, l, next))

  abbrev new : ℕ → ℕ → ℕ
  new = hop-more tree.hop u v

  out : (x y : ℕ) → In 16 x → In 16 y → label m x ≡ label m u → label m y ≡ label m v → new x y ≡ cross tree.hop u v x
  out x y i j e f = rw (eq-eqb y v (last y f), off-v x (low x e)) refl

  back : (x y : ℕ) → In 16 x → In 16 y → label m x ≡ label m v → label m y ≡ label m u → new x y ≡ cross tree.hop v u x
  back x y i j e f = rw (off-v y (low y f), eq-eqb x v (last x e)) refl

  stays : (x y : ℕ) → In 16 x → In 16 y → label m x ≡ label m y → new x y ≡ tree.hop x y
  stays x y i j e = go (compare x v) (compare y v)
    where
      go : Same x v → Same y v → new x y ≡ tree.hop x y
      go (Is p w) (Is q z) = rw (z, w) refl
      go (Is p w) (Not q z) = absurd (q (last y (sym e ∙ ap (label m) p)))
      go (Not p w) (Is q z) = absurd (p (last x (e ∙ ap (label m) q)))
      go (Not p w) (Not q z) = rw (z, w) refl

  pub grown : Grown (suc m) (edges ++ (u, v) ∷ [])
  grown = record {
    labels = labelled 16 edges (label m) (label (suc m)) tree.labels (u, v) in-u in-v relabelled;
    hop = new;
    hops = hopped 16 edges (label m) tree.hop new tree.labels tree.hops (u, v) in-u in-v differ out back stays (label (suc m)) relabelled;
  }

-- All 16 servers.

list_all-has : {A : Type 0} (p : A → Bool) (xs : List A) → ((x : A) → Has x xs → p x ≡ true) → list_all p xs ≡ true
list_all-has p [] h = refl
list_all-has p (x ∷ xs) h = rw (h x (inl refl), list_all-has p xs (λ y k. h y (inr k))) refl

module _ (edges : List (ℕ × ℕ)) (tree : Grown 16 edges) where
  one : (x : ℕ) → In 16 x → label 16 x ≡ label 16 1
  one x i = label-low 16 x i.1 ∙ sym (label-low 16 1 (omega arith))

  pub whole : is_apart (drawn 16 [] 0 edges) ≡ false
  unfolding is_apart
  whole = ap not (list_all-has (are_joined edges 1) (servers_to 16) (λ x h. let i = server-in 16 x h in tested edges 1 x (tree.labels.joined 1 x (omega arith, omega arith) i (sym (one x i)))))

  abbrev hop-rows : List (List ℕ)
  hop-rows = map (λ a. map (tree.hop a) (range_with_len 0 17)) (range_with_len 0 17)

  abbrev near-rows : List (List ℕ)
  near-rows = [] ∷ map (neighbours_by 16 edges) (range_with_len 1 16)

  row-is : (a : ℕ) → a ≤ 16 → get_or hop-rows a [] ≡ map (tree.hop a) (range_with_len 0 17)
  row-is a l = get_or-map-range_with_len (λ a. map (tree.hop a) (range_with_len 0 17)) 0 17 a a [] (omega (arith, l)) (omega arith)

  hop-is : (a x : ℕ) → a ≤ 16 → x ≤ 16 → entry hop-rows a x ≡ tree.hop a x
  hop-is a x l k = rw (row-is a l) (get_or-map-range_with_len (tree.hop a) 0 17 x x 0 (omega (arith, k)) (omega arith))

  table : IsTable 16 hop-rows
  table = record {
    rows_there = length-map-range_with_len (λ a. map (tree.hop a) (range_with_len 0 17)) 0 17;
    places = λ a l. ap length (row-is a l) ∙ length-map-range_with_len (tree.hop a) 0 17;
  }

  same-side : (a b x : ℕ) → a ≤ 16 → x ≤ 16 → side (entry hop-rows) a b x ≡ side tree.hop a b x
  same-side a b x l k = ap (λ z. not (x == a) && (z == b)) (hop-is a x l k)

  hops-there : Hopped 16 edges (label 16) (entry hop-rows)
  hops-there = record {
    apart = tree.hops.apart;
    near = λ b x i j e n. subst (λ z. has_edge edges b z ≡ true) (sym (hop-is b x i.1 j.1)) (tree.hops.near b x i j e n);
    one_side = λ a b x e i f. let ends = tree.labels.ends a b e in
        same-side a b x ends.0.1 i.1 ∙ tree.hops.one_side a b x e i f ∙ ap not (sym (same-side b a x ends.1.1 i.1));
  }

  good : AreHops (servers_to 16) (neighbours_by 16 edges) (entry hop-rows)
  good = hops-of 16 edges (label 16) (entry hop-rows) tree.labels hops-there one

  by-hops : (a : ℕ) → 1 ≤ a → a ≤ 16 → get_or near-rows a [] ≡ filter (λ b. side (entry hop-rows) a b b) (servers_to 16)
  by-hops zero l k = absurd (omega (arith, l))
  by-hops (suc a) l k =
      get_or-map-range_with_len (neighbours_by 16 edges) 1 16 a (suc a) [] (omega (arith, k)) (omega arith)
      ∙ sym (neighbours-by-hops 16 edges (entry hop-rows) good (suc a) (l, k))

  rows-there : length near-rows ≡ 17
  rows-there = ap suc (length-map-range_with_len (neighbours_by 16 edges) 1 16)

  -- the tree of the edges
  abbrev pub planted : Topology
  planted = topology 16 near-rows hop-rows

  pub is-planted : IsTreeOf 16 (0, edges) (0, planted)
  is-planted = record {
    phase = refl;
    count = refl;
    neighbours = links-are 16 edges near-rows hop-rows (omega arith, omega arith) table good rows-there refl by-hops;
    laws = (sound 16 edges near-rows hop-rows (omega arith, omega arith) table good rows-there refl by-hops).laws;
  }
