-- One edge more: the hops stay those of a forest; and the tables of a tree.
use Rattle.std.proofs.Common.{◌≡◌, ℕ, ◌+◌, ◌<◌, ◌≤◌, ◌==◌, Bool, true, false, cond, not, filter, List, [], ◌∷◌, inl, inr, length, take, get_or, refl, sym, ap, subst, ◌∙◌, arith, eq-eqb, ne_eqb}
use Rattle.std.proofs.lemmas.List.{take_more}
use Rattle.std.proofs.lemmas.Option.{slice_get-get_or}
use Rattle.base.specs.Sets.{Has}
use Rattle.base.proofs.Roots.{Has-filter, filter-Has}
use Rattle.base_tree.specs.Graph.{AreWithin, IsTree, IsCount, has_edge, servers_to, neighbours_by}
use Rattle.base_tree.specs.Growing.{hop_after, IsJoinedByEdge}
use Rattle.base_tree.specs.Hops.{AreHops, side}
use Rattle.base_tree.specs.Labels.{IsPartition}
use Rattle.base_tree.specs.Tree.{entry, IsTable}
use Rattle.base.proofs.Numbers.{Same, Is, Not, compare}
use Rattle.base_tree.proofs.Truths.{Test, Yes, No, test}
use Rattle.base_tree.proofs.Forest.{In, Hopped, hopped, level}
use Rattle.base_tree.proofs.Servers.{hops-of, in-server}
use Rattle.base_tree.proofs.Steps.{edge-in, ends-joined}

-- edge i of a tree joins two parts
pub parts-differ : (n : ℕ) (edges : List (ℕ × ℕ)) (i : ℕ) (labels : List ℕ) → IsTree n edges → AreWithin n edges → i < length edges → IsPartition n (take i edges) labels
    → get_or labels (get_or edges i (0, 0)).0 0 ≡ get_or labels (get_or edges i (0, 0)).1 0 → ⊥
parts-differ n edges i labels tree within l p e = tree.forest i (get_or edges i (0, 0)) (slice_get-get_or edges i (0, 0) l) (ends-joined n edges i labels within l p e)

module _ (n : ℕ) (labels : List ℕ) (old new : List (List ℕ)) (a b : ℕ) (table : IsTable n old) (joined : IsJoinedByEdge labels old new a b) where
  entry-after : (x y : ℕ) → In n x → In n y → entry new x y ≡ hop_after labels (get_or old x []) x a b y
  entry-after x y i j = joined.entries x y (omega (arith, i.1, table.rows_there)) (omega (arith, j.1, table.places x i.1))

  leads : (x y : ℕ) → In n x → In n y → get_or labels x 0 ≡ get_or labels a 0 → get_or labels y 0 ≡ get_or labels b 0 → entry new x y ≡ cond (x == a) b (entry old x a)
  leads x y i j e f = entry-after x y i j ∙ rw (eq-eqb (get_or labels x 0) (get_or labels a 0) e, eq-eqb (get_or labels y 0) (get_or labels b 0) f) refl

  leads-back : (get_or labels a 0 ≡ get_or labels b 0 → ⊥) → (x y : ℕ) → In n x → In n y → get_or labels x 0 ≡ get_or labels b 0 → get_or labels y 0 ≡ get_or labels a 0 → entry new x y ≡ cond (x == b) a (entry old x b)
  leads-back m x y i j e f =
      let off : get_or labels x 0 == get_or labels a 0 ≡ false = ne_eqb (get_or labels x 0) (get_or labels a 0) (λ q. m (sym q ∙ e)) in
      entry-after x y i j ∙ rw (off, eq-eqb (get_or labels x 0) (get_or labels b 0) e, eq-eqb (get_or labels y 0) (get_or labels a 0) f) refl

  stays : (get_or labels a 0 ≡ get_or labels b 0 → ⊥) → (x y : ℕ) → In n x → In n y → get_or labels x 0 ≡ get_or labels y 0 → entry new x y ≡ entry old x y
  stays m x y i j e = entry-after x y i j ∙ go (compare (get_or labels x 0) (get_or labels a 0)) (compare (get_or labels x 0) (get_or labels b 0))
    where
      go : Same (get_or labels x 0) (get_or labels a 0) → Same (get_or labels x 0) (get_or labels b 0) → hop_after labels (get_or old x []) x a b y ≡ entry old x y
      go (Is p v) s = rw (v, ne_eqb (get_or labels y 0) (get_or labels b 0) (λ q. m (sym p ∙ e ∙ q))) refl
      go (Not p v) (Is q w) = rw (v, w, ne_eqb (get_or labels y 0) (get_or labels a 0) (λ r. p (e ∙ r))) refl
      go (Not p v) (Not q w) = rw (v, w) refl

  pub table-after : IsTable n new
  table-after = record {
    rows_there = joined.rows ∙ table.rows_there;
    places = λ x l. joined.places x (omega (arith, l, table.rows_there)) ∙ table.places x l;
  }

pub hops-more : (n : ℕ) (edges : List (ℕ × ℕ)) (i : ℕ) (labels after : List ℕ) (old new : List (List ℕ)) → n ≤ 64 → IsTree n edges → AreWithin n edges → i < length edges → IsPartition n (take i edges) labels
    → ((x : ℕ) → x < 65 → get_or after x 0 ≡ cond (get_or labels x 0 == get_or labels (get_or edges i (0, 0)).1 0) (get_or labels (get_or edges i (0, 0)).0 0) (get_or labels x 0))
    → IsTable n old → IsJoinedByEdge labels old new (get_or edges i (0, 0)).0 (get_or edges i (0, 0)).1 → Hopped n (take i edges) (λ x. get_or labels x 0) (entry old)
    → Hopped n (take (i + 1) edges) (λ x. get_or after x 0) (entry new)
hops-more n edges i labels after old new few tree within l p is table joined hops =
    let ends = edge-in n edges i within l in
    let a : ℕ = (get_or edges i (0, 0)).0 in
    let b : ℕ = (get_or edges i (0, 0)).1 in
    let m : get_or labels (get_or edges i (0, 0)).0 0 ≡ get_or labels (get_or edges i (0, 0)).1 0 → ⊥ = parts-differ n edges i labels tree within l p in
    subst (λ es. Hopped n es (λ x. get_or after x 0) (entry new)) (sym (take_more edges i (0, 0) l)) (
    hopped n (take i edges) (λ x. get_or labels x 0) (entry old) (entry new) p.labelled hops (get_or edges i (0, 0)) ends.0 ends.1 m
    (leads n labels old new (get_or edges i (0, 0)).0 (get_or edges i (0, 0)).1 table joined)
    (leads-back n labels old new (get_or edges i (0, 0)).0 (get_or edges i (0, 0)).1 table joined m)
    (stays n labels old new (get_or edges i (0, 0)).0 (get_or edges i (0, 0)).1 table joined m)
    (λ x. get_or after x 0) (λ x k. is x (omega (arith, k.1)))
    )

-- with all edges added, the hops are those of the tree
pub hops-whole : (n : ℕ) (edges : List (ℕ × ℕ)) (labels : List ℕ) (rows : List (List ℕ)) → IsTree n edges → IsCount n → IsPartition n edges labels → Hopped n edges (λ x. get_or labels x 0) (entry rows) → AreHops (servers_to n) (neighbours_by n edges) (entry rows)
hops-whole n edges labels rows tree some p hops = hops-of n edges (λ x. get_or labels x 0) (entry rows) p.labelled hops (λ x i. sym (level n edges (λ x. get_or labels x 0) p.labelled 1 x (tree.joined x i.0 i.1)))

filter-same : (p q : ℕ → Bool) (xs : List ℕ) → ((x : ℕ) → Has x xs → p x ≡ q x) → filter p xs ≡ filter q xs
filter-same p q [] e = refl
filter-same p q (x ∷ xs) e = front (p x) (q x) (e x (inl refl)) (filter-same p q xs (λ y h. e y (inr h)))
  where
    front : (y z : Bool) → y ≡ z → {xs ys : List ℕ} → xs ≡ ys → cond y (x ∷ xs) xs ≡ cond z (x ∷ ys) ys
    front y z e f = rw (e, f) refl

-- a neighbour is its own next hop
pub neighbours-by-hops : (n : ℕ) (edges : List (ℕ × ℕ)) (hop : ℕ → ℕ → ℕ) → AreHops (servers_to n) (neighbours_by n edges) hop → (a : ℕ) → In n a → filter (λ b. side hop a b b) (servers_to n) ≡ neighbours_by n edges a
neighbours-by-hops n edges hop good a i = filter-same (λ b. side hop a b b) (has_edge edges a) (servers_to n) (λ b h. same b h (test (has_edge edges a b)) (compare b a))
  where
    here : (b : ℕ) → side hop b a b ≡ false
    here b = rw (eq-eqb b b refl) refl

    same : (b : ℕ) → Has b (servers_to n) → Test (has_edge edges a b) → Same b a → side hop a b b ≡ has_edge edges a b
    same b h (Yes e) s = good.one_side a b b (Has-filter (has_edge edges a) b (servers_to n) h e) h ∙ ap not (here b) ∙ sym e
    same b h (No e) (Is p v) = rw v (sym e)
    same b h (No e) (Not m v) = rw v (by (compare (hop a b) b)) ∙ sym e
      where
        by : Same (hop a b) b → (hop a b == b) ≡ false
        by (Not p w) = w
        by (Is p w) = absurd (off (sym e ∙ (filter-Has (has_edge edges a) b (servers_to n) (subst (λ z. Has z (neighbours_by n edges a)) p (good.near a b (in-server n a i) h m))).1))
          where
            off : false ≡ true → ⊥
            off q = cc
