-- The order of links, by how many servers lie beyond.
use Rattle.std.proofs.Common.{◌≡◌, inl, inr, ℕ, zero, suc, ◌+◌, ◌-◌, ◌<◌, ◌≤◌, Bool, true, false, List, [], ◌∷◌, ◌++◌, Some, take, length, slice_get, get_or, sym, ap, subst, ◌∙◌, arith}
use Rattle.std.specs.List.{range_with_len}
use Rattle.std.proofs.lemmas.List.{take-append-le}
use Rattle.std.proofs.lemmas.Option.{slice_get-get_or}
use Rattle.std.proofs.Math.Seq.{take-append_seam}
use Rattle.base.specs.Sets.{Has}
use Rattle.base.specs.Numbers.{sum_over, count}
use Rattle.base_tree.specs.Hops.{side, side_size}
use Rattle.base_tree.specs.Tree.{Topology, TreeLaws, IsServer, servers_of, links_of, hop_of}
use Rattle.base_tree.proofs.Servers.{server-in}
use Rattle.base_tree.proofs.Sums.{part-sum}
use Rattle.base_tree.proofs.Sizes.{weighs}
use Rattle.server_spec.proofs.Places.{un-push, has-push}
use Rattle.std.proofs.lemmas.List.FromFn.{length-range_with_len}
use Rattle.law_machine.proofs.Lists.{Is, Not, compare}
use Rattle.server_spec.proofs.Taken.{has-next}
use Rattle.server_spec.specs.Rows.{size_of, IsOrder}
use Rattle.base.proofs.Sets.{get-has, has-get}

-- a sum over a range takes in the next number
sum-range : (f : ℕ → ℕ) (a n : ℕ) → sum_over f (range_with_len a (suc n)) ≡ sum_over f (range_with_len a n) + f (a + n)
sum-range f a zero = let e : a + 0 ≡ a = omega arith in rw e (omega arith)
sum-range f a (suc n) =
    let e : a + 1 + n ≡ a + suc n = omega arith in
    let ih : sum_over f (range_with_len (a + 1) (suc n)) ≡ sum_over f (range_with_len (a + 1) n) + f (a + suc n) = sum-range f (a + 1) n ∙ ap (λ z. sum_over f (range_with_len (a + 1) n) + f z) e in
    omega (arith, ih)

pub sum-next : (f : ℕ → ℕ) (x : ℕ) → 1 ≤ x → sum_over f (range_with_len 1 (x + 1 - 1)) ≡ sum_over f (range_with_len 1 (x - 1)) + f x
sum-next f x l =
    let long : x + 1 - 1 ≡ suc (x - 1) = omega arith in
    let last : 1 + (x - 1) ≡ x = omega arith in
    rw long (sum-range f 1 (x - 1) ∙ ap (λ z. sum_over f (range_with_len 1 (x - 1)) + f z) last)

pub count-most : (p : ℕ → Bool) (xs : List ℕ) → sum_over (λ x. count (p x)) xs ≤ length xs
count-most p [] = omega arith
count-most p (x ∷ xs) = omega (arith, one (p x), count-most p xs)
  where
    one : (b : Bool) → count b ≤ 1
    one true = omega arith
    one false = omega arith

module _ (tree : Topology) (laws : TreeLaws tree) where
  pub from-server : (a b : ℕ) → Has b (links_of tree a) → IsServer tree a
  from-server a b m = server-in tree.count a (laws.hops.linked a b m)

  pub to-server : (a b : ℕ) → Has b (links_of tree a) → IsServer tree b
  to-server a b m = server-in tree.count b (laws.hops.linked b a (laws.hops.both a b m))

  pub to-small : (a b : ℕ) → Has b (links_of tree a) → b < 65
  to-small a b m = omega (arith, laws.most, (to-server a b m).1)

  -- fewer servers lie beyond a further link
  pub fewer : (a b c : ℕ) → Has b (links_of tree a) → Has c (links_of tree b) → (c ≡ a → ⊥) → size_of tree b c < size_of tree a b
  fewer a b c m n off = omega (arith, weighs (servers_of tree) (links_of tree) (hop_of tree) laws.hops a b m, part-sum (side_size (hop_of tree) (servers_of tree) b) a c (links_of tree b) n off)

  pub size-most : (a b : ℕ) → size_of tree a b ≤ length (servers_of tree)
  size-most a b = count-most (side (hop_of tree) a b) (servers_of tree)

  -- one more link
  pub order-push : (order : List (ℕ × ℕ)) (a b : ℕ) → IsOrder tree order → Has b (links_of tree a) → ((c : ℕ) → Has c (links_of tree b) → (c ≡ a → ⊥) → Has (b, c) order) → IsOrder tree (order ++ (a, b) ∷ [])
  order-push order a b was near ready = record { linked = linked; earlier = earlier }
    where
      first : (i x y : ℕ) → i ≡ length order → ◌≡◌ {A = ℕ × ℕ} (x, y) (a, b) → (c : ℕ) → Has c (links_of tree y) → (c ≡ x → ⊥) → Has (y, c) (take i (order ++ (a, b) ∷ []))
      first i x y e q c m n =
          let fst : x ≡ a = ap (λ (z : ℕ × ℕ). z.0) q in
          let snd : y ≡ b = ap (λ (z : ℕ × ℕ). z.1) q in
          let whole : take i (order ++ (a, b) ∷ []) ≡ order = ap (λ z. take z (order ++ (a, b) ∷ [])) e ∙ take-append_seam order ((a, b) ∷ []) in
          subst (λ z. Has (y, c) z) (sym whole) (subst (λ z. Has (z, c) order) (sym snd) (ready c (subst (λ z. Has c (links_of tree z)) snd m) (λ p. n (p ∙ sym fst))))

      linked : (i x y : ℕ) → slice_get (order ++ (a, b) ∷ []) i ≡ Some (x, y) → Has y (links_of tree x)
      linked i x y e = elim (un-push order (a, b) i (x, y) e) [
        | inl r ↦ was.linked i x y r.1
        | inr r ↦ subst (λ (z : ℕ × ℕ). Has z.1 (links_of tree z.0)) (sym r.1) near
      ]

      earlier : (i x y : ℕ) → slice_get (order ++ (a, b) ∷ []) i ≡ Some (x, y) → (c : ℕ) → Has c (links_of tree y) → (c ≡ x → ⊥) → Has (y, c) (take i (order ++ (a, b) ∷ []))
      earlier i x y e c m n = elim (un-push order (a, b) i (x, y) e) [
        | inl r ↦ subst (λ z. Has (y, c) z) (sym (take-append-le i order ((a, b) ∷ []) (omega (arith, r.0)))) (was.earlier i x y r.1 c m n)
        | inr r ↦ first i x y r.0 r.1 c m n
      ]

  -- a link in the order is one of the tree
  pub in-order : (order : List (ℕ × ℕ)) → IsOrder tree order → (a b : ℕ) → Has (a, b) order → Has b (links_of tree a)
  in-order order is a b m = let i = has-get order (a, b) m in is.linked i.0 a b i.1

  module _ (first order : List (ℕ × ℕ)) (links : List ℕ) (n at of many : ℕ) (here : links ≡ links_of tree at) (is : slice_get links n ≡ Some of)
      (less : (a b : ℕ) → Has b (links_of tree a) → size_of tree a b < many → Has (a, b) first)
      (good : IsOrder tree order) (kept : (a b : ℕ) → Has (a, b) first → Has (a, b) order) (all : (b : ℕ) → Has b (take n links) → size_of tree at b ≡ many → Has (at, b) order) where
    pub put-order : size_of tree at of ≡ many → IsOrder tree (order ++ (at, of) ∷ [])
    put-order e = order-push order at of good near (λ c m off. kept of c (less of c m (omega (arith, e, fewer at of c near m off))))
      where
        near : Has of (links_of tree at)
        near = subst (Has of) here (get-has links n of is)

    pub put-kept : (a b : ℕ) → Has (a, b) first → Has (a, b) (order ++ (at, of) ∷ [])
    put-kept a b m = (has-push order (at, of) (a, b)).1 (inl (kept a b m))

    pub put-all : (b : ℕ) → Has b (take (n + 1) links) → size_of tree at b ≡ many → Has (at, b) (order ++ (at, of) ∷ [])
    put-all b m e = elim ((has-next links n of b is).0 m) [
      | inl k ↦ (has-push order (at, of) (at, b)).1 (inl (all b k e))
      | inr q ↦ (has-push order (at, of) (at, b)).1 (inr (ap (λ z. (at, z)) q))
    ]

    pub skip-all : (size_of tree at of ≡ many → ⊥) → (b : ℕ) → Has b (take (n + 1) links) → size_of tree at b ≡ many → Has (at, b) order
    skip-all off b m e = elim ((has-next links n of b is).0 m) [ inl k ↦ all b k e | inr q ↦ absurd (off (ap (size_of tree at) (sym q) ∙ e)) ]

  -- all links of one server more
  pub size-step : (order new : List (ℕ × ℕ)) (at many : ℕ) → ((a b : ℕ) → Has (a, b) order → Has (a, b) new)
      → ((b : ℕ) → Has b (links_of tree at) → size_of tree at b ≡ many → Has (at, b) new)
      → ((a b : ℕ) → a < at → Has b (links_of tree a) → size_of tree a b ≡ many → Has (a, b) order)
      → (a b : ℕ) → a < at + 1 → Has b (links_of tree a) → size_of tree a b ≡ many → Has (a, b) new
  size-step order new at many kept here all a b l m e = elim (compare a at) [
    | Is q v ↦ subst (λ z. Has (z, b) new) (sym q) (here b (subst (λ z. Has b (links_of tree z)) q m) (ap (λ z. size_of tree z b) (sym q) ∙ e))
    | Not n v ↦ kept a b (all a b (below a at n l) m e)
  ]
    where
      below : (x y : ℕ) → (x ≡ y → ⊥) → x < y + 1 → x < y
      below x y n l = grind (arith, n, l)

  pub size-end : (order : List (ℕ × ℕ)) (many : ℕ) → ((a b : ℕ) → Has b (links_of tree a) → size_of tree a b < many → Has (a, b) order)
      → ((a b : ℕ) → a < tree.count + 1 → Has b (links_of tree a) → size_of tree a b ≡ many → Has (a, b) order)
      → (a b : ℕ) → Has b (links_of tree a) → size_of tree a b < many + 1 → Has (a, b) order
  size-end order many less all a b m l = elim (compare (size_of tree a b) many) [
    | Is q v ↦ all a b (omega (arith, (from-server a b m).1)) m q
    | Not n v ↦ less a b m (below (size_of tree a b) many n l)
  ]
    where
      below : (x y : ℕ) → (x ≡ y → ⊥) → x < y + 1 → x < y
      below x y n l = grind (arith, n, l)

  -- no link has more servers beyond than there are
  pub size-all : (order : List (ℕ × ℕ)) (many : ℕ) → tree.count < many → ((a b : ℕ) → Has b (links_of tree a) → size_of tree a b < many → Has (a, b) order)
      → (a b : ℕ) → Has b (links_of tree a) → Has (a, b) order
  size-all order many l less a b m = less a b m (omega (arith, l, size-most a b, length-range_with_len 1 tree.count))

  -- the link at a place
  pub link-at : (order : List (ℕ × ℕ)) → IsOrder tree order → (n : ℕ) → n < length order → Has (get_or order n (0, 0)).1 (links_of tree (get_or order n (0, 0)).0)
  link-at order good n l = good.linked n (get_or order n (0, 0)).0 (get_or order n (0, 0)).1 (slice_get-get_or order n (0, 0) l)

  pub from-small : (a b : ℕ) → Has b (links_of tree a) → a < 65
  from-small a b m = omega (arith, laws.most, (from-server a b m).1)
