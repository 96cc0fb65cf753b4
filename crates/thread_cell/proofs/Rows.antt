-- The lanes of a tree are laid edge by edge.
use Rattle.std.proofs.Common.{◌≡◌, ◌↔◌, ◌⊎◌, inl, inr, ℕ, zero, suc, ◌+◌, ◌-◌, ◌<◌, ◌≤◌, nat_lt, true, List, [], ◌∷◌, ◌++◌, map, length, get_or, set, Some, slice_get, refl, sym, ap, subst, ◌∙◌, arith}
use Rattle.std.proofs.lemmas.List.{length-append}
use Rattle.std.proofs.lemmas.Option.{same_Some}
use Rattle.base.specs.Sets.{Has, IsRising}
use Rattle.base_tree.specs.Tree.{Topology, TreeLaws, links_of}
use Rattle.base_tree.proofs.Servers.{server-in}
use Rattle.thread_cell.specs.declared.link.Link.{Link}
use Rattle.filter_text.specs.MessageText.{Each}
use Rattle.thread_cell.specs.Links.{IsOneLane}
use Rattle.thread_cell.specs.Lanes.{IsNew, AreNone, AreJoinedByLanes, AreEnds, AreLanes, AreLanesOf, IsLaid, neighbours_in, with_link}
use Rattle.base.proofs.Numbers.{nat_lt-true, lt-nat_lt}

below-or-at : (k n : ℕ) → k < suc n → (k < n) ⊎ (k ≡ n)
below-or-at k n lt = grind arith

module _ {X : Type 0} where
  pub split-end : (z : X) (xs : List X) (x : X) → Has z (xs ++ x ∷ []) → Has z xs ⊎ (z ≡ x)
  split-end z [] x (inl e) = inr e
  split-end z [] x (inr h) = absurd h
  split-end z (y ∷ xs) x (inl e) = inl (inl e)
  split-end z (y ∷ xs) x (inr h) = elim (split-end z xs x h) [ inl a ↦ inl (inr a) | inr e ↦ inr e ]

  pub end-has : (z : X) (xs : List X) (x : X) → Has z xs ⊎ (z ≡ x) → Has z (xs ++ x ∷ [])
  end-has z [] x (inl h) = absurd h
  end-has z [] x (inr e) = inl e
  end-has z (y ∷ xs) x (inl (inl e)) = inl e
  end-has z (y ∷ xs) x (inl (inr h)) = inr (end-has z xs x (inl h))
  end-has z (y ∷ xs) x (inr e) = inr (end-has z xs x (inr e))

  pub get-end : (xs : List X) (x y : X) (q : ℕ) → slice_get (xs ++ x ∷ []) q ≡ Some y → (slice_get xs q ≡ Some y) ⊎ (y ≡ x)
  get-end [] x y zero e = inr (same_Some y x (sym e))
  get-end [] x y (suc q) e = absurd cc
  get-end (z ∷ xs) x y zero e = inl e
  get-end (z ∷ xs) x y (suc q) e = get-end xs x y q e

  pub within : (xs : List X) (x : X) (q : ℕ) → slice_get xs q ≡ Some x → q < length xs
  within [] x q e = absurd cc
  within (y ∷ xs) x zero e = omega arith
  within (y ∷ xs) x (suc q) e = let lt = within xs x q e in omega arith

  pub each-end : (P : X → Type 0) (xs : List X) (x : X) → Each P xs → P x → Each P (xs ++ x ∷ [])
  each-end P [] x e p = (p, tt)
  each-end P (y ∷ xs) x e p = (e.0, each-end P xs x e.1 p)

rising-end : (xs : List ℕ) (x : ℕ) → IsRising nat_lt xs → ((y : ℕ) → Has y xs → y < x) → IsRising nat_lt (xs ++ x ∷ [])
rising-end [] x r f = ((λ y h. absurd h), tt)
rising-end (y ∷ xs) x r f = ((λ z h. elim (split-end z xs x h) [ inl a ↦ r.0 z a | inr e ↦ subst (λ n. nat_lt y n ≡ true) (sym e) (lt-nat_lt y x (f y (inl refl))) ]), rising-end xs x r.1 (λ z h. f z (inr h)))

-- rising lists with the same members are one
pub rising-equal : (xs ys : List ℕ) → IsRising nat_lt xs → IsRising nat_lt ys → ((b : ℕ) → Has b xs → Has b ys) → ((b : ℕ) → Has b ys → Has b xs) → xs ≡ ys
rising-equal [] [] r s f g = refl
rising-equal [] (y ∷ ys) r s f g = absurd (g y (inl refl))
rising-equal (x ∷ xs) [] r s f g = absurd (f x (inl refl))
rising-equal (x ∷ xs) (y ∷ ys) r s f g = go (rising-equal xs ys r.1 s.1) (f x (inl refl)) (g y (inl refl))
  where
    same : (((b : ℕ) → Has b xs → Has b ys) → ((b : ℕ) → Has b ys → Has b xs) → xs ≡ ys) → x ≡ y → x ∷ xs ≡ y ∷ ys
    same next e = λ i. e i ∷ next onto from i
      where
        onto : (b : ℕ) → Has b xs → Has b ys
        onto b h = elim (f b (inr h)) [ inl q ↦ (let lt = nat_lt-true x b (r.0 b h) in absurd (omega (arith, lt, q, e))) | inr k ↦ k ]

        from : (b : ℕ) → Has b ys → Has b xs
        from b h = elim (g b (inr h)) [ inl q ↦ (let lt = nat_lt-true y b (s.0 b h) in absurd (omega (arith, lt, q, e))) | inr k ↦ k ]

    go : (((b : ℕ) → Has b xs → Has b ys) → ((b : ℕ) → Has b ys → Has b xs) → xs ≡ ys) → (x ≡ y) ⊎ Has x ys → (y ≡ x) ⊎ Has y xs → x ∷ xs ≡ y ∷ ys
    go next (inl e) k = same next e
    go next (inr h) (inl e) = same next (sym e)
    go next (inr h) (inr k) = let a = nat_lt-true y x (s.0 x h) in let b = nat_lt-true x y (r.0 y k) in absurd (omega (arith, a, b))

named-end : (r : List Link) (x : Link) → neighbours_in (r ++ x ∷ []) ≡ neighbours_in r ++ x.neighbour ∷ []
named-end [] x = refl
named-end (y ∷ r) x = ap (λ l. y.neighbour ∷ l) (named-end r x)

named-at : (r : List Link) (q : ℕ) (x : Link) → slice_get r q ≡ Some x → Has x.neighbour (neighbours_in r)
named-at [] q x e = absurd cc
named-at (y ∷ r) zero x e = inl (ap (λ (w : Link). w.neighbour) (same_Some x y (sym e)))
named-at (y ∷ r) (suc q) x e = inr (named-at r q x e)

long-with : (place : ℕ) (x : Link) (rows : List (List Link)) → length (with_link place x rows) ≡ length rows
long-with place x [] = refl
long-with zero x (r ∷ rows) = refl
long-with (suc place) x (r ∷ rows) = ap suc (long-with place x rows)

-- a row at a place was set to itself with a link more
pub set-with : {V : Type 0} (f : V → List Link) (rows : List V) (place : ℕ) (d v : V) (x : Link) → place < length rows → f v ≡ f (get_or rows place d) ++ x ∷ [] → map f (set rows place v) ≡ with_link place x (map f rows)
set-with f [] place d v x lt e = absurd (omega (arith, lt))
set-with f (r ∷ rows) zero d v x lt e = ap (λ l. l ∷ map f rows) e
set-with f (r ∷ rows) (suc place) d v x lt e = ap (λ l. f r ∷ l) (set-with f rows place d v x (omega (arith, lt)) e)

-- an empty row more
pub none-more : (n : ℕ) (rows : List (List Link)) → AreNone n rows → AreNone (n + 1) (rows ++ [] ∷ [])
none-more n rows none = record {
  long = (let l = none.long in let a = length-append rows ([] ∷ []) in omega (arith, l, a));
  none = λ r h. elim (split-end r rows [] h) [ inl a ↦ none.none r a | inr e ↦ e ];
}

-- what a row is after a link was put in the row of a place
abbrev IsRowWith : ℕ → ℕ → Link → List Link → List Link → Type 0
IsRowWith place k x r row = ((k ≡ place) × (row ≡ r ++ x ∷ [])) ⊎ ((k ≡ place → ⊥) × (row ≡ r))

get-with : (place k : ℕ) (x : Link) (rows : List (List Link)) (row : List Link) → slice_get (with_link place x rows) k ≡ Some row → (r : List Link) × (slice_get rows k ≡ Some r) × IsRowWith place k x r row
get-with place k x [] row e = absurd cc
get-with zero zero x (r ∷ rows) row e = (r, refl, inl (refl, same_Some row (r ++ x ∷ []) (sym e)))
get-with zero (suc k) x (r ∷ rows) row e = (row, e, inr ((λ q. let z : suc k ≡ 0 = q in absurd (omega (arith, z))), refl))
get-with (suc place) zero x (r ∷ rows) row e = (r, refl, inr ((λ q. let z : 0 ≡ suc place = q in absurd (omega (arith, z))), same_Some row r (sym e)))
get-with (suc place) (suc k) x (r ∷ rows) row e = let g = get-with place k x rows row e in (g.0, g.1, later g.2)
  where
    later : {r : List Link} → IsRowWith place k x r row → IsRowWith (suc place) (suc k) x r row
    later (inl (a, b)) = inl (ap suc a, b)
    later (inr (a, b)) = inr ((λ q. a (omega (arith, q))), b)

-- what a row is after two servers were joined
data IsRowThen (one other : ℕ) (mine theirs : Link) (k : ℕ) (r row : List Link) : Type 0 where
  Mine : suc k ≡ one → row ≡ r ++ mine ∷ [] → IsRowThen one other mine theirs k r row
  Theirs : suc k ≡ other → row ≡ r ++ theirs ∷ [] → IsRowThen one other mine theirs k r row
  Kept : (suc k ≡ one → ⊥) → (suc k ≡ other → ⊥) → row ≡ r → IsRowThen one other mine theirs k r row

row-then : (one other : ℕ) (rows new : List (List Link)) → 1 ≤ one → 1 ≤ other → (one ≡ other → ⊥) → (j : AreJoinedByLanes one other rows new) (k : ℕ) (row : List Link) → slice_get new k ≡ Some row
    → (r : List Link) × (slice_get rows k ≡ Some r) × IsRowThen one other j.mine j.theirs k r row
row-then one other rows new a b apart j k row e = go (get-with (other - 1) k j.theirs (with_link (one - 1) j.mine rows) row (subst (λ (l : List (List Link)). slice_get l k ≡ Some row) j.rows e))
  where
    first : (mid : List Link) → slice_get (with_link (one - 1) j.mine rows) k ≡ Some mid → (r : List Link) × (slice_get rows k ≡ Some r) × IsRowWith (one - 1) k j.mine r mid
    first mid f = get-with (one - 1) k j.mine rows mid f

    go : (mid : List Link) × (slice_get (with_link (one - 1) j.mine rows) k ≡ Some mid) × IsRowWith (other - 1) k j.theirs mid row → (r : List Link) × (slice_get rows k ≡ Some r) × IsRowThen one other j.mine j.theirs k r row
    go (mid, f, second) = at (first mid f) second
      where
        at : (r : List Link) × (slice_get rows k ≡ Some r) × IsRowWith (one - 1) k j.mine r mid → IsRowWith (other - 1) k j.theirs mid row → (r : List Link) × (slice_get rows k ≡ Some r) × IsRowThen one other j.mine j.theirs k r row
        at (r, g, inl (p, q)) (inl (p', q')) = absurd (apart (omega (arith, a, b, p, p')))
        at (r, g, inl (p, q)) (inr (n', q')) = (r, g, Mine (omega (arith, a, p)) (q' ∙ q))
        at (r, g, inr (n, q)) (inl (p', q')) = (r, g, Theirs (omega (arith, b, p')) (q' ∙ ap (λ l. l ++ j.theirs ∷ []) q))
        at (r, g, inr (n, q)) (inr (n', q')) = (r, g, Kept (λ s. n (omega (arith, s))) (λ s. n' (omega (arith, s))) (q' ∙ q))

module _ (tree : Topology) (laws : TreeLaws tree) where
  relaid : (s t s' t' : ℕ) (rows : List (List Link)) → ((a b : ℕ) → Has b (links_of tree a) → IsLaid s t a b ↔ IsLaid s' t' a b) → AreLanes tree s t rows → AreLanes tree s' t' rows
  relaid s t s' t' rows f lanes = record {
    long = lanes.long;
    rising = lanes.rising;
    members = λ k r e b. (
      (λ h. let m = (lanes.members k r e b).0 h in (m.0, (f (suc k) b m.0).0 m.1)),
      (λ m. (lanes.members k r e b).1 (m.0, (f (suc k) b m.0).1 m.1)),
    );
    new = lanes.new;
    ends = lanes.ends;
  }

  -- a link is a server's
  link-server : (a b : ℕ) → Has b (links_of tree a) → (1 ≤ b) × (b ≤ tree.count)
  link-server a b h = server-in tree.count b (laws.hops.linked b a (laws.hops.both a b h))

  -- a server's lanes to higher neighbours are begun
  pub lanes-begun : (s : ℕ) (rows : List (List Link)) → AreLanes tree s 0 rows → AreLanes tree s (suc s) rows
  lanes-begun s rows lanes = relaid s 0 s (suc s) rows (λ a b h. (onto a b, from a b h)) lanes
    where
      onto : (a b : ℕ) → IsLaid s 0 a b → IsLaid s (suc s) a b
      onto a b (inl l) = inl l
      onto a b (inr (inl l)) = inr (inl l)
      onto a b (inr (inr (inl (e, l)))) = absurd (omega (arith, l))
      onto a b (inr (inr (inr (e, l)))) = absurd (omega (arith, l))

      from : (a b : ℕ) → Has b (links_of tree a) → IsLaid s (suc s) a b → IsLaid s 0 a b
      from a b h (inl l) = inl l
      from a b h (inr (inl l)) = inr (inl l)
      from a b h (inr (inr (inl (e, l)))) = elim (below-or-at b s l) [ inl k ↦ inr (inl k) | inr q ↦ absurd (laws.hops.apart s (subst (λ n. Has n (links_of tree s)) q (subst (λ n. Has b (links_of tree n)) e h))) ]
      from a b h (inr (inr (inr (e, l)))) = elim (below-or-at a s l) [ inl k ↦ inl k | inr q ↦ absurd (laws.hops.apart s (subst (λ n. Has n (links_of tree s)) e (subst (λ n. Has b (links_of tree n)) q h))) ]

  -- and ended
  pub lanes-ended : (s bound : ℕ) (rows : List (List Link)) → tree.count < bound → AreLanes tree s bound rows → AreLanes tree (suc s) 0 rows
  lanes-ended s bound rows high lanes = relaid s bound (suc s) 0 rows (λ a b h. (onto a b, from a b h)) lanes
    where
      onto : (a b : ℕ) → IsLaid s bound a b → IsLaid (suc s) 0 a b
      onto a b (inl l) = inl (omega (arith, l))
      onto a b (inr (inl l)) = inr (inl (omega (arith, l)))
      onto a b (inr (inr (inl (e, l)))) = inl (omega (arith, e))
      onto a b (inr (inr (inr (e, l)))) = inr (inl (omega (arith, e)))

      from : (a b : ℕ) → Has b (links_of tree a) → IsLaid (suc s) 0 a b → IsLaid s bound a b
      from a b h (inl l) = elim (below-or-at a s l) [ inl k ↦ inl k | inr q ↦ (let w = link-server a b h in inr (inr (inl (q, omega (arith, w.1, high))))) ]
      from a b h (inr (inl l)) = elim (below-or-at b s l) [ inl k ↦ inr (inl k) | inr q ↦ (let w = link-server b a (laws.hops.both a b h) in inr (inr (inr (q, omega (arith, w.1, high))))) ]
      from a b h (inr (inr (inl (e, l)))) = absurd (omega (arith, l))
      from a b h (inr (inr (inr (e, l)))) = absurd (omega (arith, l))

  -- there is no edge to this server
  pub lanes-skipped : (s t : ℕ) (rows : List (List Link)) → (Has t (links_of tree s) → ⊥) → AreLanes tree s t rows → AreLanes tree s (suc t) rows
  lanes-skipped s t rows none lanes = relaid s t s (suc t) rows (λ a b h. (onto a b, from a b h)) lanes
    where
      onto : (a b : ℕ) → IsLaid s t a b → IsLaid s (suc t) a b
      onto a b (inl l) = inl l
      onto a b (inr (inl l)) = inr (inl l)
      onto a b (inr (inr (inl (e, l)))) = inr (inr (inl (e, omega (arith, l))))
      onto a b (inr (inr (inr (e, l)))) = inr (inr (inr (e, omega (arith, l))))

      from : (a b : ℕ) → Has b (links_of tree a) → IsLaid s (suc t) a b → IsLaid s t a b
      from a b h (inl l) = inl l
      from a b h (inr (inl l)) = inr (inl l)
      from a b h (inr (inr (inl (e, l)))) = elim (below-or-at b t l) [ inl k ↦ inr (inr (inl (e, k))) | inr q ↦ absurd (none (subst (λ n. Has n (links_of tree s)) q (subst (λ n. Has b (links_of tree n)) e h))) ]
      from a b h (inr (inr (inr (e, l)))) = elim (below-or-at a t l) [ inl k ↦ inr (inr (inr (e, k))) | inr q ↦ absurd (none (laws.hops.both t s (subst (λ n. Has n (links_of tree t)) e (subst (λ n. Has b (links_of tree n)) q h)))) ]

  -- no lane is laid before any server's turn
  pub lanes-first : (rows : List (List Link)) → AreNone tree.count rows → AreLanes tree 1 0 rows
  lanes-first rows none = record {
    long = none.long;
    rising = λ k r e. subst (λ (l : List Link). IsRising nat_lt (neighbours_in l)) (sym (empty k r e)) tt;
    members = λ k r e b. ((λ h. absurd (subst (λ (l : List Link). Has b (neighbours_in l)) (empty k r e) h)), (λ m. absurd (nothing (suc k) b (omega arith) m.0 m.1)));
    new = λ k r e. subst (λ (l : List Link). Each IsNew l) (sym (empty k r e)) tt;
    ends = λ i k q p a b x y ea eb ex ey n m. absurd (let z : slice_get [] q ≡ Some x = subst (λ (l : List Link). slice_get l q ≡ Some x) (empty i a ea) ex in cc);
  }
    where
      has-row : (rs : List (List Link)) (k : ℕ) (r : List Link) → slice_get rs k ≡ Some r → Has r rs
      has-row [] k r e = absurd cc
      has-row (x ∷ rs) zero r e = inl (same_Some r x (sym e))
      has-row (x ∷ rs) (suc k) r e = inr (has-row rs k r e)

      empty : (k : ℕ) (r : List Link) → slice_get rows k ≡ Some r → r ≡ []
      empty k r e = none.none r (has-row rows k r e)

      nothing : (a b : ℕ) → 1 ≤ a → Has b (links_of tree a) → IsLaid 1 0 a b → ⊥
      nothing a b one h (inl l) = omega (arith, l, one)
      nothing a b one h (inr (inl l)) = let w = link-server a b h in omega (arith, l, w.0)
      nothing a b one h (inr (inr (inl (e, l)))) = omega (arith, l)
      nothing a b one h (inr (inr (inr (e, l)))) = omega (arith, l)

  -- ALL LANES are laid after the last server's turn
  pub lanes-last : (s : ℕ) (rows : List (List Link)) → tree.count < s → AreLanes tree s 0 rows → AreLanesOf tree rows
  lanes-last s rows high lanes = record {
    long = lanes.long;
    names = λ k r e.
        rising-equal (neighbours_in r) (links_of tree (suc k)) (lanes.rising k r e) (laws.rising (suc k)) (λ b h. ((lanes.members k r e b).0 h).0)
        (λ b h. (lanes.members k r e b).1 (h, (let lt = within rows r k e in let n = lanes.long in inl (omega (arith, lt, n, high)))));
    new = lanes.new;
    ends = lanes.ends;
  }

  -- two servers were joined
  module _ (s t : ℕ) (rows new : List (List Link)) (counted : 1 ≤ s) (above : s < t) (edge : Has t (links_of tree s)) (lanes : AreLanes tree s t rows) (j : AreJoinedByLanes s t rows new) where
    unlaid-one : IsLaid s t s t → ⊥
    unlaid-one (inl l) = omega (arith, l)
    unlaid-one (inr (inl l)) = omega (arith, l, above)
    unlaid-one (inr (inr (inl (e, l)))) = omega (arith, l)
    unlaid-one (inr (inr (inr (e, l)))) = omega (arith, e, above)

    unlaid-other : IsLaid s t t s → ⊥
    unlaid-other (inl l) = omega (arith, l, above)
    unlaid-other (inr (inl l)) = omega (arith, l)
    unlaid-other (inr (inr (inl (e, l)))) = omega (arith, e, above)
    unlaid-other (inr (inr (inr (e, l)))) = omega (arith, l)

    more : (a b : ℕ) → IsLaid s t a b → IsLaid s (suc t) a b
    more a b (inl l) = inl l
    more a b (inr (inl l)) = inr (inl l)
    more a b (inr (inr (inl (e, l)))) = inr (inr (inl (e, omega (arith, l))))
    more a b (inr (inr (inr (e, l)))) = inr (inr (inr (e, omega (arith, l))))

    less-laid : (a b : ℕ) → IsLaid s (suc t) a b → IsLaid s t a b ⊎ (((a ≡ s) × (b ≡ t)) ⊎ ((b ≡ s) × (a ≡ t)))
    less-laid a b (inl l) = inl (inl l)
    less-laid a b (inr (inl l)) = inl (inr (inl l))
    less-laid a b (inr (inr (inl (e, l)))) = elim (below-or-at b t l) [ inl k ↦ inl (inr (inr (inl (e, k)))) | inr q ↦ inr (inl (e, q)) ]
    less-laid a b (inr (inr (inr (e, l)))) = elim (below-or-at a t l) [ inl k ↦ inl (inr (inr (inr (e, k)))) | inr q ↦ inr (inr (e, q)) ]

    apart : s ≡ t → ⊥
    apart e = omega (arith, e, above)

    then-row : (k : ℕ) (row : List Link) → slice_get new k ≡ Some row → (r : List Link) × (slice_get rows k ≡ Some r) × IsRowThen s t j.mine j.theirs k r row
    then-row k row e = row-then s t rows new counted (omega (arith, counted, above)) apart j k row e

    laid-below-t : (b : ℕ) → IsLaid s t s b → b < t
    laid-below-t b (inl l) = absurd (omega (arith, l))
    laid-below-t b (inr (inl l)) = omega (arith, l, above)
    laid-below-t b (inr (inr (inl (e, l)))) = l
    laid-below-t b (inr (inr (inr (e, l)))) = omega (arith, e, above)

    laid-below-s : (b : ℕ) → IsLaid s t t b → b < s
    laid-below-s b (inl l) = absurd (omega (arith, l, above))
    laid-below-s b (inr (inl l)) = l
    laid-below-s b (inr (inr (inl (e, l)))) = absurd (omega (arith, e, above))
    laid-below-s b (inr (inr (inr (e, l)))) = absurd (omega (arith, l))

    rising-then : (k : ℕ) (row : List Link) → slice_get new k ≡ Some row → IsRising nat_lt (neighbours_in row)
    rising-then k row e = go (then-row k row e)
      where
        go : (r : List Link) × (slice_get rows k ≡ Some r) × IsRowThen s t j.mine j.theirs k r row → IsRising nat_lt (neighbours_in row)
        go (r, f, Mine p q) =
            subst (λ (l : List Link). IsRising nat_lt (neighbours_in l)) (sym q) (subst (λ l. IsRising nat_lt l) (sym (named-end r j.mine))
            (rising-end (neighbours_in r) j.mine.neighbour (lanes.rising k r f) (λ y h. subst (λ n. y < n) (sym j.between.there) (laid-below-t y (subst (λ n. IsLaid s t n y) p ((lanes.members k r f y).0 h).1)))))
        go (r, f, Theirs p q) =
            subst (λ (l : List Link). IsRising nat_lt (neighbours_in l)) (sym q) (subst (λ l. IsRising nat_lt l) (sym (named-end r j.theirs))
            (rising-end (neighbours_in r) j.theirs.neighbour (lanes.rising k r f) (λ y h. subst (λ n. y < n) (sym j.between.back) (laid-below-s y (subst (λ n. IsLaid s t n y) p ((lanes.members k r f y).0 h).1)))))
        go (r, f, Kept p p' q) = subst (λ (l : List Link). IsRising nat_lt (neighbours_in l)) (sym q) (lanes.rising k r f)

    members-then : (k : ℕ) (row : List Link) → slice_get new k ≡ Some row → (b : ℕ) → Has b (neighbours_in row) ↔ (Has b (links_of tree (suc k)) × IsLaid s (suc t) (suc k) b)
    members-then k row e b = go (then-row k row e)
      where
        with-one : (r : List Link) (x : Link) → slice_get rows k ≡ Some r → row ≡ r ++ x ∷ [] → Has x.neighbour (links_of tree (suc k)) → IsLaid s (suc t) (suc k) x.neighbour
            → (IsLaid s (suc t) (suc k) b → IsLaid s t (suc k) b ⊎ (b ≡ x.neighbour)) → Has b (neighbours_in row) ↔ (Has b (links_of tree (suc k)) × IsLaid s (suc t) (suc k) b)
        with-one r x f q linked laid either = (onto, from)
          where
            names-are : neighbours_in row ≡ neighbours_in r ++ x.neighbour ∷ []
            names-are = ap (λ (l : List Link). neighbours_in l) q ∙ named-end r x

            onto : Has b (neighbours_in row) → Has b (links_of tree (suc k)) × IsLaid s (suc t) (suc k) b
            onto h = elim (split-end b (neighbours_in r) x.neighbour (subst (Has b) names-are h)) [
              | inl a ↦ (let m = (lanes.members k r f b).0 a in (m.0, more (suc k) b m.1))
              | inr z ↦ (subst (λ n. Has n (links_of tree (suc k))) (sym z) linked, subst (λ n. IsLaid s (suc t) (suc k) n) (sym z) laid)
            ]

            from : Has b (links_of tree (suc k)) × IsLaid s (suc t) (suc k) b → Has b (neighbours_in row)
            from (h, l) = subst (Has b) (sym names-are) (end-has b (neighbours_in r) x.neighbour (elim (either l) [ inl a ↦ inl ((lanes.members k r f b).1 (h, a)) | inr z ↦ inr z ]))

        go : (r : List Link) × (slice_get rows k ≡ Some r) × IsRowThen s t j.mine j.theirs k r row → Has b (neighbours_in row) ↔ (Has b (links_of tree (suc k)) × IsLaid s (suc t) (suc k) b)
        go (r, f, Mine p q) =
            with-one r j.mine f q (subst (λ n. Has n (links_of tree (suc k))) (sym j.between.there) (subst (λ n. Has t (links_of tree n)) (sym p) edge))
            (let n = j.between.there in inr (inr (inl (p, omega (arith, n)))))
            (λ l. elim (less-laid (suc k) b l) [ inl a ↦ inl a | inr (inl z) ↦ inr (z.1 ∙ sym j.between.there) | inr (inr z) ↦ absurd (apart (sym p ∙ z.1)) ])
        go (r, f, Theirs p q) =
            with-one r j.theirs f q (subst (λ n. Has n (links_of tree (suc k))) (sym j.between.back) (subst (λ n. Has s (links_of tree n)) (sym p) (laws.hops.both s t edge)))
            (inr (inr (inr (j.between.back, omega (arith, p)))))
            (λ l. elim (less-laid (suc k) b l) [ inl a ↦ inl a | inr (inl z) ↦ absurd (apart (sym z.0 ∙ p)) | inr (inr z) ↦ inr (z.0 ∙ sym j.between.back) ])
        go (r, f, Kept p p' q) = (
          (λ h. let m = (lanes.members k r f b).0 (subst (λ (l : List Link). Has b (neighbours_in l)) q h) in (m.0, more (suc k) b m.1)),
          (λ m. subst (λ (l : List Link). Has b (neighbours_in l)) (sym q) (elim (less-laid (suc k) b m.1) [ inl a ↦ (lanes.members k r f b).1 (m.0, a) | inr (inl z) ↦ absurd (p z.0) | inr (inr z) ↦ absurd (p' z.1) ])),
        )

    new-then : (k : ℕ) (row : List Link) → slice_get new k ≡ Some row → Each IsNew row
    new-then k row e = go (then-row k row e)
      where
        go : (r : List Link) × (slice_get rows k ≡ Some r) × IsRowThen s t j.mine j.theirs k r row → Each IsNew row
        go (r, f, Mine p q) = subst (λ (l : List Link). Each IsNew l) (sym q) (each-end IsNew r j.mine (lanes.new k r f) j.between.new_one)
        go (r, f, Theirs p q) = subst (λ (l : List Link). Each IsNew l) (sym q) (each-end IsNew r j.theirs (lanes.new k r f) j.between.new_other)
        go (r, f, Kept p p' q) = subst (λ (l : List Link). Each IsNew l) (sym q) (lanes.new k r f)

    -- an old link's neighbour is laid
    old-laid : (k q : ℕ) (r : List Link) (x : Link) (b : ℕ) → slice_get rows k ≡ Some r → slice_get r q ≡ Some x → x.neighbour ≡ b → IsLaid s t (suc k) b
    old-laid k q r x b e f n = subst (λ m. IsLaid s t (suc k) m) n (((lanes.members k r e x.neighbour).0 (named-at r q x f)).1)

    -- where a link of a row comes from
    data IsFrom (k q : ℕ) (x : Link) : Type 0 where
      Old : (r : List Link) → slice_get rows k ≡ Some r → slice_get r q ≡ Some x → IsFrom k q x
      One : suc k ≡ s → x ≡ j.mine → IsFrom k q x
      Other : suc k ≡ t → x ≡ j.theirs → IsFrom k q x

    from-where : (k q : ℕ) (row : List Link) (x : Link) → slice_get new k ≡ Some row → slice_get row q ≡ Some x → IsFrom k q x
    from-where k q row x e f = go (then-row k row e)
      where
        go : (r : List Link) × (slice_get rows k ≡ Some r) × IsRowThen s t j.mine j.theirs k r row → IsFrom k q x
        go (r, g, Mine p z) = elim (get-end r j.mine x q (subst (λ (l : List Link). slice_get l q ≡ Some x) z f)) [ inl a ↦ Old r g a | inr b ↦ One p b ]
        go (r, g, Theirs p z) = elim (get-end r j.theirs x q (subst (λ (l : List Link). slice_get l q ≡ Some x) z f)) [ inl a ↦ Old r g a | inr b ↦ Other p b ]
        go (r, g, Kept p p' z) = Old r g (subst (λ (l : List Link). slice_get l q ≡ Some x) z f)

    ends-then : AreEnds new
    ends-then i k q p a b x y ea eb ex ey n m = go (from-where i q a x ea ex) (from-where k p b y eb ey)
      where
        name : (x z : Link) (w : ℕ) → x ≡ z → z.neighbour ≡ w → x.neighbour ≡ w
        name x z w e f = ap (λ (v : Link). v.neighbour) e ∙ f

        go : IsFrom i q x → IsFrom k p y → IsOneLane x y
        go (Old r g h) (Old r' g' h') = lanes.ends i k q p r r' x y g g' h h' n m
        go (Old r g h) (One u v) = absurd (unlaid-other (subst (λ z. IsLaid s t z s) (sym m ∙ name y j.mine t v j.between.there) (old-laid i q r x s g h (n ∙ u))))
        go (Old r g h) (Other u v) = absurd (unlaid-one (subst (λ z. IsLaid s t z t) (sym m ∙ name y j.theirs s v j.between.back) (old-laid i q r x t g h (n ∙ u))))
        go (One u v) (Old r g h) = absurd (unlaid-other (subst (λ z. IsLaid s t z s) (sym n ∙ name x j.mine t v j.between.there) (old-laid k p r y s g h (m ∙ u))))
        go (Other u v) (Old r g h) = absurd (unlaid-one (subst (λ z. IsLaid s t z t) (sym n ∙ name x j.theirs s v j.between.back) (old-laid k p r y t g h (m ∙ u))))
        go (One u v) (One u' v') = absurd (apart (sym u' ∙ sym n ∙ name x j.mine t v j.between.there))
        go (Other u v) (Other u' v') = absurd (apart (sym (name x j.theirs s v j.between.back) ∙ n ∙ u'))
        go (One u v) (Other u' v') = subst (λ z. IsOneLane z y) (sym v) (subst (λ z. IsOneLane j.mine z) (sym v') j.between.onward)
        go (Other u v) (One u' v') = subst (λ z. IsOneLane z y) (sym v) (subst (λ z. IsOneLane j.theirs z) (sym v') j.between.backward)

    pub lanes-joined : AreLanes tree s (suc t) new
    lanes-joined = record {
      long = ap (λ (l : List (List Link)). length l) j.rows ∙ long-with (t - 1) j.theirs (with_link (s - 1) j.mine rows) ∙ long-with (s - 1) j.mine rows ∙ lanes.long;
      rising = rising-then;
      members = members-then;
      new = new-then;
      ends = ends-then;
    }
