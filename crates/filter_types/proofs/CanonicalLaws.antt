-- The canonical list, from a sort and the removal of repeats.
use Rattle.std.proofs.Common.{inl, inr, ◌⊎◌, ◌≡◌, ◌↔◌, ℕ, zero, suc, ◌+◌, ◌<◌, ◌≤◌, Bool, true, false, cond, refl, sym, ap, subst, ◌∙◌, arith, List, [], ◌∷◌, length, get_or, Ordering, add-one}
use Rattle.std.specs.declared.cmp.Ordering.TheVariants.{Less, Equal, Greater}
use Rattle.std.specs.Ordering.{is_lt, is_eq, ordering_reverse, eq_by_cmp}
use Rattle.std.specs.List.{Contains, items_where_true}
use Rattle.std.specs.List.Sorted.{IsPermutation, IsSorted}
use Rattle.std.specs.List.Retain.{IsFiltered, DiffersFromLast, ReturnsInTurn}
use Rattle.std.proofs.lemmas.Cmp.{tied_itself}
use Rattle.std.proofs.lemmas.List.Sorted.{Contains-permutation, IsPermutation-sym}
use Rattle.filter_constraints.specs.Constraint.{ConstraintParts}
use Rattle.filter_constraints.specs.Order.{constraint_cmp}
use Rattle.filter_constraints.specs.OrderTotal.{constraint_total}
use Rattle.filter_constraints.proofs.OrderLaws.{parts-tied}
use Rattle.filter_types.specs.Canonical.{placed, put, canonical, IsBelow, AreInCanonicalOrder}
use Rattle.base.specs.Sets.{Has}

itself : (c : ConstraintParts) → constraint_cmp c c ≡ Equal
itself c = tied_itself constraint_total c

below-below : (c d : ConstraintParts) (xs : List ConstraintParts) → constraint_cmp c d ≡ Less → IsBelow d xs → IsBelow c xs
below-below c d [] h b = tt
below-below c d (e ∷ xs) h b = (constraint_total.trans c d e h b.0, below-below c d xs h b.1)

below-has : (c x : ConstraintParts) (xs : List ConstraintParts) → IsBelow c xs → Has x xs → constraint_cmp c x ≡ Less
below-has c x [] b m = absurd m
below-has c x (d ∷ xs) b (inl e) = ap (constraint_cmp c) e ∙ b.0
below-has c x (d ∷ xs) b (inr m) = below-has c x xs b.1 m

turned : (c d : ConstraintParts) → constraint_cmp c d ≡ Greater → constraint_cmp d c ≡ Less
turned c d h = constraint_total.antisymm d c ∙ ap ordering_reverse h

below-put : (k c : ConstraintParts) (xs : List ConstraintParts) → constraint_cmp k c ≡ Less → IsBelow k xs → IsBelow k (put c xs)
below-put k c [] h b = (h, tt)
below-put k c (d ∷ xs) h b = go (constraint_cmp c d) (below-put k c xs h b.1)
  where
    go : (o : Ordering) → IsBelow k (put c xs) → IsBelow k (placed o c d xs (put c xs))
    go Less later = (h, b)
    go Equal later = b
    go Greater later = (b.0, later)

rises-put : (c : ConstraintParts) (xs : List ConstraintParts) → AreInCanonicalOrder xs → AreInCanonicalOrder (put c xs)
rises-put c [] r = (tt, tt)
rises-put c (d ∷ xs) r = go (constraint_cmp c d) refl (rises-put c xs r.1)
  where
    go : (o : Ordering) → constraint_cmp c d ≡ o → AreInCanonicalOrder (put c xs) → AreInCanonicalOrder (placed o c d xs (put c xs))
    go Less e later = ((e, below-below c d xs e r.0), r)
    go Equal e later = r
    go Greater e later = (below-put d c xs (turned c d e) r.0, later)

pub rises : (xs : List ConstraintParts) → AreInCanonicalOrder (canonical xs)
unfolding canonical
rises [] = tt
rises (c ∷ xs) = rises-put c (canonical xs) (rises xs)

put-has : (x c : ConstraintParts) (xs : List ConstraintParts) → Has x (put c xs) → (x ≡ c) ⊎ Has x xs
put-has x c [] (inl e) = inl e
put-has x c [] (inr m) = absurd m
put-has x c (d ∷ xs) m = go (constraint_cmp c d) m (λ n. put-has x c xs n)
  where
    go : (o : Ordering) → Has x (placed o c d xs (put c xs)) → (Has x (put c xs) → (x ≡ c) ⊎ Has x xs) → (x ≡ c) ⊎ Has x (d ∷ xs)
    go Less m k = m
    go Equal m k = inr m
    go Greater (inl e) k = inr (inl e)
    go Greater (inr n) k = elim (k n) [ inl e ↦ inl e | inr p ↦ inr (inr p) ]

has-put : (x c : ConstraintParts) (xs : List ConstraintParts) → (x ≡ c) ⊎ Has x xs → Has x (put c xs)
has-put x c [] m = m
has-put x c (d ∷ xs) m = go (constraint_cmp c d) refl m (λ n. has-put x c xs n)
  where
    go : (o : Ordering) → constraint_cmp c d ≡ o → (x ≡ c) ⊎ Has x (d ∷ xs) → ((x ≡ c) ⊎ Has x xs → Has x (put c xs)) → Has x (placed o c d xs (put c xs))
    go Less e m k = m
    go Equal e (inl p) k = inl (p ∙ parts-tied c d e)
    go Equal e (inr m) k = m
    go Greater e (inl p) k = inr (k (inl p))
    go Greater e (inr (inl p)) k = inl p
    go Greater e (inr (inr m)) k = inr (k (inr m))

pub canonical-has : (x : ConstraintParts) (xs : List ConstraintParts) → Has x (canonical xs) → Has x xs
unfolding canonical
canonical-has x [] m = m
canonical-has x (c ∷ xs) m = elim (put-has x c (canonical xs) m) [ inl e ↦ inl e | inr n ↦ inr (canonical-has x xs n) ]

pub has-canonical : (x : ConstraintParts) (xs : List ConstraintParts) → Has x xs → Has x (canonical xs)
unfolding canonical
has-canonical x [] m = m
has-canonical x (c ∷ xs) (inl e) = has-put x c (canonical xs) (inl e)
has-canonical x (c ∷ xs) (inr m) = has-put x c (canonical xs) (inr (has-canonical x xs m))

not_both : (c d : ConstraintParts) → constraint_cmp c d ≡ Less → constraint_cmp d c ≡ Less → ⊥
not_both c d p q = let r : constraint_cmp c c ≡ Less = constraint_total.trans c d c p q in let s = itself c in cc

-- rising lists with the same members are one
unique : (xs ys : List ConstraintParts) → AreInCanonicalOrder xs → AreInCanonicalOrder ys → ((x : ConstraintParts) → Has x xs → Has x ys) → ((x : ConstraintParts) → Has x ys → Has x xs) → xs ≡ ys
unique [] [] r s f g = refl
unique [] (y ∷ ys) r s f g = absurd (g y (inl refl))
unique (x ∷ xs) [] r s f g = absurd (f x (inl refl))
unique (x ∷ xs) (y ∷ ys) r s f g =
    let same : x ≡ y = heads (f x (inl refl)) (g y (inl refl)) in
    let rest : xs ≡ ys = unique xs ys r.1 s.1
    (λ z m. down z x y xs ys same r.0 m (f z (inr m)))
    (λ z m. down z y x ys xs (sym same) s.0 m (g z (inr m))) in
    (λ i. same i ∷ rest i)
  where
    heads : Has x (y ∷ ys) → Has y (x ∷ xs) → x ≡ y
    heads (inl e) n = e
    heads (inr m) (inl e) = sym e
    heads (inr m) (inr n) = absurd (not_both y x (below-has y x ys s.0 m) (below-has x y xs r.0 n))

    down : (z a b : ConstraintParts) (us bs : List ConstraintParts) → a ≡ b → IsBelow a us → Has z us → Has z (b ∷ bs) → Has z bs
    down z a b us bs e w m (inr n) = n
    down z a b us bs e w m (inl p) = let q : constraint_cmp a z ≡ Less = below-has a z us w m in let t : z ≡ a = p ∙ sym e in let u : constraint_cmp a a ≡ Less = subst (λ (v : ConstraintParts). constraint_cmp a v ≡ Less) t q in let v = itself a in absurd cc

has-contains : (x : ConstraintParts) (xs : List ConstraintParts) → Has x xs → Contains xs x
has-contains x [] m = absurd m
has-contains x (y ∷ xs) (inl e) = (0, omega arith, sym e)
has-contains x (y ∷ xs) (inr m) = let t = has-contains x xs m in (suc t.0, omega arith, t.2)

contains-has : (x : ConstraintParts) (xs : List ConstraintParts) → Contains xs x → Has x xs
contains-has x [] t = absurd (omega arith)
contains-has x (y ∷ xs) (zero, l, e) = inl (sym e)
contains-has x (y ∷ xs) (suc k, l, e) = inr (contains-has x xs (k, omega arith, e))

pub canonical_contains : (x : ConstraintParts) (xs : List ConstraintParts) → Contains (canonical xs) x → Contains xs x
canonical_contains x xs t = has-contains x xs (canonical-has x xs (contains-has x (canonical xs) t))

pub contains_canonical : (x : ConstraintParts) (xs : List ConstraintParts) → Contains xs x → Contains (canonical xs) x
contains_canonical x xs t = has-contains x (canonical xs) (has-canonical x xs (contains-has x xs t))

pub unique-contains : (xs ys : List ConstraintParts) → AreInCanonicalOrder xs → AreInCanonicalOrder ys → ((x : ConstraintParts) → Contains xs x ↔ Contains ys x) → xs ≡ ys
unique-contains xs ys r s m = unique xs ys r s (λ x h. contains-has x ys ((m x).0 (has-contains x xs h))) (λ x h. contains-has x xs ((m x).1 (has-contains x ys h)))

-- the canonical list does not depend on the order
pub canonical-permutation : (xs ys : List ConstraintParts) → IsPermutation xs ys → canonical ys ≡ canonical xs
canonical-permutation xs ys p = unique (canonical ys) (canonical xs) (rises ys) (rises xs)
    (λ x m. has-canonical x xs (contains-has x xs (Contains-permutation ys xs x (IsPermutation-sym xs ys p) (has-contains x ys (canonical-has x ys m)))))
    (λ x m. has-canonical x ys (contains-has x ys (Contains-permutation xs ys x p (has-contains x xs (canonical-has x xs m)))))

-- what is kept behind k
abbrev uniq : ConstraintParts → List ConstraintParts → List ConstraintParts
uniq k [] = []
uniq k (x ∷ xs) = cond (eq_by_cmp constraint_cmp x k) (uniq k xs) (x ∷ uniq x xs)

kept : (k : ConstraintParts) (bs : List Bool) (xs q : List ConstraintParts) → length bs ≡ length xs → ReturnsInTurn (DiffersFromLast (eq_by_cmp constraint_cmp)) (k ∷ []) bs xs q → items_where_true bs xs ≡ uniq k xs
kept k [] [] q l r = refl
kept k [] (x ∷ xs) q l r = absurd (omega arith)
kept k (b ∷ bs) [] q l r = absurd (omega arith)
kept k (true ∷ bs) (x ∷ xs) q l r =
    let n : ReturnsInTurn (DiffersFromLast (eq_by_cmp constraint_cmp)) (x ∷ []) bs xs q = subst (λ (p : List ConstraintParts). ReturnsInTurn (DiffersFromLast (eq_by_cmp constraint_cmp)) p bs xs q) r.1.1 r.2 in
    rw (r.1.0, kept x bs xs q (omega arith) n) refl
kept k (false ∷ bs) (x ∷ xs) q l r =
    let n : ReturnsInTurn (DiffersFromLast (eq_by_cmp constraint_cmp)) (k ∷ []) bs xs q = subst (λ (p : List ConstraintParts). ReturnsInTurn (DiffersFromLast (eq_by_cmp constraint_cmp)) p bs xs q) r.1.1 r.2 in
    rw (r.1.0, kept k bs xs q (omega arith) n) refl

abbrev Climbs : List ConstraintParts → Type 0
Climbs [] = Unit {0}
Climbs (x ∷ []) = Unit {0}
Climbs (x ∷ y ∷ xs) = (is_lt (constraint_cmp y x) ≡ false) × Climbs (y ∷ xs)

climbs : (xs : List ConstraintParts) → IsSorted constraint_cmp xs → Climbs xs
climbs [] h = tt
climbs (x ∷ []) h = tt
climbs (x ∷ y ∷ xs) h = (h 0 x (omega arith) (omega arith), climbs (y ∷ xs) (λ k d a b. subst (λ (n : ℕ). is_lt (constraint_cmp (get_or (y ∷ xs) n d) (get_or (y ∷ xs) k d)) ≡ false) (sym (add-one k)) (rest k d b)))
  where
    rest : (k : ℕ) (d : ConstraintParts) → k + 1 < length (y ∷ xs) → is_lt (constraint_cmp (get_or (y ∷ xs) (suc k) d) (get_or (y ∷ xs) k d)) ≡ false
    rest k d b =
        let l : suc k + 1 < length (x ∷ y ∷ xs) = omega arith in
        let z : 0 ≤ suc k = omega arith in
        subst (λ (n : ℕ). is_lt (constraint_cmp (get_or (x ∷ y ∷ xs) n d) (get_or (y ∷ xs) k d)) ≡ false) (add-one (suc k)) (h (suc k) d z l)

clash : (o : Ordering) → o ≡ Less → is_lt o ≡ false → ⊥
clash Less e w = cc
clash Equal e w = cc
clash Greater e w = cc

-- repeats aside, a climbing list is canonical
pub climbs-canonical : (x : ConstraintParts) (xs : List ConstraintParts) → Climbs (x ∷ xs) → canonical (x ∷ xs) ≡ x ∷ uniq x xs
unfolding canonical
climbs-canonical x [] c = refl
climbs-canonical x (y ∷ xs) c = rw (climbs-canonical y xs c.1) (go (constraint_cmp x y) (constraint_cmp y x) refl (constraint_total.antisymm x y) (constraint_total.antisymm y x))
  where
    go : (o p : Ordering) → constraint_cmp x y ≡ o → constraint_cmp x y ≡ ordering_reverse (constraint_cmp y x) → constraint_cmp y x ≡ ordering_reverse (constraint_cmp x y) → placed (constraint_cmp x y) x y (uniq y xs) (put x (uniq y xs)) ≡ x ∷ cond (is_eq (constraint_cmp y x)) (uniq x xs) (y ∷ uniq y xs)
    go Less p e f g = rw (g, e) refl
    go Equal p e f g = let s : x ≡ y = parts-tied x y e in rw (g, e) (subst (λ (z : ConstraintParts). y ∷ uniq y xs ≡ z ∷ uniq z xs) (sym s) refl)
    go Greater p e f g = let h : constraint_cmp y x ≡ Less = turned x y e in let w = c.0 in absurd (clash (constraint_cmp y x) h w)

pub deduped : (xs ys : List ConstraintParts) → IsSorted constraint_cmp xs → IsFiltered (DiffersFromLast (eq_by_cmp constraint_cmp)) [] xs ys → ys ≡ canonical xs
unfolding canonical
deduped [] ys h ([], q, l, r, e) = e
deduped [] ys h (b ∷ bs, q, l, r, e) = absurd (omega arith)
deduped (x ∷ xs) ys h ([], q, l, r, e) = absurd (omega arith)
deduped (x ∷ xs) ys h (true ∷ bs, q, l, r, e) =
    let n : ReturnsInTurn (DiffersFromLast (eq_by_cmp constraint_cmp)) (x ∷ []) bs xs q = subst (λ (p : List ConstraintParts). ReturnsInTurn (DiffersFromLast (eq_by_cmp constraint_cmp)) p bs xs q) r.1.1 r.2 in
    e ∙ ap (λ z. x ∷ z) (kept x bs xs q (omega arith) n) ∙ sym (climbs-canonical x xs (climbs (x ∷ xs) h))
deduped (x ∷ xs) ys h (false ∷ bs, q, l, r, e) = let f = r.1.0 in absurd cc

pub rising : (xs ys : List ConstraintParts) → ys ≡ canonical xs → AreInCanonicalOrder ys
rising xs ys e = subst AreInCanonicalOrder (sym e) (rises xs)

pub canonical_some : (xs ys : List ConstraintParts) → ys ≡ canonical xs → 0 < length xs → 0 < length ys
canonical_some [] ys e l = absurd (omega arith)
canonical_some (x ∷ xs) ys e l = go ys (subst (λ (zs : List ConstraintParts). Has x zs) (sym e) (has-canonical x (x ∷ xs) (inl refl)))
  where
    go : (zs : List ConstraintParts) → Has x zs → 0 < length zs
    go [] m = absurd m
    go (z ∷ zs) m = omega arith

pub canonical_none : (xs : List ConstraintParts) → length xs ≡ 0 → length (canonical xs) ≡ 0
unfolding canonical
canonical_none [] e = refl
canonical_none (x ∷ xs) e = absurd (omega arith)

-- sorted and without repeats
pub settled : (xs ys zs : List ConstraintParts) → IsPermutation xs ys → IsSorted constraint_cmp ys → IsFiltered (DiffersFromLast (eq_by_cmp constraint_cmp)) [] ys zs → zs ≡ canonical xs
settled xs ys zs p s f = deduped ys zs s f ∙ canonical-permutation xs ys p
