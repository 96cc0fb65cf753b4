-- A notice that a line spells is its attributes by names.
use Rattle.std.proofs.Common.{◌≡◌, ◌⊎◌, inl, inr, ℕ, zero, suc, Bool, true, false, cond, Ordering, refl, sym, ap, subst, ◌∙◌, arith, List, [], ◌∷◌}
use Rattle.std.specs.declared.cmp.Ordering.TheVariants.{Less, Equal, Greater}
use Rattle.std.specs.Ordering.{is_lt, nat_cmp, ordering_reverse}
use Rattle.std.specs.Cmp.Lexicographic.{slice_cmp, nat_list_cmp_total}
use Rattle.std.specs.List.{Contains}
use Rattle.std.specs.List.Sorted.{IsPermutation}
use Rattle.std.proofs.lemmas.Cmp.{tied_itself}
use Rattle.std.proofs.lemmas.List.Sorted.{Contains-permutation, IsPermutation-sym}
use Rattle.filter_constraints.proofs.OrderLaws.{list-tied, nat-tied}
use Rattle.base.specs.Sets.{Has, IsRising, put_in, set_of}
use Rattle.filter_types.specs.Notice.{Attribute, AreRising, is_name_less}
use Rattle.base.proofs.Bools.{is_lt-less}
use Rattle.document_script.proofs.UniqueLaws.{rest_rising}

-- The order of names.

pub less_is : (a b : Attribute) → is_name_less a b ≡ true → slice_cmp nat_cmp a.0 b.0 ≡ Less
less_is a b e = is_lt-less (slice_cmp nat_cmp a.0 b.0) e

pub less_of : (a b : Attribute) → slice_cmp nat_cmp a.0 b.0 ≡ Less → is_name_less a b ≡ true
less_of a b e = rw e refl

pub chain : (a b c : Attribute) → is_name_less a b ≡ true → is_name_less b c ≡ true → is_name_less a c ≡ true
chain a b c e f = less_of a c (nat_list_cmp_total.trans a.0 b.0 c.0 (less_is a b e) (less_is b c f))

not_less : (a b : Attribute) → a.0 ≡ b.0 → is_name_less a b ≡ true → ⊥
not_less a b e f =
    let h : slice_cmp nat_cmp b.0 b.0 ≡ Less = subst (λ (x : List ℕ). slice_cmp nat_cmp x b.0 ≡ Less) e (less_is a b f) in
    let s = tied_itself nat_list_cmp_total b.0 in cc

tie : (a b : Attribute) → is_name_less a b ≡ false → is_name_less b a ≡ false → b.0 ≡ a.0
tie a b e f = go (slice_cmp nat_cmp b.0 a.0) refl
  where
    lost : (o : Ordering) → o ≡ Less → is_lt o ≡ false → ⊥
    lost Less p q = cc
    lost Equal p q = cc
    lost Greater p q = cc

    go : (o : Ordering) → slice_cmp nat_cmp b.0 a.0 ≡ o → b.0 ≡ a.0
    go Less p = absurd (lost (slice_cmp nat_cmp b.0 a.0) p f)
    go Equal p = list-tied nat_cmp nat-tied b.0 a.0 p
    go Greater p = absurd (lost (slice_cmp nat_cmp a.0 b.0) (nat_list_cmp_total.antisymm a.0 b.0 ∙ ap ordering_reverse p) e)

above : (a x : Attribute) (n : List Attribute) → AreRising (a ∷ n) → Has x n → is_name_less a x ≡ true
above a x [] r m = absurd m
above a x (b ∷ n) r (inl e) = subst (λ (z : Attribute). is_name_less a z ≡ true) (sym e) (less_of a b r.0)
above a x (b ∷ n) r (inr m) = chain a b x (less_of a b r.0) (above b x n r.1 m)

rises : (n : List Attribute) → AreRising n → IsRising is_name_less n
rises [] r = tt
rises (a ∷ n) r = ((λ x m. above a x n r m), rises n (rest_rising a n r))

-- Lists by names.

pub put-has : (x z : Attribute) (ys : List Attribute) → Has z (put_in is_name_less x ys) → (z ≡ x) ⊎ Has z ys
put-has x z [] (inl e) = inl e
put-has x z [] (inr m) = absurd m
put-has x z (y ∷ ys) h = go (λ m. put-has x z ys m) (is_name_less x y) (is_name_less y x) h
  where
    more : (z ≡ x) ⊎ Has z ys → (z ≡ x) ⊎ Has z (y ∷ ys)
    more (inl e) = inl e
    more (inr m) = inr (inr m)

    go : (Has z (put_in is_name_less x ys) → (z ≡ x) ⊎ Has z ys) → (b c : Bool) → Has z (cond b (x ∷ y ∷ ys) (cond c (y ∷ put_in is_name_less x ys) (y ∷ ys))) → (z ≡ x) ⊎ Has z (y ∷ ys)
    go later true c (inl e) = inl e
    go later true c (inr m) = inr m
    go later false true (inl e) = inr (inl e)
    go later false true (inr m) = more (later m)
    go later false false m = inr m

put-keeps : (x z : Attribute) (ys : List Attribute) → Has z ys → Has z (put_in is_name_less x ys)
put-keeps x z [] h = absurd h
put-keeps x z (y ∷ ys) h = go (λ m. put-keeps x z ys m) (is_name_less x y) (is_name_less y x) h
  where
    go : (Has z ys → Has z (put_in is_name_less x ys)) → (b c : Bool) → Has z (y ∷ ys) → Has z (cond b (x ∷ y ∷ ys) (cond c (y ∷ put_in is_name_less x ys) (y ∷ ys)))
    go later true c m = inr m
    go later false true (inl e) = inl e
    go later false true (inr m) = inr (later m)
    go later false false m = m

put-named : (x : Attribute) (ys : List Attribute) → (y : Attribute) × Has y (put_in is_name_less x ys) × (y.0 ≡ x.0)
put-named x [] = (x, inl refl, refl)
put-named x (y ∷ ys) = go (put-named x ys) (is_name_less x y) (is_name_less y x) refl refl
  where
    go : ((w : Attribute) × Has w (put_in is_name_less x ys) × (w.0 ≡ x.0)) → (b c : Bool) → is_name_less x y ≡ b → is_name_less y x ≡ c → (w : Attribute) × Has w (cond b (x ∷ y ∷ ys) (cond c (y ∷ put_in is_name_less x ys) (y ∷ ys))) × (w.0 ≡ x.0)
    go r true c e f = (x, inl refl, refl)
    go r false true e f = (r.0, inr r.1, r.2)
    go r false false e f = (y, inl refl, tie x y e f)

pub put-rising : (x : Attribute) (ys : List Attribute) → IsRising is_name_less ys → IsRising is_name_less (put_in is_name_less x ys)
put-rising x [] r = ((λ z m. absurd m), tt)
put-rising x (y ∷ ys) r = go (put-rising x ys r.1) (is_name_less x y) (is_name_less y x) refl refl
  where
    before : is_name_less x y ≡ true → (z : Attribute) → Has z (y ∷ ys) → is_name_less x z ≡ true
    before e z (inl q) = subst (λ (w : Attribute). is_name_less x w ≡ true) (sym q) e
    before e z (inr m) = chain x y z e (r.0 z m)

    behind : is_name_less y x ≡ true → (z : Attribute) → (z ≡ x) ⊎ Has z ys → is_name_less y z ≡ true
    behind f z (inl q) = subst (λ (w : Attribute). is_name_less y w ≡ true) (sym q) f
    behind f z (inr m) = r.0 z m

    go : IsRising is_name_less (put_in is_name_less x ys) → (b c : Bool) → is_name_less x y ≡ b → is_name_less y x ≡ c → IsRising is_name_less (cond b (x ∷ y ∷ ys) (cond c (y ∷ put_in is_name_less x ys) (y ∷ ys)))
    go q true c e f = ((λ z m. before e z m), r)
    go q false true e f = ((λ z m. behind f z (put-has x z ys m)), q)
    go q false false e f = r

pub set-rising : (xs : List Attribute) → IsRising is_name_less (set_of is_name_less xs)
set-rising [] = tt
set-rising (x ∷ xs) = put-rising x (set_of is_name_less xs) (set-rising xs)

set-has : (z : Attribute) (xs : List Attribute) → Has z (set_of is_name_less xs) → Has z xs
set-has z [] m = m
set-has z (x ∷ xs) m = go (λ h. set-has z xs h) (put-has x z (set_of is_name_less xs) m)
  where
    go : (Has z (set_of is_name_less xs) → Has z xs) → (z ≡ x) ⊎ Has z (set_of is_name_less xs) → Has z (x ∷ xs)
    go later (inl e) = inl e
    go later (inr h) = inr (later h)

set-named : (x : Attribute) (xs : List Attribute) → Has x xs → (y : Attribute) × Has y (set_of is_name_less xs) × (y.0 ≡ x.0)
set-named x [] m = absurd m
set-named x (w ∷ xs) (inl e) =
    let r = put-named w (set_of is_name_less xs) in
    (r.0, r.1, r.2 ∙ ap (λ (z : Attribute). z.0) (sym e))
set-named x (w ∷ xs) (inr m) =
    let r = set-named x xs m in
    (r.0, put-keeps w r.0 (set_of is_name_less xs) r.1, r.2)

-- Rising lists.

one_of_name : (n : List Attribute) → IsRising is_name_less n → (x y : Attribute) → Has x n → Has y n → x.0 ≡ y.0 → x ≡ y
one_of_name [] r x y h k e = absurd h
one_of_name (a ∷ n) r x y (inl p) (inl q) e = p ∙ sym q
one_of_name (a ∷ n) r x y (inl p) (inr k) e = absurd (not_less x y e (subst (λ (z : Attribute). is_name_less z y ≡ true) (sym p) (r.0 y k)))
one_of_name (a ∷ n) r x y (inr h) (inl q) e = absurd (not_less y x (sym e) (subst (λ (z : Attribute). is_name_less z x ≡ true) (sym q) (r.0 x h)))
one_of_name (a ∷ n) r x y (inr h) (inr k) e = one_of_name n r.1 x y h k e

same : (m n : List Attribute) → IsRising is_name_less m → IsRising is_name_less n → ((x : Attribute) → Has x m → Has x n) → ((x : Attribute) → Has x n → Has x m) → m ≡ n
same [] [] r s f g = refl
same [] (b ∷ n) r s f g = absurd (g b (inl refl))
same (a ∷ m) [] r s f g = absurd (f a (inl refl))
same (a ∷ m) (b ∷ n) r s f g =
    let first : a ≡ b = heads (f a (inl refl)) (g b (inl refl)) in
    let rest : m ≡ n = same m n r.1 s.1
    (λ z h. down z a b n first (r.0 z h) (f z (inr h)))
    (λ z h. down z b a m (sym first) (s.0 z h) (g z (inr h))) in
    cc
  where
    heads : Has a (b ∷ n) → Has b (a ∷ m) → a ≡ b
    heads (inl e) h = e
    heads (inr h) (inl e) = sym e
    heads (inr h) (inr k) = absurd (not_less b b refl (chain b a b (s.0 a h) (r.0 b k)))

    down : (z c d : Attribute) (vs : List Attribute) → c ≡ d → is_name_less c z ≡ true → Has z (d ∷ vs) → Has z vs
    down z c d vs e w (inr k) = k
    down z c d vs e w (inl p) = absurd (not_less c z (ap (λ (v : Attribute). v.0) (e ∙ sym p)) w)

has-contains : (x : Attribute) (xs : List Attribute) → Has x xs → Contains xs x
has-contains x [] m = absurd m
has-contains x (y ∷ xs) (inl e) = (0, omega arith, sym e)
has-contains x (y ∷ xs) (inr m) = let t = has-contains x xs m in (suc t.0, omega arith, t.2)

contains-has : (x : Attribute) (xs : List Attribute) → Contains xs x → Has x xs
contains-has x [] t = absurd (omega arith)
contains-has x (y ∷ xs) (zero, l, e) = inl (sym e)
contains-has x (y ∷ xs) (suc k, l, e) = inr (contains-has x xs (k, omega arith, e))

-- attributes in another order, that of their names, are the list by names
pub rising_is_set : (xs n : List Attribute) → IsPermutation xs n → AreRising n → n ≡ set_of is_name_less xs
rising_is_set xs n p a = same n (set_of is_name_less xs) r (set-rising xs) into (λ x m. onto x (set-has x xs m))
  where
    r : IsRising is_name_less n
    r = rises n a

    onto : (x : Attribute) → Has x xs → Has x n
    onto x m = contains-has x n (Contains-permutation xs n x p (has-contains x xs m))

    from : (x : Attribute) → Has x n → Has x xs
    from x m = contains-has x xs (Contains-permutation n xs x (IsPermutation-sym xs n p) (has-contains x n m))

    into : (x : Attribute) → Has x n → Has x (set_of is_name_less xs)
    into x m =
        let s = set-named x xs (from x m) in
        subst (λ (z : Attribute). Has z (set_of is_name_less xs)) (one_of_name n r s.0 x (onto s.0 (set-has s.0 xs s.1)) m s.2) s.1
