-- Rising lists as sets: members, and that equal members make equal lists.
use Rattle.std.proofs.Common.{◌≡◌, Bool, true, false, cond, not, List, [], ◌∷◌, ◌⊎◌, ◌↔◌, inl, inr, filter, refl, sym, subst, ap₂, ◌∙◌, arith}
use Rattle.base.specs.Laws.{CoverLaws}
use Rattle.base.specs.Sets.{Has, same, same_list, member, IsRising, put_in, union, minus, set_of, roots, is_root}
use Rattle.base.proofs.Roots.{Has-filter, filter-Has, roots-iff}
use Rattle.std.specs.List.{Contains, flat_map, list_any, range_with_len}
use Rattle.base.specs.Numbers.{IsDistinct}
use Rattle.std.specs.List.Sorted.{IsStrictlyIncreasing}
use Rattle.std.proofs.Common.{IsTrue, Some, ap, eq-eqb, get_or, length, map, nat_lt, slice_get, suc, zero, ℕ, ◌++◌, ◌+◌, ◌-◌, ◌<◌, ◌==◌, ◌≤◌}
use Rattle.base.proofs.Numbers.{lt-nat_lt}
use Rattle.std.proofs.lemmas.Bool.Decides.{nat_tests}
use Rattle.std.proofs.lemmas.Option.{same_Some}
use Rattle.std.specs.Prelude.{slice_index, ◌||◌}

module _ {T : Type 0} {covers before : T → T → Bool} (laws : CoverLaws covers before) where
  same-self : (x : T) → same before x x ≡ true
  same-self x = grind (arith, laws.irreflexive x)

  same-equal : (x y : T) → same before x y ≡ true → x ≡ y
  same-equal x y e = laws.total x y (grind arith) (grind arith)

  pub member-has : (x : T) (xs : List T) → member before x xs ≡ true → Has x xs
  member-has x [] e = absurd cc
  member-has x (y ∷ ys) e = go (same before x y) refl (member-has x ys)
    where
      go : (b : Bool) → same before x y ≡ b → (member before x ys ≡ true → Has x ys) → Has x (y ∷ ys)
      go true q ih = inl (same-equal x y q)
      go false q ih = inr (ih (rw q at e))

  pub has-member : (x : T) (xs : List T) → Has x xs → member before x xs ≡ true
  has-member x [] h = absurd h
  has-member x (y ∷ ys) (inl q) = rw (← q) (rw (same-self x) refl)
  has-member x (y ∷ ys) (inr h) = grind (arith, has-member x ys h)

  place : (x y z : T) (zs : List T) (a b : Bool) → before x z ≡ a → before z x ≡ b → (Has y (put_in before x zs) ↔ ((y ≡ x) ⊎ Has y zs))
      → Has y (cond a (x ∷ z ∷ zs) (cond b (z ∷ put_in before x zs) (z ∷ zs))) ↔ ((y ≡ x) ⊎ Has y (z ∷ zs))
  place x y z zs true b e f ih = (λ h. h, λ h. h)
  place x y z zs false true e f ih = (to, from)
    where
      to : Has y (z ∷ put_in before x zs) → (y ≡ x) ⊎ Has y (z ∷ zs)
      to (inl q) = inr (inl q)
      to (inr h) = elim (ih.0 h) [ inl q ↦ inl q | inr m ↦ inr (inr m) ]

      from : (y ≡ x) ⊎ Has y (z ∷ zs) → Has y (z ∷ put_in before x zs)
      from (inl q) = inr (ih.1 (inl q))
      from (inr (inl q)) = inl q
      from (inr (inr m)) = inr (ih.1 (inr m))
  place x y z zs false false e f ih = (λ h. inr h, from)
    where
      from : (y ≡ x) ⊎ Has y (z ∷ zs) → Has y (z ∷ zs)
      from (inl q) = inl (q ∙ laws.total x z e f)
      from (inr h) = h

  pub has-put_in : (x y : T) (ys : List T) → Has y (put_in before x ys) ↔ ((y ≡ x) ⊎ Has y ys)
  has-put_in x y [] = (λ h. h, λ h. h)
  has-put_in x y (z ∷ zs) = place x y z zs (before x z) (before z x) refl refl (has-put_in x y zs)

  rising-place : (x z : T) (zs : List T) (a b : Bool) → before x z ≡ a → before z x ≡ b → IsRising before (z ∷ zs) → IsRising before (put_in before x zs)
      → IsRising before (cond a (x ∷ z ∷ zs) (cond b (z ∷ put_in before x zs) (z ∷ zs)))
  rising-place x z zs true b e f r ih = (first, r)
    where
      first : (y : T) → Has y (z ∷ zs) → before x y ≡ true
      first y (inl q) = rw q e
      first y (inr h) = laws.chain x z y e (r.0 y h)
  rising-place x z zs false true e f r ih = (first, ih)
    where
      first : (y : T) → Has y (put_in before x zs) → before z y ≡ true
      first y h = elim ((has-put_in x y zs).0 h) [ inl q ↦ rw q f | inr m ↦ r.0 y m ]
  rising-place x z zs false false e f r ih = r

  pub rising-put_in : (x : T) (ys : List T) → IsRising before ys → IsRising before (put_in before x ys)
  rising-put_in x [] r = ((λ y h. absurd h), tt)
  rising-put_in x (z ∷ zs) r = rising-place x z zs (before x z) (before z x) refl refl r (rising-put_in x zs r.1)

  pub rising-union : (xs ys : List T) → IsRising before ys → IsRising before (union before xs ys)
  rising-union [] ys r = r
  rising-union (x ∷ xs) ys r = rising-put_in x (union before xs ys) (rising-union xs ys r)

  pub has-union : (y : T) (xs ys : List T) → Has y (union before xs ys) ↔ (Has y xs ⊎ Has y ys)
  has-union y [] ys = ((λ h. inr h), from)
    where
      from : (⊥ ⊎ Has y ys) → Has y ys
      from (inl h) = absurd h
      from (inr h) = h
  has-union y (x ∷ xs) ys = go (has-union y xs ys) (has-put_in x y (union before xs ys))
    where
      go : (Has y (union before xs ys) ↔ (Has y xs ⊎ Has y ys)) → (Has y (put_in before x (union before xs ys)) ↔ ((y ≡ x) ⊎ Has y (union before xs ys)))
          → Has y (put_in before x (union before xs ys)) ↔ (Has y (x ∷ xs) ⊎ Has y ys)
      go ih here = (to, from)
        where
          to : Has y (put_in before x (union before xs ys)) → Has y (x ∷ xs) ⊎ Has y ys
          to h = elim (here.0 h) [ inl q ↦ inl (inl q) | inr m ↦ elim (ih.0 m) [ inl k ↦ inl (inr k) | inr k ↦ inr k ] ]

          from : Has y (x ∷ xs) ⊎ Has y ys → Has y (put_in before x (union before xs ys))
          from (inl (inl q)) = here.1 (inl q)
          from (inl (inr m)) = here.1 (inr (ih.1 (inl m)))
          from (inr m) = here.1 (inr (ih.1 (inr m)))

  rising-kept : (p : T → Bool) (x : T) (xs : List T) (b : Bool) → ((y : T) → Has y xs → before x y ≡ true) → IsRising before (filter p xs) → IsRising before (cond b (x ∷ filter p xs) (filter p xs))
  rising-kept p x xs true f r = ((λ y h. f y (filter-Has p y xs h).0), r)
  rising-kept p x xs false f r = r

  pub rising-filter : (p : T → Bool) (xs : List T) → IsRising before xs → IsRising before (filter p xs)
  rising-filter p [] r = r
  rising-filter p (x ∷ xs) r = rising-kept p x xs (p x) r.0 (rising-filter p xs r.1)

  no_loop : (x y : T) → before x y ≡ true → before y x ≡ true → ⊥
  no_loop x y e f = grind (arith, laws.irreflexive x, laws.chain x y x e f)

  pub ext : (xs ys : List T) → IsRising before xs → IsRising before ys → ((x : T) → Has x xs → Has x ys) → ((x : T) → Has x ys → Has x xs) → xs ≡ ys
  ext [] [] r s f g = refl
  ext [] (y ∷ ys) r s f g = absurd (g y (inl refl))
  ext (x ∷ xs) [] r s f g = absurd (f x (inl refl))
  ext (x ∷ xs) (y ∷ ys) r s f g = ap₂ (λ (z : T) (zs : List T). z ∷ zs) heads (ext xs ys r.1 s.1 to from)
    where
      heads : x ≡ y
      heads = elim (f x (inl refl)) [ inl q ↦ q | inr m ↦ elim (g y (inl refl)) [ inl q ↦ sym q | inr k ↦ absurd (no_loop x y (r.0 y k) (s.0 x m)) ] ]

      to : (z : T) → Has z xs → Has z ys
      to z m = elim (f z (inr m)) [ inl q ↦ absurd (no_loop x z (r.0 z m) (rw (q ∙ sym heads) (rw (q ∙ sym heads) at (r.0 z m)))) | inr k ↦ k ]

      from : (z : T) → Has z ys → Has z xs
      from z m = elim (g z (inr m)) [ inl q ↦ absurd (no_loop y z (s.0 z m) (rw (q ∙ heads) (rw (q ∙ heads) at (s.0 z m)))) | inr k ↦ k ]

  pub has-minus : (x : T) (xs ys : List T) → Has x (minus before xs ys) → Has x xs × (member before x ys ≡ false)
  has-minus x xs ys h = let r = filter-Has (λ z. not (member before z ys)) x xs h in (r.0, grind (arith, r.1))

  pub minus-has : (x : T) (xs ys : List T) → Has x xs → member before x ys ≡ false → Has x (minus before xs ys)
  minus-has x xs ys h e = Has-filter (λ z. not (member before z ys)) x xs h (rw e refl)

  -- a set that takes in the difference to another becomes the other
  pub update : (old new : List T) → IsRising before new → union before (minus before old (minus before old new)) (minus before new old) ≡ new
  update old new r = ext (union before (minus before old (minus before old new)) (minus before new old)) new (rising-union (minus before old (minus before old new)) (minus before new old) (rising-filter (λ x. not (member before x old)) new r)) r to from
    where
      kept : (x : T) → Has x (minus before old (minus before old new)) → (b : Bool) → member before x new ≡ b → Has x new
      kept x h true e = member-has x new e
      kept x h false e =
          let a = has-minus x old (minus before old new) h in
          let b = has-member x (minus before old new) (minus-has x old new a.0 e) in
          absurd (grind (arith, a.1, b))

      to : (x : T) → Has x (union before (minus before old (minus before old new)) (minus before new old)) → Has x new
      to x h = elim ((has-union x _ _).0 h) [ inl m ↦ kept x m (member before x new) refl | inr m ↦ (has-minus x new old m).0 ]

      gone : (x : T) → Has x new → (b : Bool) → member before x (minus before old new) ≡ b → b ≡ false
      gone x h false e = refl
      gone x h true e = let a = has-minus x old new (member-has x _ e) in absurd (grind (arith, a.1, has-member x new h))

      pick : (x : T) → Has x new → (b : Bool) → member before x old ≡ b → Has x (minus before old (minus before old new)) ⊎ Has x (minus before new old)
      pick x h true e = inl (minus-has x old _ (member-has x old e) (gone x h (member before x (minus before old new)) refl))
      pick x h false e = inr (minus-has x new old h e)

      from : (x : T) → Has x new → Has x (union before (minus before old (minus before old new)) (minus before new old))
      from x h = (has-union x _ _).1 (pick x h (member before x old) refl)

  pub same_list-equal : (xs ys : List T) → same_list before xs ys ≡ true → xs ≡ ys
  same_list-equal [] [] e = refl
  same_list-equal [] (y ∷ ys) e = absurd cc
  same_list-equal (x ∷ xs) [] e = absurd cc
  same_list-equal (x ∷ xs) (y ∷ ys) e = ap₂ (λ (z : T) (zs : List T). z ∷ zs) (same-equal x y (grind arith)) (same_list-equal xs ys (grind arith))

  pub same_list-self : (xs : List T) → same_list before xs xs ≡ true
  same_list-self [] = refl
  same_list-self (x ∷ xs) = grind (arith, same-self x, same_list-self xs)

  pub rising-roots : (s : List T) → IsRising before s → IsRising before (roots covers before s)
  rising-roots s r = rising-filter (is_root covers before s) s r

  pub rising-minus : (xs ys : List T) → IsRising before xs → IsRising before (minus before xs ys)
  rising-minus xs ys r = rising-filter (λ x. not (member before x ys)) xs r

  pub member-iff : (x : T) (xs : List T) → (member before x xs ≡ true) ↔ Has x xs
  member-iff x xs = (member-has x xs, has-member x xs)

  pub minus-iff : (x : T) (xs ys : List T) → Has x (minus before xs ys) ↔ (Has x xs × (Has x ys → ⊥))
  minus-iff x xs ys = (to, from)
    where
      to : Has x (minus before xs ys) → Has x xs × (Has x ys → ⊥)
      to h =
          let r = has-minus x xs ys h in
          (r.0, λ k. absurd (grind (arith, r.1, has-member x ys k)))

      go : Has x xs → (Has x ys → ⊥) → (b : Bool) → member before x ys ≡ b → Has x (minus before xs ys)
      go h not true e = absurd (not (member-has x ys e))
      go h not false e = minus-has x xs ys h e

      from : Has x xs × (Has x ys → ⊥) → Has x (minus before xs ys)
      from (h, not) = go h not (member before x ys) refl

  pub same_list-iff : (xs ys : List T) → (same_list before xs ys ≡ true) ↔ (xs ≡ ys)
  same_list-iff xs ys = (same_list-equal xs ys, λ q. subst (λ z. same_list before xs z ≡ true) q (same_list-self xs))

  pub rising-set_of : (xs : List T) → IsRising before (set_of before xs)
  rising-set_of xs = rising-union xs [] tt

  pub has-set_of : (x : T) (xs : List T) → Has x (set_of before xs) ↔ Has x xs
  has-set_of x xs = (to, λ h. (has-union x xs []).1 (inl h))
    where
      to : Has x (set_of before xs) → Has x xs
      to h = elim ((has-union x xs []).0 h) [ inl m ↦ m | inr m ↦ absurd m ]

  pub set_of-same : (xs : List T) → IsRising before xs → set_of before xs ≡ xs
  set_of-same xs r = ext (set_of before xs) xs (rising-set_of xs) r (λ x. (has-set_of x xs).0) (λ x. (has-set_of x xs).1)

  -- no root covers another one
  pub roots-apart : (s : List T) (f g : T) → Has f (roots covers before s) → Has g (roots covers before s) → covers f g ≡ true → f ≡ g
  roots-apart s f g a b e =
      let x = (roots-iff covers before s f).0 a in
      let y = (roots-iff covers before s g).0 b in
      let down = y.1 f x.0 e in
      laws.total f g down.1 (x.1 g y.0 down.0).1

pub any-from : {A : Type 0} (p : A → Bool) (xs : List A) (x : A) → Has x xs → p x ≡ true → list_any p xs ≡ true
any-from p [] x h e = absurd h
any-from p (y ∷ xs) x (inl q) e = rw (ap p (sym q) ∙ e) refl
any-from p (y ∷ xs) x (inr h) e = go (p y) (any-from p xs x h e)
  where
    go : (b : Bool) → list_any p xs ≡ true → (b || list_any p xs) ≡ true
    go true f = refl
    go false f = f

pub any-has : (x : ℕ) (xs : List ℕ) → list_any (λ y. y == x) xs ≡ true → Has x xs
any-has x [] e = cc
any-has x (y ∷ ys) e = go (y == x) refl e (any-has x ys)
  where
    go : (b : Bool) → b ≡ (y == x) → b || list_any (λ z. z == x) ys ≡ true → (list_any (λ z. z == x) ys ≡ true → Has x ys) → Has x (y ∷ ys)
    go true f e more = inl (grind (arith, nat_tests, f))
    go false f e more = inr (more e)

pub any-some : {T : Type 0} (test : T → Bool) (xs : List T) → list_any test xs ≡ true → (x : T) × Has x xs × (test x ≡ true)
any-some test [] e = absurd cc
any-some test (y ∷ ys) e = go (test y) refl (any-some test ys) e
  where
    go : (b : Bool) → test y ≡ b → (list_any test ys ≡ true → (x : _) × Has x ys × (test x ≡ true)) → list_any test (y ∷ ys) ≡ true → (x : _) × Has x (y ∷ ys) × (test x ≡ true)
    go true q f m = (y, inl refl, q)
    go false q f m = let r = f (rw q at m) in (r.0, inr r.1, r.2)

pub contains-has : {X : Type 0} (x : X) (xs : List X) → Contains xs x → Has x xs
contains-has x [] h = absurd (omega (arith, h.1))
contains-has x (y ∷ ys) (zero, l, e) = inl (sym e)
contains-has x (y ∷ ys) (suc k, l, e) = inr (contains-has x ys (k, omega (arith, l), e))

pub distinct-one : (a : ℕ) → IsDistinct (a ∷ [])
distinct-one a = ((λ h. h), tt)

pub each-in-one : (P : ℕ → Type 0) (a : ℕ) → P a → (x : ℕ) → Has x (a ∷ []) → P x
each-in-one P a p x (inl e) = subst P (sym e) p
each-in-one P a p x (inr h) = absurd h

pub each-in-two : (P : ℕ → Type 0) (a b : ℕ) → P a → P b → (x : ℕ) → Has x (a ∷ b ∷ []) → P x
each-in-two P a b p q x (inl e) = subst P (sym e) p
each-in-two P a b p q x (inr h) = each-in-one P b q x h

pub each-in-three : (P : ℕ → Type 0) → P 1 → P 2 → P 3 → (x : ℕ) → Has x (1 ∷ 2 ∷ 3 ∷ []) → P x
each-in-three P p q r x (inl e) = subst P (sym e) p
each-in-three P p q r x (inr h) = each-in-two P 2 3 q r x h

pub get-has : {T : Type 0} (xs : List T) (i : ℕ) (x : T) → slice_get xs i ≡ Some x → Has x xs
get-has [] i x e = absurd cc
get-has (y ∷ ys) zero x e = inl (sym (same_Some y x e))
get-has (y ∷ ys) (suc i) x e = inr (get-has ys i x e)

pub get_or-has : {X : Type 0} (xs : List X) (k : ℕ) (d : X) → k < length xs → Has (get_or xs k d) xs
get_or-has [] k d l = absurd (omega (arith, l))
get_or-has (x ∷ xs) zero d l = inl refl
get_or-has (x ∷ xs) (suc k) d l = inr (get_or-has xs k d (omega (arith, l)))

pub has-any : (x : ℕ) (xs : List ℕ) → Has x xs → list_any (λ y. y == x) xs ≡ true
has-any x [] h = absurd h
has-any x (y ∷ ys) (inl e) = rw (eq-eqb y x (sym e)) refl
has-any x (y ∷ ys) (inr h) = go (y == x) (has-any x ys h)
  where
    go : (b : Bool) → list_any (λ y. y == x) ys ≡ true → b || list_any (λ y. y == x) ys ≡ true
    go true e = refl
    go false e = e

pub any-iff-has : (x : ℕ) (xs : List ℕ) (b : Bool) → b ≡ list_any (λ y. y == x) xs → IsTrue b ↔ Has x xs
any-iff-has x xs b e = ((λ t. any-has x xs (sym e ∙ t)), (λ h. e ∙ has-any x xs h))

pub has-append : {X : Type 0} (s : X) (xs ys : List X) → Has s (xs ++ ys) → Has s xs ⊎ Has s ys
has-append s [] ys h = inr h
has-append s (x ∷ xs) ys (inl q) = inl (inl q)
has-append s (x ∷ xs) ys (inr h) = elim (has-append s xs ys h) [ inl m ↦ inl (inr m) | inr m ↦ inr m ]

pub has-append-left : {A : Type 0} (x : A) (xs ys : List A) → Has x xs → Has x (xs ++ ys)
has-append-left x [] ys h = absurd h
has-append-left x (y ∷ xs) ys (inl e) = inl e
has-append-left x (y ∷ xs) ys (inr h) = inr (has-append-left x xs ys h)

pub has-append-right : {X : Type 0} (s : X) (xs ys : List X) → Has s ys → Has s (xs ++ ys)
has-append-right s [] ys h = h
has-append-right s (x ∷ xs) ys h = inr (has-append-right s xs ys h)

-- a member of lists one behind the other is a member of one of them
pub has-flat_map : {A B : Type 0} (f : A → List B) (xs : List A) (y : B) → Has y (flat_map f xs) → (x : A) × Has x xs × Has y (f x)
has-flat_map f [] y h = absurd h
has-flat_map f (x ∷ xs) y h = elim (has-append y (f x) (flat_map f xs) h) [ inl a ↦ (x, inl refl, a) | inr b ↦ (let r = has-flat_map f xs y b in (r.0, inr r.1, r.2)) ]

pub flat_map-has : {A B : Type 0} (f : A → List B) (xs : List A) (x : A) (y : B) → Has x xs → Has y (f x) → Has y (flat_map f xs)
flat_map-has f [] x y h m = absurd h
flat_map-has f (z ∷ xs) x y (inl q) m = has-append-left y (f z) (flat_map f xs) (subst (λ w. Has y (f w)) q m)
flat_map-has f (z ∷ xs) x y (inr h) m = has-append-right y (f z) (flat_map f xs) (flat_map-has f xs x y h m)

pub has-contains : {X : Type 0} (x : X) (xs : List X) → Has x xs → Contains xs x
has-contains x [] h = absurd h
has-contains {X = X} x (y ∷ ys) (inl e) = subst (λ (z : X). Contains (y ∷ ys) z) (sym e) (zero, omega arith, refl)
has-contains x (y ∷ ys) (inr h) = let r = has-contains x ys h in (suc r.0, omega (arith, r.1), r.2)

pub has-get : {X : Type 0} (xs : List X) (x : X) → Has x xs → (k : ℕ) × (slice_get xs k ≡ Some x)
has-get [] x h = absurd h
has-get (y ∷ xs) x (inl e) = (0, ap Some (sym e))
has-get (y ∷ xs) x (inr h) = let r = has-get xs x h in (suc r.0, r.1)

pub has-get_or : (xs : List ℕ) (x : ℕ) → Has x xs → (k : ℕ) × (k < length xs) × (get_or xs k 0 ≡ x)
has-get_or [] x m = absurd m
has-get_or (y ∷ ys) x (inl q) = (zero, omega arith, sym q)
has-get_or (y ∷ ys) x (inr m) = let r = has-get_or ys x m in (suc r.0, omega (arith, r.1), r.2)

pub has-map : {A B : Type 0} (f : A → B) (xs : List A) (y : B) → Has y (map f xs) → (x : A) × Has x xs × (y ≡ f x)
has-map f [] y h = absurd h
has-map f (x ∷ xs) y (inl q) = (x, inl refl, q)
has-map f (x ∷ xs) y (inr h) = let r = has-map f xs y h in (r.0, inr r.1, r.2)

pub has-range : (a n x : ℕ) → Has x (range_with_len a n) → (a ≤ x) × (x < a + n)
has-range a zero x h = absurd h
has-range a (suc n) x (inl e) = (omega (arith, e), omega (arith, e))
has-range a (suc n) x (inr h) = let r = has-range (a + 1) n x h in (omega (arith, r.0), omega (arith, r.1))

pub has-range-low : (a n x : ℕ) → Has x (range_with_len a n) → a ≤ x
has-range-low a zero x h = absurd h
has-range-low a (suc n) x (inl e) = omega (arith, e)
has-range-low a (suc n) x (inr h) = omega (arith, has-range-low (a + 1) n x h)

pub increasing-rest : (x : ℕ) (xs : List ℕ) → IsStrictlyIncreasing (x ∷ xs) → IsStrictlyIncreasing xs
increasing-rest x xs h k l = subst (λ n. slice_index (x ∷ xs) (suc k) < slice_index (x ∷ xs) n) {x = suc k + 1} {y = suc (k + 1)} (omega arith) (h (suc k) (omega (arith, l)))

pub increasing-above : (x : ℕ) (xs : List ℕ) → IsStrictlyIncreasing (x ∷ xs) → (z : ℕ) → Has z xs → x < z
increasing-above x [] h z m = absurd m
increasing-above x (y ∷ ys) h z (inl e) =
    let low : x < y = h 0 (omega arith) in
    omega (arith, low, e)
increasing-above x (y ∷ ys) h z (inr m) =
    let low : x < y = h 0 (omega arith) in
    let high : y < z = increasing-above y ys (increasing-rest x (y ∷ ys) h) z m in
    omega (arith, low, high)

pub increasing-get_or : (xs : List ℕ) → IsStrictlyIncreasing xs → (i j : ℕ) → i ≤ j → j < length xs → get_or xs i 0 ≤ get_or xs j 0
increasing-get_or [] h i j l m = absurd (omega (arith, m))
increasing-get_or (x ∷ xs) h zero zero l m = omega arith
increasing-get_or (x ∷ xs) h zero (suc j) l m =
    let more : x < get_or xs j 0 = increasing-above x xs h (get_or xs j 0) (at-has xs j (omega (arith, m))) in
    omega (arith, more)
  where
    at-has : (ys : List ℕ) (k : ℕ) → k < length ys → Has (get_or ys k 0) ys
    at-has [] k l = absurd (omega (arith, l))
    at-has (y ∷ ys) zero l = inl refl
    at-has (y ∷ ys) (suc k) l = inr (at-has ys k (omega (arith, l)))
increasing-get_or (x ∷ xs) h (suc i) zero l m = absurd (omega (arith, l))
increasing-get_or (x ∷ xs) h (suc i) (suc j) l m = increasing-get_or xs (increasing-rest x xs h) i j (omega (arith, l)) (omega (arith, m))

pub increasing-rising : (xs : List ℕ) → IsStrictlyIncreasing xs → IsRising nat_lt xs
increasing-rising [] s = tt
increasing-rising (x ∷ xs) s = (λ y m. let low : x < y = increasing-above x xs s y m in grind (arith, nat_tests, low), increasing-rising xs (increasing-rest x xs s))

pub map-has : {A B : Type 0} (f : A → B) (xs : List A) (x : A) → Has x xs → Has (f x) (map f xs)
map-has f [] x h = absurd h
map-has f (y ∷ xs) x (inl q) = inl (ap f q)
map-has f (y ∷ xs) x (inr h) = inr (map-has f xs x h)

pub range-has : (a n x : ℕ) → a ≤ x → x < a + n → Has x (range_with_len a n)
range-has a zero x low high = absurd (omega (arith, low, high))
range-has a (suc n) x low high = go (λ l h. range-has (a + 1) n x l h) (a == x) refl
  where
    go : (a + 1 ≤ x → x < (a + 1) + n → Has x (range_with_len (a + 1) n)) → (b : Bool) → (a == x) ≡ b → Has x (range_with_len a (suc n))
    go ih true e = inl (grind (arith, nat_tests, e))
    go ih false e = inr (ih (grind (arith, nat_tests, e, low)) (omega (arith, high)))

pub range-rises : (a n : ℕ) → IsRising nat_lt (range_with_len a n)
range-rises a zero = tt
range-rises a (suc n) = ((λ y h. lt-nat_lt a y (omega (arith, (has-range (a + 1) n y h).0))), range-rises (a + 1) n)

pub rising-append : {T : Type 0} (before : T → T → Bool) (xs ys : List T) → IsRising before xs → IsRising before ys
    → ((x y : T) → Has x xs → Has y ys → before x y ≡ true) → IsRising before (xs ++ ys)
rising-append before [] ys p q f = q
rising-append before (x ∷ xs) ys p q f = (
  (λ y h. elim (has-append y xs ys h) [ inl a ↦ p.0 y a | inr b ↦ f x y (inl refl) b ]),
  rising-append before xs ys p.1 q (λ a b h k. f a b (inr h) k),
)
