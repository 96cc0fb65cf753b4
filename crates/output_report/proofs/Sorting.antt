-- A stable sort by an order gives the list that insertion gives.
use Rattle.std.proofs.Common.{◌≡◌, ℕ, zero, suc, ◌+◌, Bool, true, false, cond, not, ◌&&◌, List, [], ◌∷◌, get_or, filter, map, refl, sym, ap, subst, ◌∙◌, arith, zero-le}
use Rattle.std.proofs.lemmas.Bool.{cond-true, cond-false, false_from_ne_true}
use Rattle.std.specs.List.Sorted.{ties, IsSortedBy, IsStableBy}

-- what is asked of an order
pub record IsWeak {X : Type 0} (lt : X → X → Bool) : Type 0 where
  pub irreflexive : (x : X) → lt x x ≡ false
  pub one_way : (x y : X) → lt x y ≡ true → lt y x ≡ false
  pub chain : (x y z : X) → lt y x ≡ false → lt z y ≡ false → lt z x ≡ false

-- put in front of those that are not before it
abbrev pub put : {X : Type 0} → (X → X → Bool) → X → List X → List X
put lt x [] = x ∷ []
put lt x (y ∷ ys) = cond (lt y x) (y ∷ put lt x ys) (x ∷ y ∷ ys)

abbrev pub inserted : {X : Type 0} → (X → X → Bool) → List X → List X
inserted lt [] = []
inserted lt (x ∷ xs) = put lt x (inserted lt xs)

tied : {X : Type 0} (lt : X → X → Bool) (x y : X) → lt x y ≡ false → lt y x ≡ false → ties lt x y ≡ true
tied lt x y p q = rw p (rw q refl)

untied : {X : Type 0} (lt : X → X → Bool) (x y : X) → ties lt x y ≡ true → (lt x y ≡ false) × (lt y x ≡ false)
untied lt x y e = go (lt x y) (lt y x) e
  where
    go : (a b : Bool) → not a && not b ≡ true → (a ≡ false) × (b ≡ false)
    go false false e = (refl, refl)
    go false true e = absurd cc
    go true b e = absurd cc

kept : {X : Type 0} (p : X → Bool) (y : X) (ys : List X) → p y ≡ true → filter p (y ∷ ys) ≡ y ∷ filter p ys
kept p y ys h = cond-true _ _ _ h

dropped : {X : Type 0} (p : X → Bool) (y : X) (ys : List X) → p y ≡ false → filter p (y ∷ ys) ≡ filter p ys
dropped p y ys h = cond-false _ _ _ h

past : {X : Type 0} (lt : X → X → Bool) (c d : X) (ds : List X) → lt d c ≡ true → put lt c (d ∷ ds) ≡ d ∷ put lt c ds
past lt c d ds h = cond-true _ _ _ h

stays : {X : Type 0} (lt : X → X → Bool) (c d : X) (ds : List X) → lt d c ≡ false → put lt c (d ∷ ds) ≡ c ∷ d ∷ ds
stays lt c d ds h = cond-false _ _ _ h

put_ties : {X : Type 0} (lt : X → X → Bool) (weak : IsWeak lt) (x c : X) (ds : List X) → filter (ties lt x) (put lt c ds) ≡ filter (ties lt x) (c ∷ ds)
put_ties lt weak x c [] = refl
put_ties {X} lt weak x c (d ∷ ds) = go (put_ties lt weak x c ds) (lt d c) refl
  where
    p : X → Bool
    p = ties lt x

    apart : lt d c ≡ true → p d ≡ true → p c ≡ true → ⊥
    apart before with also =
        let left = untied lt x d with in
        let right = untied lt x c also in
        let e : lt d c ≡ false = weak.chain c x d right.0 left.1 in cc

    inner : filter p (put lt c ds) ≡ filter p (c ∷ ds) → (b : Bool) → p d ≡ b → lt d c ≡ true → filter p (d ∷ put lt c ds) ≡ filter p (c ∷ d ∷ ds)
    inner ih true with before =
        let without = false_from_ne_true (p c) (apart before with) in
        kept p d (put lt c ds) with ∙ ap (λ l. d ∷ l) (ih ∙ dropped p c ds without)
        ∙ sym (dropped p c (d ∷ ds) without ∙ kept p d ds with)
    inner ih false without before =
        dropped p d (put lt c ds) without ∙ ih ∙ ap (λ l. cond (p c) (c ∷ l) l) (sym (dropped p d ds without))

    go : filter p (put lt c ds) ≡ filter p (c ∷ ds) → (b : Bool) → lt d c ≡ b → filter p (put lt c (d ∷ ds)) ≡ filter p (c ∷ d ∷ ds)
    go ih true before = ap (filter p) (past lt c d ds before) ∙ inner ih (p d) refl before
    go ih false after = ap (filter p) (stays lt c d ds after)

inserted_ties : {X : Type 0} (lt : X → X → Bool) (weak : IsWeak lt) (x : X) (cs : List X) → filter (ties lt x) (inserted lt cs) ≡ filter (ties lt x) cs
inserted_ties lt weak x [] = refl
inserted_ties lt weak x (c ∷ cs) =
    put_ties lt weak x c (inserted lt cs) ∙ ap (λ l. cond (ties lt x c) (c ∷ l) l) (inserted_ties lt weak x cs)

-- none of the list is before x
abbrev NotBefore : {X : Type 0} → (X → X → Bool) → X → List X → Type 0
NotBefore lt x [] = Unit {0}
NotBefore lt x (y ∷ ys) = (lt y x ≡ false) × NotBefore lt x ys

abbrev pub Rises : {X : Type 0} → (X → X → Bool) → List X → Type 0
Rises lt [] = Unit {0}
Rises lt (y ∷ ys) = NotBefore lt y ys × Rises lt ys

lower : {X : Type 0} (lt : X → X → Bool) (weak : IsWeak lt) (x y : X) (ys : List X) → lt y x ≡ false → NotBefore lt y ys → NotBefore lt x ys
lower lt weak x y [] e h = tt
lower lt weak x y (z ∷ ys) e h = (weak.chain x y z e h.0, lower lt weak x y ys e h.1)

put_after : {X : Type 0} (lt : X → X → Bool) (x c : X) (ds : List X) → lt c x ≡ false → NotBefore lt x ds → NotBefore lt x (put lt c ds)
put_after lt x c [] e h = (e, tt)
put_after lt x c (d ∷ ds) e h = go (put_after lt x c ds e h.1) (lt d c) refl
  where
    go : NotBefore lt x (put lt c ds) → (b : Bool) → lt d c ≡ b → NotBefore lt x (put lt c (d ∷ ds))
    go ih true q = rw (past lt c d ds q) (h.0, ih)
    go ih false q = rw (stays lt c d ds q) (e, h)

put_rises : {X : Type 0} (lt : X → X → Bool) (weak : IsWeak lt) (c : X) (ds : List X) → Rises lt ds → Rises lt (put lt c ds)
put_rises lt weak c [] h = (tt, tt)
put_rises lt weak c (d ∷ ds) h = go (put_rises lt weak c ds h.1) (lt d c) refl
  where
    go : Rises lt (put lt c ds) → (b : Bool) → lt d c ≡ b → Rises lt (put lt c (d ∷ ds))
    go ih true q = rw (past lt c d ds q) (put_after lt d c ds (weak.one_way d c q) h.0, ih)
    go ih false q = rw (stays lt c d ds q) ((q, lower lt weak c d ds q h.0), h)

inserted_rises : {X : Type 0} (lt : X → X → Bool) (weak : IsWeak lt) (xs : List X) → Rises lt (inserted lt xs)
inserted_rises lt weak [] = tt
inserted_rises lt weak (x ∷ xs) = put_rises lt weak x (inserted lt xs) (inserted_rises lt weak xs)

sorted_rises : {X : Type 0} (lt : X → X → Bool) (weak : IsWeak lt) (xs : List X) → IsSortedBy lt xs → Rises lt xs
sorted_rises lt weak [] h = tt
sorted_rises lt weak (x ∷ []) h = (tt, tt)
sorted_rises {X} lt weak (x ∷ y ∷ ys) h =
    let rest = sorted_rises lt weak (y ∷ ys) (λ k d low high. subst (λ z. lt (get_or (x ∷ y ∷ ys) z d) (get_or (y ∷ ys) k d) ≡ false) (step k) (h (suc k) d zero-le (omega (arith, high)))) in
    let first : lt y x ≡ false = h zero x zero-le (omega arith) in
    ((first, lower lt weak x y ys first rest.0), rest)
  where
    step : (k : ℕ) → suc k + 1 ≡ suc (k + 1)
    step k = omega arith

-- what ties with x occurs among them
found : {X : Type 0} (lt : X → X → Bool) (weak : IsWeak lt) (n x : X) (ys : List X) (w : X) (ws : List X) → NotBefore lt n ys → filter (ties lt x) ys ≡ w ∷ ws → lt x n ≡ false
found lt weak n x [] w ws h e = absurd cc
found lt weak n x (y ∷ ys) w ws h e = go (λ q. found lt weak n x ys w ws h.1 q) (ties lt x y) refl
  where
    go : (filter (ties lt x) ys ≡ w ∷ ws → lt x n ≡ false) → (b : Bool) → ties lt x y ≡ b → lt x n ≡ false
    go ih true with = weak.chain n y x h.0 (untied lt x y with).0
    go ih false without = ih (sym (dropped (ties lt x) y ys without) ∙ e)

one_list : {X : Type 0} (lt : X → X → Bool) (weak : IsWeak lt) (ys zs : List X) → Rises lt ys → Rises lt zs → ((x : X) → filter (ties lt x) ys ≡ filter (ties lt x) zs) → ys ≡ zs
one_list lt weak [] [] left right same = refl
one_list lt weak [] (z ∷ zs) left right same =
    let clash = same z ∙ kept (ties lt z) z zs (tied lt z z (weak.irreflexive z) (weak.irreflexive z)) in absurd cc
one_list lt weak (y ∷ ys) [] left right same =
    let clash = sym (same y) ∙ kept (ties lt y) y ys (tied lt y y (weak.irreflexive y) (weak.irreflexive y)) in absurd cc
one_list {X} lt weak (y ∷ ys) (z ∷ zs) left right same =
    let at_y = kept (ties lt y) y ys (tied lt y y (weak.irreflexive y) (weak.irreflexive y)) in
    let at_z = kept (ties lt z) z zs (tied lt z z (weak.irreflexive z) (weak.irreflexive z)) in
    let up : lt y z ≡ false = found lt weak z y (z ∷ zs) y (filter (ties lt y) ys) (weak.irreflexive z, right.0) (sym (same y) ∙ at_y) in
    let down : lt z y ≡ false = found lt weak y z (y ∷ ys) z (filter (ties lt z) zs) (weak.irreflexive y, left.0) (same z ∙ at_z) in
    let heads = sym at_y ∙ same y ∙ kept (ties lt y) z zs (tied lt y z up down) in
    let head : y ≡ z = first heads in
    ap (λ w. w ∷ ys) head ∙ ap (λ l. z ∷ l) (one_list lt weak ys zs left.1 right.1 (λ x. tails head x (ties lt x y) refl))
  where
    first : {a b : X} {l m : List X} → a ∷ l ≡ b ∷ m → a ≡ b
    first e = cc

    rest : {a b : X} {l m : List X} → a ∷ l ≡ b ∷ m → l ≡ m
    rest e = cc

    tails : y ≡ z → (x : X) (b : Bool) → ties lt x y ≡ b → filter (ties lt x) ys ≡ filter (ties lt x) zs
    tails head x true with =
        rest (sym (kept (ties lt x) y ys with) ∙ same x ∙ kept (ties lt x) z zs (ap (ties lt x) (sym head) ∙ with))
    tails head x false without =
        sym (dropped (ties lt x) y ys without) ∙ same x ∙ dropped (ties lt x) z zs (ap (ties lt x) (sym head) ∙ without)

pub inserted_from_sort : {X : Type 0} (lt : X → X → Bool) (weak : IsWeak lt) (xs ys : List X) → IsSortedBy lt ys → IsStableBy lt xs ys → ys ≡ inserted lt xs
inserted_from_sort lt weak xs ys sorted stable =
    one_list lt weak ys (inserted lt xs) (sorted_rises lt weak ys sorted) (inserted_rises lt weak xs) (λ x. stable x ∙ sym (inserted_ties lt weak x xs))

-- insertion by a key of what is held
map_put : {X Y : Type 0} (f : X → Y) (lt : Y → Y → Bool) (x : X) (xs : List X) → map f (put (λ a b. lt (f a) (f b)) x xs) ≡ put lt (f x) (map f xs)
map_put f lt x [] = refl
map_put {X} {Y} f lt x (y ∷ ys) = go (lt (f y) (f x)) (map_put f lt x ys)
  where
    go : (b : Bool) → map f (put (λ a b. lt (f a) (f b)) x ys) ≡ put lt (f x) (map f ys)
        → map f (cond b (y ∷ put (λ a b. lt (f a) (f b)) x ys) (x ∷ y ∷ ys)) ≡ cond b (f y ∷ put lt (f x) (map f ys)) (f x ∷ f y ∷ map f ys)
    go true ih = ap (λ l. f y ∷ l) ih
    go false ih = refl

pub map_inserted : {X Y : Type 0} (f : X → Y) (lt : Y → Y → Bool) (xs : List X) → map f (inserted (λ a b. lt (f a) (f b)) xs) ≡ inserted lt (map f xs)
map_inserted f lt [] = refl
map_inserted f lt (x ∷ xs) =
    map_put f lt x (inserted (λ a b. lt (f a) (f b)) xs) ∙ ap (put lt (f x)) (map_inserted f lt xs)
