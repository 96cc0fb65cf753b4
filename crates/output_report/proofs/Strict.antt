-- Proves that deliveries of different ids have one order by their ids.
use Rattle.std.proofs.Common.{◌≡◌, Bool, true, false, cond, ◌⊎◌, inl, inr, List, [], ◌∷◌, refl, sym, ap, subst, ◌∙◌, arith}
use Rattle.std.proofs.lemmas.Bool.Decides.{nat_tests}
use Rattle.base.specs.Sets.{Has, IsRising}
use Rattle.filter_text.specs.declared.id.Id.{Id}
use Rattle.filter_text.specs.Deliveries.{Delivery}
use Rattle.output_flood.specs.Flooding.{id_before}
use Rattle.output_report.specs.Deliveries.{put_by_id, by_id}
use Rattle.output_report.proofs.Ids.{before_self, before_one_way}

abbrev pub d_before : Delivery → Delivery → Bool
d_before d e = id_before d.id e.id

-- lists that rise strictly and have the same members are one
pub one_rising : {T : Type 0} (before : T → T → Bool) → ((x : T) → before x x ≡ true → ⊥) → ((x y : T) → before x y ≡ true → before y x ≡ true → ⊥)
    → (xs ys : List T) → IsRising before xs → IsRising before ys → ((x : T) → Has x xs → Has x ys) → ((x : T) → Has x ys → Has x xs) → xs ≡ ys
one_rising before irr asym [] [] p q f g = refl
one_rising before irr asym [] (y ∷ ys) p q f g = absurd (g y (inl refl))
one_rising before irr asym (x ∷ xs) [] p q f g = absurd (f x (inl refl))
one_rising {T} before irr asym (x ∷ xs) (y ∷ ys) p q f g =
    let e : x ≡ y = head (f x (inl refl)) (g y (inl refl)) in
    ap (λ z. z ∷ xs) e
    ∙ ap (λ l. y ∷ l) (one_rising before irr asym xs ys p.1 q.1
    (λ z h. first z h e (f z (inr h))) (λ z h. second z h e (g z (inr h))))
  where
    head : Has x (y ∷ ys) → Has y (x ∷ xs) → x ≡ y
    head (inl e) k = e
    head (inr h) (inl e) = sym e
    head (inr h) (inr k) = absurd (asym x y (p.0 y k) (q.0 x h))

    first : (z : T) → Has z xs → x ≡ y → Has z (y ∷ ys) → Has z ys
    first z h e (inl i) = absurd (irr x (subst (λ w. before x w ≡ true) (i ∙ sym e) (p.0 z h)))
    first z h e (inr k) = k

    second : (z : T) → Has z ys → x ≡ y → Has z (x ∷ xs) → Has z xs
    second z h e (inl i) = absurd (irr y (subst (λ w. before y w ≡ true) (i ∙ e) (q.0 z h)))
    second z h e (inr k) = k

-- ids that differ come one before the other
split_ids : (a b : Id) → (a.publisher ≡ b.publisher → a.ordinal ≡ b.ordinal → ⊥) → id_before a b ≡ false → id_before b a ≡ true
split_ids a b f e = go (id_before b a) refl
  where
    same_publisher : id_before b a ≡ false → a.publisher ≡ b.publisher
    same_publisher q = grind (arith, nat_tests, e, q)

    same_ordinal : id_before b a ≡ false → a.ordinal ≡ b.ordinal
    same_ordinal q = grind (arith, nat_tests, e, q, same_publisher q)

    go : (t : Bool) → id_before b a ≡ t → id_before b a ≡ true
    go true q = q
    go false q = absurd (f (same_publisher q) (same_ordinal q))

trans : (a b c : Id) → id_before a b ≡ true → id_before b c ≡ true → id_before a c ≡ true
trans a b c p q = grind (arith, nat_tests, p, q)

-- the id of one is not that of another
abbrev pub Differs : Delivery → Delivery → Type 0
Differs d e = d.id.publisher ≡ e.id.publisher → d.id.ordinal ≡ e.id.ordinal → ⊥

abbrev pub AreApart : List Delivery → Type 0
AreApart [] = Unit {0}
AreApart (d ∷ rest) = ((e : Delivery) → Has e rest → Differs d e) × AreApart rest

pub put_has : (d : Delivery) (xs : List Delivery) (x : Delivery) → Has x (put_by_id d xs) → (x ≡ d) ⊎ Has x xs
put_has d [] x (inl e) = inl e
put_has d [] x (inr h) = absurd h
put_has d (y ∷ ys) x h = go (id_before y.id d.id) (put_has d ys x) h
  where
    go : (b : Bool) → (Has x (put_by_id d ys) → (x ≡ d) ⊎ Has x ys) → Has x (cond b (y ∷ put_by_id d ys) (d ∷ y ∷ ys)) → (x ≡ d) ⊎ Has x (y ∷ ys)
    go true ih (inl e) = inr (inl e)
    go true ih (inr k) = elim (ih k) [ inl e ↦ inl e | inr m ↦ inr (inr m) ]
    go false ih (inl e) = inl e
    go false ih (inr k) = inr k

pub has_put : (d : Delivery) (xs : List Delivery) (x : Delivery) → (x ≡ d) ⊎ Has x xs → Has x (put_by_id d xs)
has_put d [] x (inl e) = inl e
has_put d [] x (inr h) = absurd h
has_put d (y ∷ ys) x h = go (id_before y.id d.id) (has_put d ys x) h
  where
    go : (b : Bool) → ((x ≡ d) ⊎ Has x ys → Has x (put_by_id d ys)) → (x ≡ d) ⊎ Has x (y ∷ ys) → Has x (cond b (y ∷ put_by_id d ys) (d ∷ y ∷ ys))
    go true ih (inl e) = inr (ih (inl e))
    go true ih (inr (inl e)) = inl e
    go true ih (inr (inr k)) = inr (ih (inr k))
    go false ih (inl e) = inl e
    go false ih (inr k) = inr k

put_strict : (d : Delivery) (xs : List Delivery) → ((e : Delivery) → Has e xs → Differs d e) → IsRising d_before xs → IsRising d_before (put_by_id d xs)
put_strict d [] f r = ((λ y h. absurd h), tt)
put_strict d (y ∷ ys) f r = go (id_before y.id d.id) refl (put_strict d ys (λ e h. f e (inr h)) r.1)
  where
    after : id_before y.id d.id ≡ true → (z : Delivery) → Has z (put_by_id d ys) → d_before y z ≡ true
    after q z h = elim (put_has d ys z h) [ inl e ↦ subst (λ w. d_before y w ≡ true) (sym e) q | inr k ↦ r.0 z k ]

    front : id_before y.id d.id ≡ false → d_before d y ≡ true
    front q = split_ids y.id d.id (λ a b. f y (inl refl) (sym a) (sym b)) q

    all : id_before y.id d.id ≡ false → (z : Delivery) → Has z (y ∷ ys) → d_before d z ≡ true
    all q z (inl e) = subst (λ w. d_before d w ≡ true) (sym e) (front q)
    all q z (inr k) = trans d.id y.id z.id (front q) (r.0 z k)

    go : (b : Bool) → id_before y.id d.id ≡ b → IsRising d_before (put_by_id d ys) → IsRising d_before (cond b (y ∷ put_by_id d ys) (d ∷ y ∷ ys))
    go true q ih = (after q, ih)
    go false q ih = (all q, r)

pub by_id_has : (ds : List Delivery) (x : Delivery) → Has x (by_id ds) → Has x ds
by_id_has [] x h = h
by_id_has (d ∷ ds) x h = elim (put_has d (by_id ds) x h) [ inl e ↦ inl e | inr k ↦ inr (by_id_has ds x k) ]

pub has_by_id : (ds : List Delivery) (x : Delivery) → Has x ds → Has x (by_id ds)
has_by_id [] x h = h
has_by_id (d ∷ ds) x (inl e) = has_put d (by_id ds) x (inl e)
has_by_id (d ∷ ds) x (inr h) = has_put d (by_id ds) x (inr (has_by_id ds x h))

pub by_id_rising : (ds : List Delivery) → AreApart ds → IsRising d_before (by_id ds)
by_id_rising [] a = tt
by_id_rising (d ∷ ds) a = put_strict d (by_id ds) (λ e h. a.0 e (by_id_has ds e h)) (by_id_rising ds a.1)

pub never_itself : (x : Delivery) → d_before x x ≡ true → ⊥
never_itself x h = let e = before_self x.id in absurd (differ h e)
  where
    differ : {b : Bool} → b ≡ true → b ≡ false → ⊥
    differ p q = cc

pub never_both : (x y : Delivery) → d_before x y ≡ true → d_before y x ≡ true → ⊥
never_both x y p q = let e = before_one_way x.id y.id p in differ q e
  where
    differ : {b : Bool} → b ≡ true → b ≡ false → ⊥
    differ p q = cc
