-- What is pending turns what was installed into what is held.
use Rattle.std.proofs.Common.{◌≡◌, ◌≢◌, ◌⊎◌, ◌↔◌, inl, inr, ℕ, ◌<◌, ◌||◌, not, Bool, true, false, List, [], ◌∷◌, ◌++◌, length, map, slice_get, Some, refl, sym, ap, subst, ◌∙◌, arith}
use Rattle.std.proofs.lemmas.Bool.{cases_eq}
use Rattle.filter_constraints.specs.Constraint.{ConstraintParts}
use Rattle.filter_types.specs.Before.{list_before}
use Rattle.base.specs.Laws.{CoverLaws}
use Rattle.base.specs.Sets.{Has, IsRising, union, minus, same_list, member}
use Rattle.base.proofs.Sets.{ext, has-put_in, minus-iff, has-union, rising-union, rising-minus, same_list-self, same_list-equal, member-iff, has-member, has-map}
use Rattle.filter_covering.specs.Laws.{sub_laws}
use Rattle.base_order.specs.Order.{picked}
use Rattle.server_stock.proofs.Shown.{picked-has, has-picked}
use Rattle.server_stock.proofs.Turns.{get-some}
use Rattle.filter_text.specs.Messages.{Lists}
use Rattle.match_routes.specs.Installed.{Pair, pair_before, pair_in, all_changed}
use Rattle.match_routes.specs.declared.table_change.TableChange.{TableChange}
use Rattle.match_routes.specs.declared.table_change.TableChange.TheVariants.{Put, Take}
use Rattle.match_routes.proofs.Pairs.{pair_laws}
use Rattle.server_session.proofs.Moving.{picked-one}
use Rattle.server_core.specs.Due.{IsHeldAt}
use Rattle.server_core.specs.Pending.{is_some_there, RepresentPairs, IsPending}
use Rattle.server_core.proofs.Sieving.{Sieved}
use Rattle.match_routes.proofs.Lists.{all_changed-append}

module _ (interface : ℕ) where
  abbrev takes : List ℕ → List TableChange
  takes ns = map (λ i. Take i interface) ns

  abbrev puts : List ℕ → List TableChange
  puts ns = map (λ i. Put i interface) ns

  same : (n : ℕ) (p : Pair) → p.0 ≡ interface → p.1 ≡ n → p ≡ (interface, n)
  same n p a b = Rattle.std.proofs.Common.ap₂ (λ (x y : ℕ). (x, y)) a b

  taken-more : (n : ℕ) (ns : List ℕ) (pairs rest : List Pair) (p : Pair)
      → (Has p rest ↔ (Has p (minus pair_before pairs ((interface, n) ∷ [])) × ((p.0 ≡ interface) × Has p.1 ns → ⊥))) → Has p rest ↔ (Has p pairs × ((p.0 ≡ interface) × Has p.1 (n ∷ ns) → ⊥))
  taken-more n ns pairs rest p ih = (to, from)
    where
      to : Has p rest → Has p pairs × ((p.0 ≡ interface) × Has p.1 (n ∷ ns) → ⊥)
      to h =
          let w = ih.0 h in
          let m = (minus-iff pair_laws p pairs ((interface, n) ∷ [])).0 w.0 in
          (m.0, λ q. elim q.1 [ inl e ↦ m.1 (inl (same n p q.0 e)) | inr k ↦ w.1 (q.0, k) ])

      from : Has p pairs × ((p.0 ≡ interface) × Has p.1 (n ∷ ns) → ⊥) → Has p rest
      from h = ih.1 (
        (minus-iff pair_laws p pairs ((interface, n) ∷ [])).1 (
          h.0,
          λ m. elim m [
            | inl e ↦ h.1 (ap (λ (z : Pair). z.0) e, inl (ap (λ (z : Pair). z.1) e))
            | inr k ↦ k
          ],
        ),
        λ q. h.1 (q.0, inr q.1),
      )

  taken-iff : (ns : List ℕ) (pairs : List Pair) (p : Pair) → Has p (all_changed (takes ns) pairs) ↔ (Has p pairs × ((p.0 ≡ interface) × Has p.1 ns → ⊥))
  taken-iff [] pairs p = (λ h. (h, λ w. w.1), λ h. h.0)
  taken-iff (n ∷ ns) pairs p = taken-more n ns pairs (all_changed (takes ns) (minus pair_before pairs ((interface, n) ∷ []))) p (taken-iff ns (minus pair_before pairs ((interface, n) ∷ [])) p)

  put-more : (n : ℕ) (ns : List ℕ) (pairs rest : List Pair) (p : Pair)
      → (Has p rest ↔ (Has p (Rattle.base.specs.Sets.put_in pair_before (interface, n) pairs) ⊎ ((p.0 ≡ interface) × Has p.1 ns))) → Has p rest ↔ (Has p pairs ⊎ ((p.0 ≡ interface) × Has p.1 (n ∷ ns)))
  put-more n ns pairs rest p ih = (to, from)
    where
      to : Has p rest → Has p pairs ⊎ ((p.0 ≡ interface) × Has p.1 (n ∷ ns))
      to h = elim (ih.0 h) [
        | inl m ↦ elim ((has-put_in pair_laws (interface, n) p pairs).0 m) [
          | inl e ↦ inr (ap (λ (z : Pair). z.0) e, inl (ap (λ (z : Pair). z.1) e))
          | inr k ↦ inl k
        ]
        | inr w ↦ inr (w.0, inr w.1)
      ]

      from : Has p pairs ⊎ ((p.0 ≡ interface) × Has p.1 (n ∷ ns)) → Has p rest
      from (inl m) = ih.1 (inl ((has-put_in pair_laws (interface, n) p pairs).1 (inr m)))
      from (inr w) = elim w.1 [
        | inl e ↦ ih.1 (inl ((has-put_in pair_laws (interface, n) p pairs).1 (inl (same n p w.0 e))))
        | inr k ↦ ih.1 (inr (w.0, k))
      ]

  put-iff : (ns : List ℕ) (pairs : List Pair) (p : Pair) → Has p (all_changed (puts ns) pairs) ↔ (Has p pairs ⊎ ((p.0 ≡ interface) × Has p.1 ns))
  put-iff [] pairs p = (λ h. inl h, λ h. elim h [ inl m ↦ m | inr w ↦ absurd w.1 ])
  put-iff (n ∷ ns) pairs p =
      let next : List Pair = Rattle.base.specs.Sets.put_in pair_before (interface, n) pairs in
      put-more n ns pairs (all_changed (puts ns) next) p (put-iff ns next p)

-- an interface that loses and gets items by numbers
module _ (items : Lists) (rising : IsRising list_before items) (interface : ℕ) (lost won : List ℕ) (old new : ℕ → Lists)
    (held : new interface ≡ union list_before (picked items won) (minus list_before (old interface) (picked items lost))) (others : (i : ℕ) → i ≢ interface → new i ≡ old i) where
  stands-on : (pairs : List Pair) → RepresentPairs items old pairs → RepresentPairs items new (all_changed (puts interface won) (all_changed (takes interface lost) pairs))
  stands-on pairs stand i k x e = (to, from)
    where
      all : List Pair
      all = all_changed (puts interface won) (all_changed (takes interface lost) pairs)

      to : Has (i, k) (all_changed (puts interface won) (all_changed (takes interface lost) pairs)) → Has x (new i)
      to h = elim ((put-iff interface won (all_changed (takes interface lost) pairs) (i, k)).0 h) [
        | inl m ↦
            let w = (taken-iff interface lost pairs (i, k)).0 m in
            let was = (stand i k x e).0 w.0 in
            elim (cases_eq i interface) [
              | inl q ↦ subst (Has x) (sym (ap new q ∙ held)) ((has-union sub_laws x (picked items won) (minus list_before (old interface) (picked items lost))).1
                  (inr ((minus-iff sub_laws x (old interface) (picked items lost)).1 (subst (λ z. Has x (old z)) q was, λ l. w.1 (q, picked-one sub_laws items rising lost k x e l)))))
              | inr n ↦ subst (Has x) (sym (others i n)) was
            ]
        | inr w ↦ subst (Has x) (sym (ap new w.0 ∙ held)) ((has-union sub_laws x (picked items won) (minus list_before (old interface) (picked items lost))).1 (inl (has-picked items won k x w.1 e)))
      ]

      from : Has x (new i) → Has (i, k) (all_changed (puts interface won) (all_changed (takes interface lost) pairs))
      from h = elim (cases_eq i interface) [
        | inl q ↦ elim ((has-union sub_laws x (picked items won) (minus list_before (old interface) (picked items lost))).0 (subst (Has x) (ap new q ∙ held) h)) [
          | inl m ↦ (put-iff interface won (all_changed (takes interface lost) pairs) (i, k)).1 (inr (q, picked-one sub_laws items rising won k x e m))
          | inr m ↦
              let w = (minus-iff sub_laws x (old interface) (picked items lost)).0 m in
              (put-iff interface won (all_changed (takes interface lost) pairs) (i, k)).1 (inl ((taken-iff interface lost pairs (i, k)).1
              ((stand i k x e).1 (subst (λ z. Has x (old z)) (sym q) w.0), λ l. w.1 (has-picked items lost k x l.1 e))))
        ]
        | inr n ↦ (put-iff interface won (all_changed (takes interface lost) pairs) (i, k)).1 (inl ((taken-iff interface lost pairs (i, k)).1
            ((stand i k x e).1 (subst (Has x) (others i n) h), λ l. n l.0)))
      ]

pub split-one : {A : Type 0} (xs ys : List A) (x : A) → Has x (xs ++ ys) → Has x xs ⊎ Has x ys
split-one [] ys x h = inr h
split-one (z ∷ xs) ys x (inl q) = inl (inl q)
split-one (z ∷ xs) ys x (inr h) = elim (split-one xs ys x h) [ inl m ↦ inl (inr m) | inr m ↦ inr m ]

-- so they are pending
pub pending-more : (items : Lists) → IsRising list_before items → (interfaces : List ℕ) (interface : ℕ) → Has interface interfaces → (lost won : List ℕ)
    → ((i : ℕ) → Has i lost → i < length items) → ((i : ℕ) → Has i won → i < length items) → (installed old new : ℕ → Lists)
    → new interface ≡ union list_before (picked items won) (minus list_before (old interface) (picked items lost)) → ((i : ℕ) → i ≢ interface → new i ≡ old i)
    → (pending : List TableChange) → IsPending items interfaces installed old pending
    → IsPending items interfaces installed new (pending ++ (map (λ i. Take i interface) lost ++ map (λ i. Put i interface) won))
pending-more items rising interfaces interface there lost won l w installed old new held others pending is = record {
  turned = λ pairs stand. subst (RepresentPairs items new) (sym (all_changed-append pending (takes interface lost ++ puts interface won) pairs ∙ all_changed-append (takes interface lost) (puts interface won) (all_changed pending pairs)))
      (stands-on items rising interface lost won old new held others (all_changed pending pairs) (is.turned pairs stand));
  numbers = λ change h. elim (split-one pending (takes interface lost ++ puts interface won) change h) [
    | inl m ↦ is.numbers change m
    | inr m ↦ elim (split-one (takes interface lost) (puts interface won) change m) [
      | inl t ↦ let r = has-map (λ i. Take i interface) lost change t in subst (λ z. (pair_in z).1 < length items) (sym r.2) (l r.0 r.1)
      | inr t ↦ let r = has-map (λ i. Put i interface) won change t in subst (λ z. (pair_in z).1 < length items) (sym r.2) (w r.0 r.1)
    ]
  ];
  interfaces_known = λ change h. elim (split-one pending (takes interface lost ++ puts interface won) change h) [
    | inl m ↦ is.interfaces_known change m
    | inr m ↦ elim (split-one (takes interface lost) (puts interface won) change m) [
      | inl t ↦ let r = has-map (λ i. Take i interface) lost change t in subst (λ z. Has (pair_in z).0 interfaces) (sym r.2) there
      | inr t ↦ let r = has-map (λ i. Put i interface) won change t in subst (λ z. Has (pair_in z).0 interfaces) (sym r.2) there
    ]
  ];
}

-- nothing changed, so nothing is pending
pub pending-none : (items : Lists) (interfaces : List ℕ) (held : ℕ → Lists) → IsPending items interfaces held held []
pending-none items interfaces held = record { turned = λ pairs stand. stand; numbers = λ change h. absurd h; interfaces_known = λ change h. absurd h }

-- the numbers that make a difference make the difference
module _ {covers : List ConstraintParts → List ConstraintParts → Bool} (laws : CoverLaws covers list_before) (items : Lists) (rising : IsRising list_before items) (held : Lists) (held-rises : IsRising list_before held)
    (out add lost won : List ℕ) (lost-are : Sieved (λ k. IsHeldAt items held k) out lost) (won-are : Sieved (λ k. IsHeldAt items held k → ⊥) add won) where
  pub won-known : ((i : ℕ) → Has i add → i < length items) → (i : ℕ) → Has i won → i < length items
  won-known l i h = l i ((won-are i).0 h).0

  decide : (x : List ConstraintParts) (ys : Lists) → Has x ys ⊎ (Has x ys → ⊥)
  decide x ys = go (member list_before x ys) refl
    where
      go : (t : Bool) → member list_before x ys ≡ t → Has x ys ⊎ (Has x ys → ⊥)
      go true q = inl ((member-iff laws x ys).0 q)
      go false q = inr (λ h. bad (sym q ∙ has-member laws x ys h))
        where
          bad : false ≡ true → ⊥
          bad w = cc

  pub changed-alike : ((i : ℕ) → Has i out → Has i add → ⊥)
      → union list_before (picked items won) (minus list_before held (picked items lost)) ≡ union list_before (picked items add) (minus list_before held (picked items out))
  changed-alike apart = ext laws (union list_before (picked items won) (minus list_before held (picked items lost))) (union list_before (picked items add) (minus list_before held (picked items out)))
      (rising-union laws (picked items won) (minus list_before held (picked items lost)) (rising-minus laws held (picked items lost) held-rises))
      (rising-union laws (picked items add) (minus list_before held (picked items out)) (rising-minus laws held (picked items out) held-rises)) to from
    where
      to : (x : List ConstraintParts) → Has x (union list_before (picked items won) (minus list_before held (picked items lost))) → Has x (union list_before (picked items add) (minus list_before held (picked items out)))
      to x h = (has-union laws x (picked items add) (minus list_before held (picked items out))).1 (elim ((has-union laws x (picked items won) (minus list_before held (picked items lost))).0 h) [
        | inl m ↦ let k = picked-has items won x m in inl (has-picked items add k.0 x ((won-are k.0).0 k.1).0 k.2)
        | inr m ↦
            let w = (minus-iff laws x held (picked items lost)).0 m in
            inr ((minus-iff laws x held (picked items out)).1 (
              w.0,
              λ o. let k = picked-has items out x o in
                  w.1 (has-picked items lost k.0 x ((lost-are k.0).1 (k.1, record { item = x; at = k.2; is_held = w.0 })) k.2),
            ))
      ])

      from : (x : List ConstraintParts) → Has x (union list_before (picked items add) (minus list_before held (picked items out))) → Has x (union list_before (picked items won) (minus list_before held (picked items lost)))
      from x h = (has-union laws x (picked items won) (minus list_before held (picked items lost))).1 (elim ((has-union laws x (picked items add) (minus list_before held (picked items out))).0 h) [
        | inl m ↦
            let k = picked-has items add x m in
            elim (decide x held) [
              | inl y ↦ inr ((minus-iff laws x held (picked items lost)).1 (
                y,
                λ o.
                    let j = picked-has items lost x o in
                    apart k.0 (subst (λ z. Has z out) (Rattle.server_stock.proofs.Shown.one-number laws items rising j.0 k.0 x j.2 k.2) ((lost-are j.0).0 j.1).0) k.1,
              ))
              | inr n ↦ inl (has-picked items won k.0 x ((won-are k.0).1 (k.1, λ w. n (subst (λ z. Has z held) (Rattle.std.proofs.lemmas.Option.same_Some _ _ (sym w.at ∙ k.2)) w.is_held))) k.2)
            ]
        | inr m ↦
            let w = (minus-iff laws x held (picked items out)).0 m in
            inr ((minus-iff laws x held (picked items lost)).1 (w.0, λ o. let j = picked-has items lost x o in w.1 (has-picked items out j.0 x ((lost-are j.0).0 j.1).0 j.2)))
      ])

  -- and are taken back
  pub taken-back : union list_before (picked items lost) (minus list_before (union list_before (picked items won) (minus list_before held (picked items lost))) (picked items won)) ≡ held
  taken-back =
      let now : Lists = union list_before (picked items won) (minus list_before held (picked items lost)) in
      ext laws (union list_before (picked items lost) (minus list_before now (picked items won))) held
      (rising-union laws (picked items lost) (minus list_before now (picked items won)) (rising-minus laws now (picked items won) (rising-union laws (picked items won) (minus list_before held (picked items lost)) (rising-minus laws held (picked items lost) held-rises))))
      held-rises to from
    where
      to : (x : List ConstraintParts) → Has x (union list_before (picked items lost) (minus list_before (union list_before (picked items won) (minus list_before held (picked items lost))) (picked items won))) → Has x held
      to x h = elim ((has-union laws x (picked items lost) (minus list_before (union list_before (picked items won) (minus list_before held (picked items lost))) (picked items won))).0 h) [
        | inl m ↦
            let k = picked-has items lost x m in
            let w = ((lost-are k.0).0 k.1).1 in
            subst (λ z. Has z held) (Rattle.std.proofs.lemmas.Option.same_Some _ _ (sym w.at ∙ k.2)) w.is_held
        | inr m ↦
            let w = (minus-iff laws x (union list_before (picked items won) (minus list_before held (picked items lost))) (picked items won)).0 m in
            elim ((has-union laws x (picked items won) (minus list_before held (picked items lost))).0 w.0) [
              | inl y ↦ absurd (w.1 y)
              | inr y ↦ ((minus-iff laws x held (picked items lost)).0 y).0
            ]
      ]

      from : (x : List ConstraintParts) → Has x held → Has x (union list_before (picked items lost) (minus list_before (union list_before (picked items won) (minus list_before held (picked items lost))) (picked items won)))
      from x h = (has-union laws x (picked items lost) (minus list_before (union list_before (picked items won) (minus list_before held (picked items lost))) (picked items won))).1 (elim (decide x (picked items lost)) [
        | inl y ↦ inl y
        | inr n ↦ inr ((minus-iff laws x (union list_before (picked items won) (minus list_before held (picked items lost))) (picked items won)).1 (
          (has-union laws x (picked items won) (minus list_before held (picked items lost))).1 (inr ((minus-iff laws x held (picked items lost)).1 (h, n))),
          λ o. let k = picked-has items won x o in ((won-are k.0).0 k.1).1 (record { item = x; at = k.2; is_held = h }),
        ))
      ])

some-more : {A : Type 0} (xs ys : List A) → is_some_there (xs ++ ys) ≡ is_some_there xs || is_some_there ys
some-more [] ys = refl
some-more (x ∷ xs) ys = refl

some-map : {A B : Type 0} (f : A → B) (xs : List A) → is_some_there (map f xs) ≡ is_some_there xs
some-map f [] = refl
some-map f (x ∷ xs) = refl

-- something more is pending exactly where the set changed
module _ (items : Lists) (held now : Lists) (out add lost won : List ℕ) (lost-are : Sieved (λ k. IsHeldAt items held k) out lost) (won-are : Sieved (λ k. IsHeldAt items held k → ⊥) add won)
    (won-known : (i : ℕ) → Has i won → i < length items) (is : now ≡ union list_before (picked items won) (minus list_before held (picked items lost))) (held-rises : IsRising list_before held)
    (apart : (i : ℕ) → Has i lost → Has i won → ⊥) (rising : IsRising list_before items) where
  pub flag : is_some_there lost || is_some_there won ≡ not (same_list list_before held now)
  flag = go lost won refl refl
    where
      minus-none : (xs : Lists) → minus list_before xs [] ≡ xs
      minus-none [] = refl
      minus-none (x ∷ xs) = ap (λ z. x ∷ z) (minus-none xs)

      differ : (same_list list_before held now ≡ true → ⊥) → same_list list_before held now ≡ false
      differ n = by (same_list list_before held now) refl
        where
          by : (b : Bool) → same_list list_before held now ≡ b → b ≡ false
          by false e = refl
          by true e = absurd (n e)

      gone : (k : ℕ) → Has k lost → same_list list_before held now ≡ false
      gone k h = differ (λ e.
          let w = ((lost-are k).0 h).1 in
          let there = subst (Has w.item) (same_list-equal sub_laws held now e ∙ is) w.is_held in
          elim ((has-union sub_laws w.item (picked items won) (minus list_before held (picked items lost))).0 there) [
            | inl m ↦ apart k h (picked-one sub_laws items rising won k w.item w.at m)
            | inr m ↦ ((minus-iff sub_laws w.item held (picked items lost)).0 m).1 (has-picked items lost k w.item h w.at)
          ])

      come : (k : ℕ) → Has k won → same_list list_before held now ≡ false
      come k h = differ (λ e.
          let x = get-some items k (won-known k h) in
          let there = (has-union sub_laws x.0 (picked items won) (minus list_before held (picked items lost))).1 (inl (has-picked items won k x.0 h x.1)) in
          ((won-are k).0 h).1 (record { item = x.0; at = x.1; is_held = subst (Has x.0) (sym (same_list-equal sub_laws held now e ∙ is)) there }))

      go : (ls ws : List ℕ) → lost ≡ ls → won ≡ ws → is_some_there ls || is_some_there ws ≡ not (same_list list_before held now)
      go [] [] a b =
          let same : held ≡ now = sym (is ∙ (Rattle.std.proofs.Common.ap₂ (λ x y. union list_before (picked items x) (minus list_before held (picked items y))) b a ∙ minus-none held)) in
          sym (ap (λ z. not (same_list list_before held z)) (sym same) ∙ ap not (same_list-self sub_laws held))
      go (l ∷ ls) ws a b = sym (ap not (gone l (subst (Has l) (sym a) (inl refl))))
      go [] (w ∷ ws) a b = sym (ap not (come w (subst (Has w) (sym b) (inl refl))))

  pub flag-pending : (interface : ℕ) (pending : List TableChange) → is_some_there (pending ++ (map (λ i. Take i interface) lost ++ map (λ i. Put i interface) won)) ≡ is_some_there pending || not (same_list list_before held now)
  flag-pending interface pending =
      some-more pending (map (λ i. Take i interface) lost ++ map (λ i. Put i interface) won)
      ∙ ap (λ b. is_some_there pending || b) (some-more (map (λ i. Take i interface) lost) (map (λ i. Put i interface) won)
      ∙ (Rattle.std.proofs.Common.ap₂ (λ x y. x || y) (some-map (λ i. Take i interface) lost) (some-map (λ i. Put i interface) won) ∙ flag))
