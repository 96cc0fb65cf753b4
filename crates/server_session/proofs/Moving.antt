-- A change of a row of numbers is the change of the items that these represent.
use Rattle.std.proofs.Common.{◌≡◌, ◌↔◌, inl, inr, ℕ, ◌<◌, nat_lt, Bool, true, false, not, ◌||◌, List, [], ◌∷◌, length, filter, slice_get, Some, refl, sym, ap, ap₂, subst, ◌∙◌}
use Rattle.base.specs.Laws.{CoverLaws}
use Rattle.base.specs.Sets.{Has, IsRising, member, put_in, union, minus}
use Rattle.base.proofs.Sets.{ext, has-union, rising-union, has-put_in, rising-put_in, minus-iff, rising-minus, member-iff}
use Rattle.base_bits.specs.Rows.{Numbers, is_in}
use Rattle.base_bits.proofs.Passing.{nat_laws, has-passing, passing-has}
use Rattle.law_routing.specs.Clients.{some_pass}
use Rattle.base_order.specs.Order.{covers_at, picked, covered_row}
use Rattle.base_order.proofs.SettledRoots.{in-has}
use Rattle.base_order.proofs.Rows.{cover-at}
use Rattle.server_stock.proofs.Turns.{get-within}
use Rattle.server_stock.proofs.Shown.{picked-has, has-picked, picked-rising, one-number}
use Rattle.server_session.specs.declared.planned.Moved.TheVariants.{Nothing, Added, Withdrawn}
use Rattle.server_session.specs.Moved.{IsMoved}
use Rattle.server_session.specs.Own.{moved_row}
use Rattle.std.specs.Cmp.{both_ways}
use Rattle.base.proofs.Lists.{filter-same}

pub minus-none : {T : Type 0} (before : T → T → Bool) (xs : List T) → minus before xs [] ≡ xs
minus-none before [] = refl
minus-none before (x ∷ xs) = ap (λ z. x ∷ z) (minus-none before xs)

module _ {T : Type 0} {covers before : T → T → Bool} (laws : CoverLaws covers before) (items : List T) (rising : IsRising before items) where
  pub picked-one : (ns : List ℕ) (k : ℕ) (x : T) → slice_get items k ≡ Some x → Has x (picked items ns) → Has k ns
  picked-one ns k x e h = let r = picked-has items ns x h in subst (λ z. Has z ns) (one-number laws items rising r.0 k x r.2 e) r.1

  -- a row that changes by numbers represents what changes by their items
  pub shifted : (ns out add : List ℕ) → IsRising nat_lt ns
      → picked items (union nat_lt add (minus nat_lt ns out)) ≡ union before (picked items add) (minus before (picked items ns) (picked items out))
  shifted ns out add r = ext laws (picked items (union nat_lt add (minus nat_lt ns out))) (union before (picked items add) (minus before (picked items ns) (picked items out)))
      (picked-rising laws items rising (union nat_lt add (minus nat_lt ns out)) (rising-union nat_laws add (minus nat_lt ns out) (rising-minus nat_laws ns out r)))
      (rising-union laws (picked items add) (minus before (picked items ns) (picked items out))
      (rising-minus laws (picked items ns) (picked items out) (picked-rising laws items rising ns r))) to from
    where
      to : (x : T) → Has x (picked items (union nat_lt add (minus nat_lt ns out))) → Has x (union before (picked items add) (minus before (picked items ns) (picked items out)))
      to x h =
          let k = picked-has items (union nat_lt add (minus nat_lt ns out)) x h in
          (has-union laws x (picked items add) (minus before (picked items ns) (picked items out))).1
          (elim ((has-union nat_laws k.0 add (minus nat_lt ns out)).0 k.1) [
            | inl m ↦ inl (has-picked items add k.0 x m k.2)
            | inr m ↦
                let b = (minus-iff nat_laws k.0 ns out).0 m in
                inr ((minus-iff laws x (picked items ns) (picked items out)).1 (has-picked items ns k.0 x b.0 k.2, λ o. b.1 (picked-one out k.0 x k.2 o)))
          ])

      from : (x : T) → Has x (union before (picked items add) (minus before (picked items ns) (picked items out))) → Has x (picked items (union nat_lt add (minus nat_lt ns out)))
      from x h = elim ((has-union laws x (picked items add) (minus before (picked items ns) (picked items out))).0 h) [
        | inl m ↦
            let k = picked-has items add x m in
            has-picked items (union nat_lt add (minus nat_lt ns out)) k.0 x ((has-union nat_laws k.0 add (minus nat_lt ns out)).1 (inl k.1)) k.2
        | inr m ↦
            let b = (minus-iff laws x (picked items ns) (picked items out)).0 m in
            let k = picked-has items ns x b.0 in
            has-picked items (union nat_lt add (minus nat_lt ns out)) k.0 x ((has-union nat_laws k.0 add (minus nat_lt ns out)).1
            (inr ((minus-iff nat_laws k.0 ns out).1 (k.1, λ o. b.1 (has-picked items out k.0 x o k.2))))) k.2
      ]

  module _ (i : ℕ) (x : T) (at : slice_get items i ≡ Some x) (ns : List ℕ) (r : IsRising nat_lt ns) where
    now : List T
    now = picked items ns

    -- what is there is not added again
    pub there-moved : is_in i ns ≡ true → IsMoved before items (picked items ns) (union before (x ∷ []) (picked items ns)) Nothing
    unfolding now
    there-moved e = record {
      turned = minus-none before now ∙ ext laws now (put_in before x now) (picked-rising laws items rising ns r) (rising-put_in laws x now (picked-rising laws items rising ns r))
          (λ y h. (has-put_in laws x y now).1 (inr h))
          (λ y h. elim ((has-put_in laws x y now).0 h) [ inl q ↦ subst (λ z. Has z now) (sym q) (has-picked items ns i x (in-has i ns e) at) | inr m ↦ m ]);
      gone_known = λ k h. absurd h;
      come_known = λ k h. absurd h;
    }

    pub added-moved : IsMoved before items (picked items ns) (union before (x ∷ []) (picked items ns)) (Added i)
    unfolding now
    added-moved =
        let one : picked items (i ∷ []) ≡ x ∷ [] = rw at refl in
        record {
          turned = ap₂ (λ a b. union before a b) one (minus-none before now);
          gone_known = λ k h. absurd h;
          come_known = λ k h. elim h [ inl q ↦ subst (λ z. z < length items) (sym q) (get-within items i x at) | inr m ↦ absurd m ];
        }

    pub withdrawn-moved : (list : List ℕ) → ((k : ℕ) → Has k list ↔ (Has k ns × Has k (covered_row covers items i).members))
        → IsMoved before items (picked items ns) (filter (λ y. not (covers x y)) (picked items ns)) (Withdrawn list)
    unfolding now
    withdrawn-moved list iff = record {
      turned = filter-same (λ y. not (member before y (picked items list))) (λ y. not (covers x y)) now same;
      gone_known = λ k h. (has-passing (λ j. covers_at covers items i j) (length items) k ((iff k).0 h).1).0;
      come_known = λ k h. absurd h;
    }
      where
        same : (y : T) → Has y now → not (member before y (picked items list)) ≡ not (covers x y)
        same y h =
            let k = picked-has items ns y h in
            ap not (both_ways (member before y (picked items list)) (covers x y)
            (λ m.
            let l = picked-one list k.0 y k.2 ((member-iff laws y (picked items list)).0 m) in
            sym (cover-at covers items i k.0 x y at k.2) ∙ (has-passing (λ j. covers_at covers items i j) (length items) k.0 ((iff k.0).0 l).1).1)
            (λ e. (member-iff laws y (picked items list)).1 (has-picked items list k.0 y
            ((iff k.0).1 (k.1, passing-has (λ j. covers_at covers items i j) (length items) k.0 (get-within items k.0 y k.2) (cover-at covers items i k.0 x y at k.2 ∙ e))) k.2)))

-- whether some member passes a test
pub some-passes : {T : Type 0} (test : T → Bool) (xs : List T) (x : T) → Has x xs → test x ≡ true → some_pass test xs ≡ true
some-passes test [] x h e = absurd h
some-passes test (y ∷ ys) x (inl q) e = let w : test y ≡ true = ap test (sym q) ∙ e in rw w refl
some-passes test (y ∷ ys) x (inr m) e = go (test y) (some-passes test ys x m e)
  where
    go : (b : Bool) → some_pass test ys ≡ true → (b || some_pass test ys) ≡ true
    go true f = refl
    go false f = f

pub none-passes : {T : Type 0} (test : T → Bool) (xs : List T) → ((x : T) → Has x xs → test x ≡ false) → some_pass test xs ≡ false
none-passes test [] n = refl
none-passes test (y ∷ ys) n = let w : test y ≡ false = n y (inl refl) in rw w (none-passes test ys (λ x h. n x (inr h)))

pub still-row : (row : Numbers) → moved_row Nothing row ≡ row
still-row row = ap (λ z. record { width = row.width; members = z }) (minus-none nat_lt row.members)
