-- Lines: where keys stand, and what is found on each side of a key.
use Rattle.std.proofs.Common.{◌≡◌, ◌+◌, ◌-◌, ◌<◌, ◌≤◌, ◌∙◌, ℕ, Bool, true, false, cond, refl, ap, arith, List, [], ◌∷◌, ◌++◌, length, take, drop, get_or, zero, suc, inl, inr, ◌⊎◌, sym, subst, append_assoc}
use Rattle.std.specs.declared.cmp.Ordering.{Ordering}
use Rattle.std.specs.Cmp.{IsTotalOrder}
use Rattle.std.specs.Ordering.{is_lt, is_gt}
use Rattle.std.proofs.lemmas.Bool.{cases_eq}
use Rattle.std.proofs.lemmas.List.{get_or-drop, length-drop, drop-drop}
use Rattle.std.specs.List.{insert, zip}
use Rattle.std.proofs.lemmas.Slice.Zip.{length-zip, get_or-zip}
use Rattle.std.proofs.lemmas.List.Edits.{length-insert, get_or-insert_below, get_or-insert_at, get_or-insert_above}
use Rattle.filter_values.specs.declared.value.Value.{Value}
use Rattle.match_index.specs.Pairs.{tally, Test, passes, ids_met}
use Rattle.match_index.specs.Lines.{key_in, AreSorted, HaveSortedKeys, told, ids_with, on_side}
use Rattle.match_index.specs.declared.sides.Sides.{Sides}
use Rattle.match_index.proofs.Tallies.{tally-map, tally-insert}
use Rattle.match_index.proofs.Orders.{greater-is, neither-is, itself, turned}
use Rattle.base.proofs.Bools.{is_lt-less}
use Rattle.base.proofs.Lists.{take-all}

trichotomy : (a b : ℕ) → (a < b) ⊎ ((a ≡ b) ⊎ (b < a))
trichotomy a b = elim (cases_eq a b) [ inl e ↦ inr (inl e) | inr n ↦ grind (arith, n) ]

-- the side of a key
pub side-below : (s : Sides) (o : Ordering) → is_lt o ≡ true → on_side s o ≡ s.below
side-below s o e = ap (on_side s) (is_lt-less o e)

pub side-above : (s : Sides) (o : Ordering) → is_gt o ≡ true → on_side s o ≡ s.above
side-above s o e = ap (on_side s) (greater-is o e)

pub side-equal : (s : Sides) (o : Ordering) → is_lt o ≡ false → is_gt o ≡ false → on_side s o ≡ s.equal
side-equal s o e f = ap (on_side s) (neither-is o e f)

-- three appended one after another
pub three-parts : (old m n last a b c : List ℕ) → m ≡ old ++ a → n ≡ m ++ b → last ≡ n ++ c → last ≡ old ++ (a ++ (b ++ c))
three-parts old m n last a b c e f g = g ∙ ap (λ xs. xs ++ c) f ∙ append_assoc m b c ∙ ap (λ xs. xs ++ (b ++ c)) e ∙ append_assoc old a (b ++ c)

module _ {K : Type 0} where
  -- the ids whose key passes are those of the pairs whose test the value passes
  pub met-told : (v : Value) (said : K → Test) (q : K → Bool) (pairs : List (K × ℕ)) → ((k : K) → q k ≡ passes v (said k)) → ids_with q pairs ≡ ids_met v (told said pairs)
  met-told v said q [] h = refl
  met-told v said q (x ∷ pairs) h = go (q x.0) (passes v (said x.0)) (h x.0) (met-told v said q pairs h)
    where
      go : (a b : Bool) → a ≡ b → ids_with q pairs ≡ ids_met v (told said pairs) → cond a (x.1 ∷ ids_with q pairs) (ids_with q pairs) ≡ cond b (x.1 ∷ ids_met v (told said pairs)) (ids_met v (told said pairs))
      go true true w r = ap (λ xs. x.1 ∷ xs) r
      go false false w r = r
      go true false w r = cc
      go false true w r = cc

  pub none-met-told : (v : Value) (said : K → Test) (pairs : List (K × ℕ)) → ((k : K) → passes v (said k) ≡ false) → ids_met v (told said pairs) ≡ []
  none-met-told v said [] h = refl
  none-met-told v said (x ∷ pairs) h = rw (h x.0) (none-met-told v said pairs h)

  pub tally-told : {N : Type 0} (said : K → N) (p : N × ℕ → Bool) (pairs : List (K × ℕ)) → tally p (told said pairs) ≡ tally (λ x. p (said x.0, x.1)) pairs
  tally-told {N = N} said p pairs = tally-map {X = K × ℕ} {Y = N × ℕ} (λ x. (said x.0, x.1)) p pairs

  -- keys that pass alike find the same
  pub alike-found : (q r : K → Bool) (pairs : List (K × ℕ)) → ((k : K) → q k ≡ r k) → ids_with q pairs ≡ ids_with r pairs
  alike-found q r [] h = refl
  alike-found q r (x ∷ pairs) h = go (q x.0) (r x.0) (h x.0) (alike-found q r pairs h)
    where
      go : (a b : Bool) → a ≡ b → ids_with q pairs ≡ ids_with r pairs → cond a (x.1 ∷ ids_with q pairs) (ids_with q pairs) ≡ cond b (x.1 ∷ ids_with r pairs) (ids_with r pairs)
      go true true w e = ap (λ xs. x.1 ∷ xs) e
      go false false w e = e
      go true false w e = cc
      go false true w e = cc

  -- where the first keys all pass, or none does
  part : (q : K → Bool) (u : Bool) (d : K) (i : ℕ) (keys : List K) (ids : List ℕ) → length keys ≡ length ids → i ≤ length keys → ((k : ℕ) → k < i → q (get_or keys k d) ≡ u) → ids_with q (zip keys ids) ≡ cond u (take i ids) [] ++ ids_with q (zip (drop i keys) (drop i ids))
  part q true d zero keys ids e l h = refl
  part q false d zero keys ids e l h = refl
  part q u d (suc i) [] ids e l h = absurd (omega (arith, l))
  part q u d (suc i) (x ∷ keys) [] e l h = absurd (omega (arith, e))
  part q u d (suc i) (x ∷ keys) (id ∷ ids) e l h = go u (h 0 (omega arith)) (part q u d i keys ids (omega (arith, e)) (omega (arith, l)) (λ k m. h (suc k) (omega (arith, m))))
    where
      go : (u : Bool) → q x ≡ u → ids_with q (zip keys ids) ≡ cond u (take i ids) [] ++ ids_with q (zip (drop i keys) (drop i ids)) → cond (q x) (id ∷ ids_with q (zip keys ids)) (ids_with q (zip keys ids)) ≡ cond u (id ∷ take i ids) [] ++ ids_with q (zip (drop i keys) (drop i ids))
      go true w r = rw w (ap (λ xs. id ∷ xs) r)
      go false w r = rw w r

  whole : (q : K → Bool) (u : Bool) (d : K) (keys : List K) (ids : List ℕ) → length keys ≡ length ids → ((k : ℕ) → k < length keys → q (get_or keys k d) ≡ u) → ids_with q (zip keys ids) ≡ cond u ids []
  whole q true d [] [] e h = refl
  whole q false d [] [] e h = refl
  whole q u d [] (id ∷ ids) e h = absurd (omega (arith, e))
  whole q u d (x ∷ keys) [] e h = absurd (omega (arith, e))
  whole q u d (x ∷ keys) (id ∷ ids) e h = go u (h 0 (omega arith)) (whole q u d keys ids (omega (arith, e)) (λ k m. h (suc k) (omega (arith, m))))
    where
      go : (u : Bool) → q x ≡ u → ids_with q (zip keys ids) ≡ cond u ids [] → cond (q x) (id ∷ ids_with q (zip keys ids)) (ids_with q (zip keys ids)) ≡ cond u (id ∷ ids) []
      go true w r = rw w (ap (λ xs. id ∷ xs) r)
      go false w r = rw w r

  -- what is found in three parts
  pub three : (q : K → Bool) (u v w : Bool) (d : K) (a b : ℕ) (keys : List K) (ids : List ℕ) → length keys ≡ length ids → a ≤ b → b ≤ length keys → ((k : ℕ) → k < a → q (get_or keys k d) ≡ u) → ((k : ℕ) → a ≤ k → k < b → q (get_or keys k d) ≡ v) → ((k : ℕ) → b ≤ k → k < length keys → q (get_or keys k d) ≡ w) → ids_with q (zip keys ids) ≡ cond u (take a ids) [] ++ (cond v (take (b - a) (drop a ids)) [] ++ cond w (drop b ids) [])
  three q u v w d a b keys ids e m l f g h =
      let rest : drop (b - a) (drop a keys) ≡ drop b keys = drop-drop (b - a) a keys ∙ ap {B = List K} (λ n. drop n keys) (omega (arith, m)) in
      let others : drop (b - a) (drop a ids) ≡ drop b ids = drop-drop (b - a) a ids ∙ ap {B = List ℕ} (λ n. drop n ids) (omega (arith, m)) in
      let first = part q u d a keys ids e (omega (arith, m, l)) f in
      let second = part q v d (b - a) (drop a keys) (drop a ids) (omega (arith, e, length-drop a keys, length-drop a ids)) (omega (arith, m, l, length-drop a keys)) (λ k n. ap {B = Bool} q (get_or-drop a keys k d) ∙ g (a + k) (omega arith) (omega (arith, n, m))) in
      let third = whole q w d (drop b keys) (drop b ids) (omega (arith, e, length-drop b keys, length-drop b ids)) (λ k n. ap {B = Bool} q (get_or-drop b keys k d) ∙ h (b + k) (omega arith) (omega (arith, n, length-drop b keys))) in
      let behind : ids_with q (zip (drop (b - a) (drop a keys)) (drop (b - a) (drop a ids))) ≡ cond w (drop b ids) [] = ap {B = List ℕ} (λ (ks : List K). ids_with q (zip ks (drop (b - a) (drop a ids)))) rest ∙ ap {B = List ℕ} (λ (vs : List ℕ). ids_with q (zip (drop b keys) vs)) others ∙ third in
      first ∙ ap (λ xs. cond u (take a ids) [] ++ xs) (second ∙ ap (λ xs. cond v (take (b - a) (drop a ids)) [] ++ xs) behind)

  -- the pairs of keys and ids
  key-zip : (keys : List K) (ids : List ℕ) (d : K × ℕ) (k : ℕ) → length keys ≡ length ids → k < length keys → key_in (zip keys ids) d k ≡ get_or keys k d.0
  key-zip keys ids d k e l = ap {B = K} (λ (x : K × ℕ). x.0) (get_or-zip keys ids k d l (omega (arith, l, e)))

  pub zip-long : (keys : List K) (ids : List ℕ) → length keys ≡ length ids → length (zip keys ids) ≡ length keys
  zip-long keys ids e = omega (arith, e, length-zip keys ids)

  insert-zip : (keys : List K) (ids : List ℕ) (i : ℕ) (key : K) (id : ℕ) → length keys ≡ length ids → i ≤ length keys → insert (zip keys ids) i (key, id) ≡ zip (insert keys i key) (insert ids i id)
  insert-zip [] [] zero key id e l = refl
  insert-zip [] [] (suc i) key id e l = absurd (omega (arith, l))
  insert-zip [] (x ∷ ids) i key id e l = absurd (omega (arith, e))
  insert-zip (k ∷ keys) [] i key id e l = absurd (omega (arith, e))
  insert-zip (k ∷ keys) (x ∷ ids) zero key id e l = refl
  insert-zip (k ∷ keys) (x ∷ ids) (suc i) key id e l = ap {B = List (K × ℕ)} (λ xs. (k, x) ∷ xs) (insert-zip keys ids i key id (omega (arith, e)) (omega (arith, l)))

  pub insert-even : (keys : List K) (ids : List ℕ) (i : ℕ) (key : K) (id : ℕ) → length keys ≡ length ids → i ≤ length keys → length (insert keys i key) ≡ length (insert ids i id)
  insert-even keys ids i key id e l = omega (arith, e, length-insert keys i key l, length-insert ids i id (omega (arith, e, l)))

  -- a pair more
  pub put-in : (p : K × ℕ → Bool) (keys : List K) (ids : List ℕ) (i : ℕ) (key : K) (id : ℕ) → length keys ≡ length ids → i ≤ length keys → tally p (zip (insert keys i key) (insert ids i id)) ≡ cond (p (key, id)) 1 0 + tally p (zip keys ids)
  put-in p keys ids i key id e l = ap (tally p) (sym (insert-zip keys ids i key id e l)) ∙ tally-insert p (zip keys ids) i (key, id) (omega (arith, l, zip-long keys ids e))

-- the ids from a place on
pub rest-of : (ids : List ℕ) (n : ℕ) → take (length ids - n) (drop n ids) ≡ drop n ids
rest-of ids n = take-all (length ids - n) (drop n ids) (omega (arith, length-drop n ids))

-- the order of the keys
module _ {K : Type 0} {R : K → K → Ordering} (o : IsTotalOrder R) where
  gt-at : (a b c e : K) → a ≡ b → c ≡ e → is_gt (R b e) ≡ false → is_gt (R a c) ≡ false
  gt-at a b c e f h k = rw (f, h) k

  -- an insert between what is not greater and what is not less
  module _ (pairs : List (K × ℕ)) (i : ℕ) (key : K) (id : ℕ) (r : HaveSortedKeys R pairs) (l : i ≤ length pairs) where
    abbrev new : List (K × ℕ)
    new = insert pairs i (key, id)

    new-below : (d : K × ℕ) (k : ℕ) → k < i → key_in new d k ≡ key_in pairs d k
    new-below d k a = ap {B = K} (λ (x : K × ℕ). x.0) (get_or-insert_below pairs i (key, id) d k a l)

    new-at : (d : K × ℕ) (k : ℕ) → k ≡ i → key_in new d k ≡ key
    new-at d k e = ap {B = K} (key_in new d) e ∙ ap {B = K} (λ (x : K × ℕ). x.0) (get_or-insert_at pairs i (key, id) d l)

    new-above : (d : K × ℕ) (k : ℕ) → i < k → key_in new d k ≡ key_in pairs d (k - 1)
    new-above d k a = let e : k ≡ (k - 1) + 1 = omega (arith, a) in ap {B = K} (key_in new d) e ∙ ap {B = K} (λ (x : K × ℕ). x.0) (get_or-insert_above pairs i (key, id) d (k - 1) (omega (arith, a)) l)

    insert-rising : ((d : K × ℕ) (k : ℕ) → k < i → is_gt (R (key_in pairs d k) key) ≡ false) → ((d : K × ℕ) (k : ℕ) → i ≤ k → k < length pairs → is_lt (R (key_in pairs d k) key) ≡ false) → HaveSortedKeys R (insert pairs i (key, id))
    insert-rising f g d j k m n =
        let long = length-insert pairs i (key, id) l in
        elim (trichotomy k i) [
          | inl a ↦ gt-at (key_in new d j) (key_in pairs d j) (key_in new d k) (key_in pairs d k) (new-below d j (omega (arith, a, m))) (new-below d k a) (r d j k m (omega (arith, a, l)))
          | inr (inl e) ↦ elim (trichotomy j i) [
            | inl b ↦ gt-at (key_in new d j) (key_in pairs d j) (key_in new d k) key (new-below d j b) (new-at d k e) (f d j b)
            | inr (inl b) ↦ gt-at (key_in new d j) key (key_in new d k) key (new-at d j b) (new-at d k e) (itself o key)
            | inr (inr b) ↦ absurd (omega (arith, b, e, m))
          ]
          | inr (inr a) ↦ elim (trichotomy j i) [
            | inl b ↦ gt-at (key_in new d j) (key_in pairs d j) (key_in new d k) (key_in pairs d (k - 1)) (new-below d j b) (new-above d k a) (r d j (k - 1) (omega (arith, a, b)) (omega (arith, a, n, long)))
            | inr (inl b) ↦ gt-at (key_in new d j) key (key_in new d k) (key_in pairs d (k - 1)) (new-at d j b) (new-above d k a) (turned o (key_in pairs d (k - 1)) key (g d (k - 1) (omega (arith, a)) (omega (arith, a, n, long))))
            | inr (inr b) ↦ gt-at (key_in new d j) (key_in pairs d (j - 1)) (key_in new d k) (key_in pairs d (k - 1)) (new-above d j b) (new-above d k a) (r d (j - 1) (k - 1) (omega (arith, m, a, b)) (omega (arith, a, n, long)))
          ]
        ]

  -- keys and ids of the same number
  module _ (keys : List K) (ids : List ℕ) (e : length keys ≡ length ids) (r : HaveSortedKeys R (zip keys ids)) where
    pub sorted-keys : AreSorted R keys
    sorted-keys d j k l m = gt-at (get_or keys j d) (key_in (zip keys ids) (d, 0) j) (get_or keys k d) (key_in (zip keys ids) (d, 0) k) (sym (key-zip keys ids (d, 0) j e (omega (arith, l, m)))) (sym (key-zip keys ids (d, 0) k e m)) (r (d, 0) j k l (omega (arith, m, zip-long keys ids e)))

    pub put-sorted : (i : ℕ) (key : K) (id : ℕ) → i ≤ length keys → ((d : K) (k : ℕ) → k < i → is_gt (R (get_or keys k d) key) ≡ false) → ((d : K) (k : ℕ) → i ≤ k → k < length keys → is_lt (R (get_or keys k d) key) ≡ false) → HaveSortedKeys R (zip (insert keys i key) (insert ids i id))
    put-sorted i key id l f g =
        let long = zip-long keys ids e in
        let at = λ (d : K × ℕ) (k : ℕ) (m : k < length keys). key-zip keys ids d k e m in
        subst (HaveSortedKeys R) (insert-zip keys ids i key id e l) (insert-rising (zip keys ids) i key id r (omega (arith, l, long))
        (λ d k m. ap {B = Bool} (λ (x : K). is_gt (R x key)) (at d k (omega (arith, m, l))) ∙ f d.0 k m)
        (λ d k m n. ap {B = Bool} (λ (x : K). is_lt (R x key)) (at d k (omega (arith, n, long))) ∙ g d.0 k m (omega (arith, n, long))))
