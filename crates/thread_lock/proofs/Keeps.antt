-- Proves that each step of the lock keeps its rule.
use Rattle.std.proofs.Common.{◌≡◌, ◌≢◌, ℕ, ◌<◌, ◌⊎◌, true, false, List, [], ◌∷◌, ◌++◌, length, set, sym, refl, ap, ◌∙◌, subst, inl, inr, ⊎_elim, arith, Option, Some, length-set, get_or, get_or-set_same, None}
use mathlib.Core.List.{IsPrefix}
use mathlib.Core.Option.{some, some-injective, some-ne-none}
use lib.ListN.{get_elem?}
use Rattle.atomic_table.specs.Table.{State, opening, Me, Act, Valid, stepped, carried_after, keeps, takes, gives, Allows, Splits, Joins, Final, Seen}
use Rattle.atomic_table.proofs.Lists.{at_set, at_snoc, set_else, set_here}
use Rattle.thread_lock.specs.declared.view.View.{View}
use Rattle.thread_lock.specs.Rule.{EachBegins, opener, stays, branch, united, nobody, missed, took, gave, laid, lifted, Laid, Lifted, Fits, HasView, Home, Away, Kept, Taken, PutBack}
use Rattle.thread_lock.proofs.Lists.{set_at, same_at, at_append, begins_self, each_trans, each_append, total_set, total_snoc, total_two, fits_more}
use Rattle.std.proofs.lemmas.Bool.{both_ways, false_from_ne_true}

module _ {I R : Type 0} where
  -- where one view changes
  pub fits_set : (r : R) (front : List I) (vs : List (View I R)) (id : ℕ) (w : View I R) → Fits r front w
      → ((j : ℕ) (u : View I R) → get_elem? vs j ≡ some u → Fits r front u)
      → (j : ℕ) (u : View I R) → get_elem? (set vs id w) j ≡ some u → Fits r front u
  fits_set r front vs id w f all j u e = ⊎_elim (λ (t : (j ≡ id) × (w ≡ u)). subst (λ x. Fits r front x) t.1 f) (λ (t : (j ≢ id) × (get_elem? vs j ≡ some u)). all j u t.1) (at_set vs id j w u e)

  pub apart : (vs : List (View I R)) (h id : ℕ) (w v : View I R) → get_elem? vs h ≡ some w → get_elem? vs id ≡ some v → w.hand ≡ true → v.hand ≡ false → h ≢ id
  apart vs h id w v p q on off e = both_ways w.hand (ap (λ x. x.hand) (same_at vs h id w v p q e) ∙ off) on

  -- the only hand stays the only one where a view with no hand changes to one with none
  pub only_set : (vs : List (View I R)) (h id : ℕ) (w : View I R) → w.hand ≡ false
      → ((j : ℕ) (u : View I R) → get_elem? vs j ≡ some u → u.hand ≡ true → j ≡ h)
      → (j : ℕ) (u : View I R) → get_elem? (set vs id w) j ≡ some u → u.hand ≡ true → j ≡ h
  only_set vs h id w off all j u e on = ⊎_elim (λ (t : (j ≡ id) × (w ≡ u)). absurd (both_ways u.hand (sym (ap (λ x. x.hand) t.1) ∙ off) on)) (λ (t : (j ≢ id) × (get_elem? vs j ≡ some u)). all j u t.1 on) (at_set vs id j w u e)

module _ {T I R : Type 0} (root : T → R) (list : T → List I) where
  takes_home : (r : R) (n id : ℕ) (v : View I R) → v.hand ≡ false → 0 < v.parts → v.root ≡ Some r
      → (s : State (Option T) (View I R)) → Kept root list r n s → get_elem? s.views id ≡ some v
      → (front : List I) → ((j : ℕ) (u : View I R) → HasView s j u → Fits r front u) → Home root list r front s
      → (w : View I R) × (a : Act (Option T)) × Valid s.homes [] a
      × Kept root list r n (stepped s 0 1 id [] w a) × Taken root list (v, []) (get_or s.words 0 0) (w, carried_after [] a)
  takes_home r n id v free live known s k at front fits home =
      let x = home.value in
      let w = took v (list x) in
      let mine = fits id v at in
      let is : front ≡ list x = sym home.has_list in (
        w,
        takes 0 (Some x),
        home.lies,
        record {
          one_word = length-set s.words 0 1 ∙ k.one_word;
          parts = let t = total_set (λ u. u.parts) s.views id v w at in omega (arith, t, k.parts);
          front = front;
          fit = fits_set r front s.views id w record { knows = λ _. known; saw = subst (λ l. IsPrefix l front) is (begins_self front); joined_saw = mine.joined_saw } fits;
          place = inr record {
            word = get_or-set_same s.words 0 1 0 (omega (arith, k.one_word));
            holder = id;
            view = w;
            is_its = set_at s.views id v w at;
            has = refl;
            lives = live;
            saw = home.has_list;
            is_empty = λ o. absurd (both_ways true o refl);
            only = λ j u e on. ⊎_elim (λ (t : (j ≡ id) × (w ≡ u)). t.0) (λ (t : (j ≢ id) × (get_elem? s.views j ≡ some u)). absurd (both_ways u.hand (home.nobody_has j u t.1) on)) (at_set s.views id j w u e);
          };
        },
        record {
          at_home = λ zero. record { value = x; view = refl; slots = refl; has_root = known ∙ ap (λ y. Some y) (sym home.has_root); further = subst (λ l. IsPrefix v.seen l) is mine.saw };
          away = λ off. absurd (off home.word);
        },
      )

  takes_away : (r : R) (n id : ℕ) (v : View I R) → v.hand ≡ false → 0 < v.parts → v.root ≡ Some r
      → (s : State (Option T) (View I R)) → Kept root list r n s → get_elem? s.views id ≡ some v
      → (front : List I) → ((j : ℕ) (u : View I R) → HasView s j u → Fits r front u) → Away root list front s
      → (w : View I R) × (a : Act (Option T)) × Valid s.homes [] a
      × Kept root list r n (stepped s 0 1 id [] w a) × Taken root list (v, []) (get_or s.words 0 0) (w, carried_after [] a)
  takes_away r n id v free live known s k at front fits away =
      let w = missed v in
      let mine = fits id v at in
      let far : away.holder ≢ id = apart s.views away.holder id away.view v away.is_its at away.has free in (
        w,
        keeps,
        tt,
        record {
          one_word = length-set s.words 0 1 ∙ k.one_word;
          parts = let t = total_set (λ u. u.parts) s.views id v w at in omega (arith, t, k.parts);
          front = front;
          fit = fits_set r front s.views id w record { knows = mine.knows; saw = mine.saw; joined_saw = mine.joined_saw } fits;
          place = inr record {
            word = get_or-set_same s.words 0 1 0 (omega (arith, k.one_word));
            holder = away.holder;
            view = away.view;
            is_its = set_else s.views id away.holder w far ∙ away.is_its;
            has = away.has;
            lives = away.lives;
            saw = away.saw;
            is_empty = away.is_empty;
            only = only_set s.views away.holder id w free away.only;
          };
        },
        record {
          at_home = λ zero. absurd (omega (arith, zero, away.word));
          away = λ off. record { free = free; view = refl; slots = refl };
        },
      )

  pub take_keeps : (r : R) (n id : ℕ) (v : View I R) (m : Me (Option T) (View I R)) → m ≡ (v, []) → v.hand ≡ false → 0 < v.parts → v.root ≡ Some r
      → Allows (Kept root list r n) 1 id m 0 (λ _. 1) (Taken root list m)
  take_keeps r n id v m is free live known = subst (λ (y : Me (Option T) (View I R)). Allows (Kept root list r n) 1 id y 0 (λ _. 1) (Taken root list y)) (sym is)
      (λ s k wide at _. ⊎_elim (takes_home r n id v free live known s k at k.front k.fit) (takes_away r n id v free live known s k at k.front k.fit) k.place)

  put_away : (r : R) (n id : ℕ) (v : View I R) (x : T) → v.hand ≡ true → v.root ≡ Some r → root x ≡ r → IsPrefix v.seen (list x)
      → (s : State (Option T) (View I R)) → Kept root list r n s → length s.homes ≡ 1 → get_elem? s.views id ≡ some v
      → (front : List I) → ((j : ℕ) (u : View I R) → HasView s j u → Fits r front u) → Away root list front s
      → (w : View I R) × (a : Act (Option T)) × Valid s.homes ((0, Some x) ∷ []) a
      × Kept root list r n (stepped s 0 0 id ((0, Some x) ∷ []) w a) × PutBack list (v, (0, Some x) ∷ []) (w, carried_after ((0, Some x) ∷ []) a)
  put_away r n id v x held known same more s k wide at front fits away =
      let w = gave v (list x) in
      let mine = fits id v at in
      let h = away.holder in
      let here : id ≡ h = away.only id v at held in
      let is : front ≡ v.seen = sym away.saw ∙ ap (λ (y : View I R). y.seen) (same_at s.views h id away.view v away.is_its at (sym here)) in
      let further : IsPrefix front (list x) = subst (λ l. IsPrefix l (list x)) (sym is) more in (
        w,
        gives,
        tt,
        record {
          one_word = length-set s.words 0 0 ∙ k.one_word;
          parts = let t = total_set (λ y. y.parts) s.views id v w at in omega (arith, t, k.parts);
          front = list x;
          fit = fits_set r (list x) s.views id w record { knows = λ _. known; saw = begins_self (list x); joined_saw = each_trans (list x) front v.joined further mine.joined_saw }
              (λ j y e. fits_more r (list x) front y further (fits j y e));
          place = inl record {
            word = get_or-set_same s.words 0 0 0 (omega (arith, k.one_word));
            value = x;
            lies = set_here s.homes 0 (some (Some x)) (omega (arith, wide));
            has_root = same;
            has_list = refl;
            nobody_has = λ j y e. ⊎_elim (λ (t : (j ≡ id) × (w ≡ y)). sym (ap (λ (z : View I R). z.hand) t.1))
                (λ (t : (j ≢ id) × (get_elem? s.views j ≡ some y)). false_from_ne_true y.hand (λ on. t.0 (away.only j y t.1 on ∙ sym here))) (at_set s.views id j w y e);
          };
        },
        record { view = refl; slots = refl },
      )

  pub put_keeps : (r : R) (n id : ℕ) (v : View I R) (m : Me (Option T) (View I R)) (x : T) → m ≡ (v, (0, Some x) ∷ []) → v.hand ≡ true → v.root ≡ Some r
      → root x ≡ r → IsPrefix v.seen (list x)
      → Allows (Kept root list r n) 1 id m 0 (λ _. 0) (λ _. PutBack list m)
  put_keeps r n id v m x is held known same more = subst (λ (y : Me (Option T) (View I R)). Allows (Kept root list r n) 1 id y 0 (λ _. 0) (λ _. PutBack list y)) (sym is)
      (λ s k wide at _. ⊎_elim (λ home. absurd (both_ways v.hand (home.nobody_has id v at) held)) (put_away r n id v x held known same more s k wide at k.front k.fit) k.place)

  lay_away : (r : R) (n id : ℕ) (v : View I R) → v.hand ≡ true → v.root ≡ Some r → 0 < v.parts
      → (s : State (Option T) (View I R)) → Kept root list r n s → length s.homes ≡ 1 → get_elem? s.views id ≡ some v
      → (front : List I) → ((j : ℕ) (u : View I R) → HasView s j u → Fits r front u) → Away root list front s
      → (w : View I R) × (a : Act (Option T)) × Valid s.homes ((0, None) ∷ []) a
      × Kept root list r n (stepped s 0 1 id ((0, None) ∷ []) w a) × Laid {T = T} (v, (0, None) ∷ []) (w, carried_after ((0, None) ∷ []) a)
  lay_away r n id v held known live s k wide at front fits away =
      let w = laid v in let mine = fits id v at in let h = away.holder in
      let here : id ≡ h = away.only id v at held in
      let is : v.seen ≡ front = ap (λ (y : View I R). y.seen) (sym (same_at s.views h id away.view v away.is_its at (sym here))) ∙ away.saw in (
        w,
        gives,
        tt,
        record {
          one_word = length-set s.words 0 1 ∙ k.one_word;
          parts = let t = total_set (λ y. y.parts) s.views id v w at in omega (arith, t, k.parts);
          front = front;
          fit = fits_set r front s.views id w record { knows = λ _. known; saw = mine.saw; joined_saw = mine.joined_saw } fits;
          place = inr record {
            word = get_or-set_same s.words 0 1 0 (omega (arith, k.one_word));
            holder = id;
            view = w;
            is_its = set_at s.views id v w at;
            has = held;
            lives = live;
            saw = is;
            is_empty = λ _. set_here s.homes 0 (some None) (omega (arith, wide));
            only = λ j u e on. ⊎_elim (λ (t : (j ≡ id) × (w ≡ u)). t.0) (λ (t : (j ≢ id) × (get_elem? s.views j ≡ some u)). away.only j u t.1 on ∙ sym here) (at_set s.views id j w u e);
          };
        },
        record { view = refl; slots = refl },
      )

  pub lay_keeps : (r : R) (n id : ℕ) (v : View I R) (m : Me (Option T) (View I R)) → m ≡ (v, (0, None) ∷ []) → v.hand ≡ true → v.root ≡ Some r → 0 < v.parts
      → Allows (Kept root list r n) 1 id m 0 (λ _. 1) (λ _. Laid m)
  lay_keeps r n id v m is held known live = subst (λ (y : Me (Option T) (View I R)). Allows (Kept root list r n) 1 id y 0 (λ _. 1) (λ _. Laid y)) (sym is)
      (λ s k wide at _. ⊎_elim (λ home. absurd (both_ways v.hand (home.nobody_has id v at) held)) (lay_away r n id v held known live s k wide at k.front k.fit) k.place)

  lift_away : (r : R) (n id : ℕ) (v : View I R) → v.hand ≡ true → v.out ≡ false → v.root ≡ Some r → 0 < v.parts
      → (s : State (Option T) (View I R)) → Kept root list r n s → get_elem? s.views id ≡ some v
      → (front : List I) → ((j : ℕ) (u : View I R) → HasView s j u → Fits r front u) → Away root list front s
      → (w : View I R) × (a : Act (Option T)) × Valid s.homes [] a
      × Kept root list r n (stepped s 0 1 id [] w a) × Lifted {T = T} (v, []) (w, carried_after [] a)
  lift_away r n id v held empty known live s k at front fits away =
      let w = lifted v in let mine = fits id v at in let h = away.holder in
      let here : id ≡ h = away.only id v at held in
      let same : away.view ≡ v = same_at s.views h id away.view v away.is_its at (sym here) in (
        w,
        takes 0 None,
        away.is_empty (ap (λ (y : View I R). y.out) same ∙ empty),
        record {
          one_word = length-set s.words 0 1 ∙ k.one_word;
          parts = let t = total_set (λ y. y.parts) s.views id v w at in omega (arith, t, k.parts);
          front = front;
          fit = fits_set r front s.views id w record { knows = λ _. known; saw = mine.saw; joined_saw = mine.joined_saw } fits;
          place = inr record {
            word = get_or-set_same s.words 0 1 0 (omega (arith, k.one_word));
            holder = id;
            view = w;
            is_its = set_at s.views id v w at;
            has = held;
            lives = live;
            saw = ap (λ (y : View I R). y.seen) (sym same) ∙ away.saw;
            is_empty = λ o. absurd (both_ways true o refl);
            only = λ j u e on. ⊎_elim (λ (t : (j ≡ id) × (w ≡ u)). t.0) (λ (t : (j ≢ id) × (get_elem? s.views j ≡ some u)). away.only j u t.1 on ∙ sym here) (at_set s.views id j w u e);
          };
        },
        record { view = refl; slots = refl },
      )

  pub lift_keeps : (r : R) (n id : ℕ) (v : View I R) (m : Me (Option T) (View I R)) → m ≡ (v, []) → v.hand ≡ true → v.out ≡ false → v.root ≡ Some r → 0 < v.parts
      → Allows (Kept root list r n) 1 id m 0 (λ _. 1) (λ _. Lifted m)
  lift_keeps r n id v m is held empty known live = subst (λ (y : Me (Option T) (View I R)). Allows (Kept root list r n) 1 id y 0 (λ _. 1) (λ _. Lifted y)) (sym is)
      (λ s k wide at _. ⊎_elim (λ home. absurd (both_ways v.hand (home.nobody_has id v at) held)) (lift_away r n id v held empty known live s k at k.front k.fit) k.place)

  -- a view with no hand changes, and the rest stays
  side_set : (r : R) (id : ℕ) (v w : View I R) → v.hand ≡ false → w.hand ≡ false
      → (s : State (Option T) (View I R)) → get_elem? s.views id ≡ some v
      → (front : List I) → Home root list r front s ⊎ Away root list front s
      → let t : State (Option T) (View I R) = record { words = s.words; homes = s.homes; views = set s.views id w } in Home root list r front t ⊎ Away root list front t
  side_set r id v w off off' s at front side = ⊎_elim
      (λ home. inl record {
        word = home.word;
        value = home.value;
        lies = home.lies;
        has_root = home.has_root;
        has_list = home.has_list;
        nobody_has = λ j u e. ⊎_elim (λ (t : (j ≡ id) × (w ≡ u)). sym (ap (λ (z : View I R). z.hand) t.1) ∙ off') (λ (t : (j ≢ id) × (get_elem? s.views j ≡ some u)). home.nobody_has j u t.1) (at_set s.views id j w u e);
      })
      (λ away. inr record {
        word = away.word;
        holder = away.holder;
        view = away.view;
        is_its = set_else s.views id away.holder w (apart s.views away.holder id away.view v away.is_its at away.has off) ∙ away.is_its;
        has = away.has;
        lives = away.lives;
        saw = away.saw;
        is_empty = away.is_empty;
        only = only_set s.views away.holder id w off' away.only;
      })
      side

  side_snoc : (r : R) (w : View I R) → w.hand ≡ false
      → (s : State (Option T) (View I R)) (front : List I) → Home root list r front s ⊎ Away root list front s
      → let t : State (Option T) (View I R) = record { words = s.words; homes = s.homes; views = s.views ++ w ∷ [] } in Home root list r front t ⊎ Away root list front t
  side_snoc r w off s front side = ⊎_elim
      (λ home. inl record {
        word = home.word;
        value = home.value;
        lies = home.lies;
        has_root = home.has_root;
        has_list = home.has_list;
        nobody_has = λ j u e. ⊎_elim (home.nobody_has j u) (λ (t : w ≡ u). sym (ap (λ (z : View I R). z.hand) t) ∙ off) (at_snoc s.views w u j e);
      })
      (λ away. inr record {
        word = away.word;
        holder = away.holder;
        view = away.view;
        is_its = at_append s.views (w ∷ []) away.holder away.view away.is_its;
        has = away.has;
        lives = away.lives;
        saw = away.saw;
        is_empty = away.is_empty;
        only = λ j u e on. ⊎_elim (λ was. away.only j u was on) (λ (t : w ≡ u). absurd (both_ways u.hand (sym (ap (λ (z : View I R). z.hand) t) ∙ off) on)) (at_snoc s.views w u j e);
      })
      side

  pub fork_keeps : (r : R) (n id : ℕ) (v : View I R) → v.hand ≡ false → 1 < v.parts → v.root ≡ Some r → Splits (Kept root list r n) id v (stays v) (branch v)
  fork_keeps r n id v off some_left known s k at =
      let mine = k.fit id v at in
      let t = total_set (λ u. u.parts) s.views id v (stays v) at in let z = total_snoc (λ u. u.parts) (set s.views id (stays v)) (branch v) in
      let old : Fits r k.front (stays v) = record { knows = λ _. known; saw = mine.saw; joined_saw = mine.joined_saw } in
      let new : Fits r k.front (branch v) = record { knows = λ _. known; saw = mine.saw; joined_saw = tt } in
      record {
        one_word = k.one_word;
        parts = omega (arith, t, z, k.parts);
        front = k.front;
        fit = λ j u e. ⊎_elim (fits_set r k.front s.views id (stays v) old k.fit j u) (λ (t : branch v ≡ u). subst (λ x. Fits r k.front x) t new) (at_snoc (set s.views id (stays v)) (branch v) u j e);
        place = side_snoc r (branch v) refl (record { words = s.words; homes = s.homes; views = set s.views id (stays v) }) k.front (side_set r id v (stays v) off off s at k.front k.place);
      }

  pub join_keeps : (r : R) (n id other : ℕ) (v w : View I R) → v.hand ≡ false → w.hand ≡ false → v.root ≡ Some r
      → Joins (Kept root list r n) id v other w (united v w) nobody
  join_keeps r n id other v w off off' known s k at far there =
      let front = k.front in let mine = k.fit id v at in
      let both = united v w in
      let t : State (Option T) (View I R) = record { words = s.words; homes = s.homes; views = set s.views id both } in
      let that : get_elem? s.views other ≡ some w = sym (set_else s.views id other both far) ∙ there in
      let his = k.fit other w that in
      let a = total_set (λ u. u.parts) s.views id v both at in let b = total_set (λ u. u.parts) (set s.views id both) other w nobody there in
      let spent : Fits r front nobody = record { knows = λ h. absurd (omega (arith, h)); saw = (front, refl); joined_saw = tt } in
      let joined : Fits r front both = record { knows = λ _. known; saw = mine.saw; joined_saw = each_append front v.joined (w.seen ∷ w.joined) mine.joined_saw (his.saw, his.joined_saw) } in
      record {
        one_word = k.one_word;
        parts = omega (arith, a, b, k.parts);
        front = front;
        fit = fits_set r front (set s.views id both) other nobody spent (fits_set r front s.views id both joined k.fit);
        place = side_set r other w nobody off' refl t there front (side_set r id v both off off s at front k.place);
      }

  -- WHAT A LOCK GIVES AT ITS END: the value, with its root, whose list begins with what the pass and those that it took in had seen
  pub record Ends (r : R) (v : View I R) (o : Option T) : Type 0 where
    pub value : T
    pub is : o ≡ Some value
    pub has_root : root value ≡ r
    pub saw : IsPrefix v.seen (list value)
    pub joined_saw : EachBegins (list value) v.joined

  -- who has every part finds the value at home
  ends : (r : R) (n id : ℕ) (v : View I R) → v.hand ≡ false → v.parts ≡ n → (words : List ℕ) (slots : List (Option T)) → Final (Seen (Kept root list r n) id v) words slots
      → (o : Option T) → get_elem? slots 0 ≡ some o → Ends r v o
  ends r n id v off whole words slots f o there =
      let s = f.0 in let k = f.1.0 in let at = f.1.1 in let mine = k.fit id v at in
      ⊎_elim
      (λ home. record {
        value = home.value;
        is = some-injective o (Some home.value) (sym there ∙ f.4 0 (Some home.value) home.lies);
        has_root = home.has_root;
        saw = subst (λ l. IsPrefix v.seen l) (sym home.has_list) mine.saw;
        joined_saw = subst (λ l. EachBegins l v.joined) (sym home.has_list) mine.joined_saw;
      })
      (λ away. let t = total_two (λ y. y.parts) s.views away.holder id away.view v away.is_its at (apart s.views away.holder id away.view v away.is_its at away.has off) in absurd (omega (arith, t, whole, k.parts, away.lives)))
      k.place

  pub closes : (r : R) (n id : ℕ) (v : View I R) → v.hand ≡ false → v.parts ≡ n → (words : List ℕ) (slots : List (Option T)) (o : Option T) → get_elem? slots 0 ≡ some o
      → Final (Seen (Kept root list r n) id v) words slots → Ends r v o
  closes r n id v off whole words slots o at f = ends r n id v off whole words slots f o at

  pub open_keeps : (n : ℕ) (x : T) → Kept root list (root x) n (opening (0 ∷ []) (Some x ∷ []) (opener (root x) (list x) n))
  open_keeps n x =
      let first : Fits (root x) (list x) (opener (root x) (list x) n) = record { knows = λ _. refl; saw = begins_self (list x); joined_saw = tt } in
      record {
        one_word = refl;
        parts = omega arith;
        front = list x;
        fit = λ j u e. ⊎_elim (λ was. absurd (some-ne-none u (sym was))) (λ (t : opener (root x) (list x) n ≡ u). subst (λ y. Fits (root x) (list x) y) t first) (at_snoc [] (opener (root x) (list x) n) u j e);
        place = inl record {
          word = refl;
          value = x;
          lies = refl;
          has_root = refl;
          has_list = refl;
          nobody_has = λ j u e. ⊎_elim (λ was. absurd (some-ne-none u (sym was))) (λ (t : opener (root x) (list x) n ≡ u). sym (ap (λ (y : View I R). y.hand) t)) (at_snoc [] (opener (root x) (list x) n) u j e);
        };
      }
