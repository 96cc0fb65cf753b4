-- A list in the order of adding and the rising list have the same members.
use Rattle.std.proofs.Common.{◌≡◌, ℕ, suc, ◌+◌, arith, Bool, true, false, cond, not, ◌||◌, List, [], ◌∷◌, ◌++◌, ◌⊎◌, inl, inr, filter, refl, sym, subst, ap, ◌∙◌}
use Rattle.base.specs.Laws.{CoverLaws}
use Rattle.base.specs.Sets.{Has, member, IsRising, put_in, set_of}
use Rattle.base.proofs.Roots.{Has-filter, filter-Has}
use Rattle.base.proofs.Sets.{member-has, has-put_in, rising-put_in, rising-filter, ext, rising-set_of, has-set_of, has-append, has-append-left, has-append-right}
use Rattle.law_routing.specs.Theory.{Theory, TheoryLaws}
use Rattle.law_routing.specs.Net.{Net, Command, Subscribe, Unsubscribe, Advertise, Unadvertise, Publish, PhasedCommand}
use Rattle.law_routing.specs.Clients.{some_pass, filters_step, filters_after, adverts_step, adverts_after, accepts, is_publish, ordinal, add_refused, refused_from}
use Rattle.law_routing.proofs.Listing.{pass-by, by-pass}
use Rattle.net_model.specs.Adding.{own_filters_step, own_filters, own_adverts_step, own_adverts, refused_next}

-- a list and a rising list with the same members
pub record IsSorted {T : Type 0} (before : T → T → Bool) (own rising : List T) : Type 0 where
  pub rises : IsRising before rising
  pub to : (x : T) → Has x own → Has x rising
  pub back : (x : T) → Has x rising → Has x own

module _ {T : Type 0} {covers before : T → T → Bool} (laws : CoverLaws covers before) where
  none : IsSorted before [] []
  none = record { rises = tt; to = λ x h. h; back = λ x h. h }

  added : (x : T) (own rising : List T) → IsSorted before own rising → IsSorted before (cond (member before x own) own (own ++ x ∷ [])) (put_in before x rising)
  added x own rising s = go (member before x own) refl
    where
      back : (y : T) → Has y (put_in before x rising) → (y ≡ x) ⊎ Has y rising
      back y h = (has-put_in laws x y rising).0 h

      go : (b : Bool) → member before x own ≡ b → IsSorted before (cond b own (own ++ x ∷ [])) (put_in before x rising)
      go true e = record {
        rises = rising-put_in laws x rising s.rises;
        to = λ y h. (has-put_in laws x y rising).1 (inr (s.to y h));
        back = λ y h. elim (back y h) [ inl q ↦ subst (λ z. Has z own) (sym q) (member-has laws x own e) | inr m ↦ s.back y m ];
      }
      go false e = record {
        rises = rising-put_in laws x rising s.rises;
        to = λ y h. (has-put_in laws x y rising).1 (elim (has-append y own (x ∷ []) h) [ inl m ↦ inr (s.to y m) | inr m ↦ inl (only y m) ]);
        back = λ y h. elim (back y h) [ inl q ↦ has-append-right y own (x ∷ []) (inl q) | inr m ↦ has-append-left y own (x ∷ []) (s.back y m) ];
      }
        where
          only : (y : T) → Has y (x ∷ []) → y ≡ x
          only y (inl q) = q
          only y (inr h) = absurd h

  kept : (p : T → Bool) (own rising : List T) → IsSorted before own rising → IsSorted before (filter p own) (filter p rising)
  kept p own rising s = record {
    rises = rising-filter laws p rising s.rises;
    to = λ y h. (let m = filter-Has p y own h in Has-filter p y rising (s.to y m.0) m.1);
    back = λ y h. (let m = filter-Has p y rising h in Has-filter p y own (s.back y m.0) m.1);
  }

  sorts : (own rising : List T) → IsSorted before own rising → set_of before own ≡ rising
  sorts own rising s = ext laws (set_of before own) rising (rising-set_of laws own) s.rises (λ x h. s.to x ((has-set_of laws x own).0 h)) (λ x h. (has-set_of laws x own).1 (s.back x h))

-- a test passes for some member of the one where it does for some member of the other
some-same : {T : Type 0} (before : T → T → Bool) (test : T → Bool) (own rising : List T) → IsSorted before own rising → some_pass test own ≡ some_pass test rising
some-same before test own rising s = go (some_pass test own) refl (some_pass test rising) refl
  where
    go : (a : Bool) → some_pass test own ≡ a → (b : Bool) → some_pass test rising ≡ b → a ≡ b
    go true e true f = refl
    go false e false f = refl
    go true e false f = let w = by-pass test own e in absurd (apart (sym (pass-by test w.0 rising (s.to w.0 w.1) w.2) ∙ f))
      where
        apart : true ≡ false → ⊥
        apart q = cc
    go false e true f = let w = by-pass test rising f in absurd (apart (sym (pass-by test w.0 own (s.back w.0 w.1) w.2) ∙ e))
      where
        apart : true ≡ false → ⊥
        apart q = cc

module _ (th : Theory) (laws : TheoryLaws th) where
  filters-step : (own rising : List th.Filter) → IsSorted th.before own rising → (c : Command th) → IsSorted th.before (own_filters_step th own c) (filters_step th rising c)
  filters-step own rising s (Subscribe f) = added laws.filters f own rising s
  filters-step own rising s (Unsubscribe f) = kept laws.filters (λ g. not (th.covers f g)) own rising s
  filters-step own rising s (Advertise a) = s
  filters-step own rising s (Unadvertise a) = s
  filters-step own rising s (Publish n) = s

  filters-keep : (own rising : List th.Filter) → IsSorted th.before own rising → (cs : List (PhasedCommand th)) → IsSorted th.before (own_filters th own cs) (filters_after th rising cs)
  filters-keep own rising s [] = s
  filters-keep own rising s (c ∷ cs) = filters-keep (own_filters_step th own c.command) (filters_step th rising c.command) (filters-step own rising s c.command) cs

  pub filters-sorted : (cs : List (PhasedCommand th)) → set_of th.before (own_filters th [] cs) ≡ filters_after th [] cs
  filters-sorted cs = sorts laws.filters (own_filters th [] cs) (filters_after th [] cs) (filters-keep [] [] (none laws.filters) cs)

  adverts-step : (own rising : List th.Advert) → IsSorted th.before_advert own rising → (c : Command th) → IsSorted th.before_advert (own_adverts_step th own c) (adverts_step th rising c)
  adverts-step own rising s (Subscribe f) = s
  adverts-step own rising s (Unsubscribe f) = s
  adverts-step own rising s (Advertise a) = added laws.adverts a own rising s
  adverts-step own rising s (Unadvertise a) = kept laws.adverts (λ b. not (th.covers_advert a b)) own rising s
  adverts-step own rising s (Publish n) = s

  adverts-keep : (own rising : List th.Advert) → IsSorted th.before_advert own rising → (cs : List (PhasedCommand th)) → IsSorted th.before_advert (own_adverts th own cs) (adverts_after th rising cs)
  adverts-keep own rising s [] = s
  adverts-keep own rising s (c ∷ cs) = adverts-keep (own_adverts_step th own c.command) (adverts_step th rising c.command) (adverts-step own rising s c.command) cs

  pub adverts-sorted : (cs : List (PhasedCommand th)) → set_of th.before_advert (own_adverts th [] cs) ≡ adverts_after th [] cs
  adverts-sorted cs = sorts laws.adverts (own_adverts th [] cs) (adverts_after th [] cs) (adverts-keep [] [] (none laws.adverts) cs)

  pub accepts-same : (net : Net th) (cs : List (PhasedCommand th)) (n : th.Notice) → accepts th net (own_adverts th [] cs) n ≡ accepts th net (adverts_after th [] cs) n
  accepts-same net cs n = ap (λ b. not net.adverts || b) (some-same th.before_advert (λ a. th.allows a n) (own_adverts th [] cs) (adverts_after th [] cs) (adverts-keep [] [] (none laws.adverts) cs))

  -- one more command
  pub filters-more : (own : List th.Filter) (xs : List (PhasedCommand th)) (x : PhasedCommand th) → own_filters th own (xs ++ x ∷ []) ≡ own_filters_step th (own_filters th own xs) x.command
  filters-more own [] x = refl
  filters-more own (y ∷ ys) x = filters-more (own_filters_step th own y.command) ys x

  pub adverts-more : (own : List th.Advert) (xs : List (PhasedCommand th)) (x : PhasedCommand th) → own_adverts th own (xs ++ x ∷ []) ≡ own_adverts_step th (own_adverts th own xs) x.command
  adverts-more own [] x = refl
  adverts-more own (y ∷ ys) x = adverts-more (own_adverts_step th own y.command) ys x

module _ (th : Theory) (net : Net th) where
  refused-on : (adverts : List th.Advert) (number : ℕ) (c : Command th) (xs ys : List ℕ) → add_refused th net adverts number c (xs ++ ys) ≡ add_refused th net adverts number c xs ++ ys
  refused-on adverts number (Subscribe f) xs ys = refl
  refused-on adverts number (Unsubscribe f) xs ys = refl
  refused-on adverts number (Advertise a) xs ys = refl
  refused-on adverts number (Unadvertise a) xs ys = refl
  refused-on adverts number (Publish n) xs ys = go (accepts th net adverts n)
    where
      go : (b : Bool) → cond b (xs ++ ys) (suc number ∷ (xs ++ ys)) ≡ cond b xs (suc number ∷ xs) ++ ys
      go true = refl
      go false = refl

  counted : (b : Bool) (number more : ℕ) → cond b (suc number) number + more ≡ number + cond b (suc more) more
  counted true number more = omega arith
  counted false number more = refl

  refused-more : (adverts : List th.Advert) (number : ℕ) (xs : List (PhasedCommand th)) (x : PhasedCommand th)
      → refused_from th net adverts number (xs ++ x ∷ []) ≡ refused_from th net adverts number xs ++ add_refused th net (adverts_after th adverts xs) (number + ordinal th xs) x.command []
  refused-more adverts number [] x = ap (λ k. add_refused th net adverts k x.command []) (none-more number)
    where
      none-more : (number : ℕ) → number ≡ number + 0
      none-more number = omega arith
  refused-more adverts number (y ∷ ys) x =
      let later = adverts_step th adverts y.command in
      let next = cond (is_publish th y.command) (suc number) number in
      let more : ℕ → List ℕ = λ k. add_refused th net (adverts_after th later ys) k x.command [] in
      ap (add_refused th net adverts number y.command) (refused-more later next ys x) ∙
      refused-on adverts number y.command (refused_from th net later next ys) (more (next + ordinal th ys)) ∙
      ap (λ k. add_refused th net adverts number y.command (refused_from th net later next ys) ++ more k) (counted (is_publish th y.command) number (ordinal th ys))

  same-refused : (one other : List th.Advert) → ((n : th.Notice) → accepts th net one n ≡ accepts th net other n) → (number : ℕ) (c : Command th) → add_refused th net one number c [] ≡ add_refused th net other number c []
  same-refused one other same number (Subscribe f) = refl
  same-refused one other same number (Unsubscribe f) = refl
  same-refused one other same number (Advertise a) = refl
  same-refused one other same number (Unadvertise a) = refl
  same-refused one other same number (Publish n) = ap (λ b. cond b [] (suc number ∷ [])) (same n)

  pub refused-one-more : TheoryLaws th → (xs : List (PhasedCommand th)) (x : PhasedCommand th) → refused_from th net [] 0 (xs ++ x ∷ []) ≡ refused_from th net [] 0 xs ++ refused_next th net xs x.command
  refused-one-more laws xs x =
      refused-more [] 0 xs x ∙
      ap (λ ys. refused_from th net [] 0 xs ++ ys) (same-refused (adverts_after th [] xs) (own_adverts th [] xs) (λ n. sym (accepts-same th laws net xs n)) (0 + ordinal th xs) x.command ∙ ap (λ k. add_refused th net (own_adverts th [] xs) k x.command []) (zero-plus (ordinal th xs)))
    where
      zero-plus : (k : ℕ) → 0 + k ≡ k
      zero-plus k = omega arith
