-- What is heard in a load: its message where it is of the run, and else a change of no filters.
use Rattle.std.proofs.Common.{◌≡◌, eqb-true, ℕ, ◌==◌, ◌&&◌, ◌⊎◌, inl, inr, not, cond, nat_lt, Bool, true, false, List, [], ◌∷◌, refl, sym, ap, subst, ◌∙◌, eq-eqb, arith}
use Rattle.base.specs.Sets.{Has, IsRising, all_pass}
use Rattle.base.proofs.Roots.{all_pass-from, all_pass-to}
use Rattle.base.proofs.Numbers.{lt-nat_lt, nat_lt-true}
use Rattle.law_routing.specs.Server.{Subs}
use Rattle.filter_text.specs.declared.semantics.Semantics.{Semantics}
use Rattle.filter_text.specs.declared.semantics.Semantics.TheVariants.{Subscription, Advertisement}
use Rattle.net_model.specs.Nets.{with_adverts}
use Rattle.net_model.specs.Parts.{NetParts}
use Rattle.server_message.specs.Parts.{ChangeParts, IsChange}
use Rattle.server_message.specs.Message.{IsLoad, represented}
use Rattle.server_message.specs.declared.load.Load.{Load}
use Rattle.server_message.specs.declared.load.Load.TheVariants as loads
use Rattle.thread_cell.specs.Heard.{rises, are_below, are_apart, is_change, is_of, heard}

rises-yes : (xs : List ℕ) → IsRising nat_lt xs → rises xs ≡ true
rises-yes [] r = refl
rises-yes (x ∷ xs) r = rw (all_pass-from (nat_lt x) xs r.0) (rises-yes xs r.1)

both : (a b : Bool) → a && b ≡ true → (a ≡ true) × (b ≡ true)
both a b e = (grind arith, grind arith)

rises-only : (xs : List ℕ) → rises xs ≡ true → IsRising nat_lt xs
rises-only [] e = tt
rises-only (x ∷ xs) e = let b = both (all_pass (nat_lt x) xs) (rises xs) e in (all_pass-to (nat_lt x) xs b.0, rises-only xs b.1)

apart-yes : (xs ys : List ℕ) → ((i : ℕ) → Has i xs → Has i ys → ⊥) → are_apart xs ys ≡ true
apart-yes xs ys h = all_pass-from (λ i. all_pass (λ j. not (i == j)) ys) xs (λ i a. all_pass-from (λ j. not (i == j)) ys (λ j b. go i j a b (i == j) refl))
  where
    go : (i j : ℕ) → Has i xs → Has j ys → (b : Bool) → (i == j) ≡ b → not b ≡ true
    go i j a m true e = absurd (h i a (subst (λ k. Has k ys) (sym (eqb-true i j e)) m))
    go i j a m false e = refl

apart-only : (xs ys : List ℕ) → are_apart xs ys ≡ true → (i : ℕ) → Has i xs → Has i ys → ⊥
apart-only xs ys e i a b =
    let f = all_pass-to (λ j. not (i == j)) ys (all_pass-to (λ i. all_pass (λ j. not (i == j)) ys) xs e i a) i b in
    no (sym (ap not (eq-eqb i i refl)) ∙ f)
  where
    no : false ≡ true → ⊥
    no e = cc

change-yes : (bound : ℕ) (change : ChangeParts) → IsChange bound change → is_change bound change ≡ true
change-yes bound change c =
    rw (
      rises-yes change.withdrawn c.withdrawn_rising,
      rises-yes change.added c.added_rising,
      all_pass-from (λ i. nat_lt i bound) change.withdrawn (λ i h. lt-nat_lt i bound (c.withdrawn_known i h)),
      all_pass-from (λ i. nat_lt i bound) change.added (λ i h. lt-nat_lt i bound (c.added_known i h)),
    ) (apart-yes change.withdrawn change.added c.apart)

change-only : (bound : ℕ) (change : ChangeParts) → is_change bound change ≡ true → IsChange bound change
change-only bound change e =
    let a = both (rises change.withdrawn && rises change.added) ((are_below bound change.withdrawn && are_below bound change.added) && are_apart change.withdrawn change.added) e in
    let r = both (rises change.withdrawn) (rises change.added) a.0 in
    let k = both (are_below bound change.withdrawn && are_below bound change.added) (are_apart change.withdrawn change.added) a.1 in
    let b = both (are_below bound change.withdrawn) (are_below bound change.added) k.0 in
    record {
      withdrawn_rising = rises-only change.withdrawn r.0;
      added_rising = rises-only change.added r.1;
      withdrawn_known = λ i h. nat_lt-true i bound (all_pass-to (λ i. nat_lt i bound) change.withdrawn b.0 i h);
      added_known = λ i h. nat_lt-true i bound (all_pass-to (λ i. nat_lt i bound) change.added b.1 i h);
      apart = apart-only change.withdrawn change.added k.1;
    }

adverts-only : (s : Semantics) → with_adverts s ≡ true → s ≡ Advertisement
adverts-only Subscription e = absurd cc
adverts-only Advertisement e = refl

of-yes : (net : NetParts) (load : Load) → IsLoad net load → is_of net load ≡ true
of-yes net (loads.Publication number) h = lt-nat_lt number _ h
of-yes net (loads.Filters change) h = change-yes _ change h
of-yes net (loads.Adverts change) h = rw (ap with_adverts h.0) (change-yes _ change h.1)

of-only : (net : NetParts) (load : Load) → is_of net load ≡ true → IsLoad net load
of-only net (loads.Publication number) e = nat_lt-true number _ e
of-only net (loads.Filters change) e = change-only _ change e
of-only net (loads.Adverts change) e = let b = both (with_adverts net.semantics) _ e in (adverts-only net.semantics b.0, change-only _ change b.1)

-- a load of the run is heard as what it represents
pub heard-of : (net : NetParts) (load : Load) → IsLoad net load → heard net load ≡ represented net load
unfolding heard
heard-of net load h = rw (of-yes net load h) refl

-- another one is heard as a change of no filters
pub heard-other : (net : NetParts) (load : Load) → (IsLoad net load → ⊥) → heard net load ≡ Subs [] []
unfolding heard
heard-other net load not-of = go (is_of net load) refl
  where
    go : (b : Bool) → is_of net load ≡ b → cond b (represented net load) (Subs [] []) ≡ Subs [] []
    go true e = absurd (not-of (of-only net load e))
    go false e = refl

-- one or the other
pub heard-either : (net : NetParts) (load : Load) → (IsLoad net load × (heard net load ≡ represented net load)) ⊎ (heard net load ≡ Subs [] [])
unfolding heard
heard-either net load = go (is_of net load) refl
  where
    go : (b : Bool) → is_of net load ≡ b → (IsLoad net load × (cond b (represented net load) (Subs [] []) ≡ represented net load)) ⊎ (cond b (represented net load) (Subs [] []) ≡ Subs [] [])
    go true e = inl (of-only net load e, refl)
    go false e = inr refl
