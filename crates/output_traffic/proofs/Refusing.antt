-- A script's publishes against the ordinals of those that are refused.
use Rattle.std.proofs.Common.{◌≡◌, ℕ, zero, suc, ◌+◌, ◌<◌, Bool, true, false, cond, List, [], ◌∷◌, ◌++◌, inl, inr, drop, append_assoc, refl, sym, ap, subst, ◌∙◌, arith, eqb-true}
use Rattle.base.specs.Sets.{Has}
use Rattle.law_routing.specs.Theory.{Theory}
use Rattle.law_routing.specs.Net.{Net, Command, Subscribe, Unsubscribe, Advertise, Unadvertise, Publish, PhasedCommand}
use Rattle.law_routing.specs.Clients.{accepts, adverts_step, is_publish, refused_from, add_refused}
use Rattle.output_traffic.specs.Flood.{is_accepted}
use Rattle.output_traffic.specs.Going.{is_first}

drop-tail : (xs : List ℕ) (j x : ℕ) (ys : List ℕ) → x ∷ ys ≡ drop j xs → ys ≡ drop (j + 1) xs
drop-tail [] zero x ys e = absurd cc
drop-tail [] (suc j) x ys e = absurd cc
drop-tail (z ∷ xs) zero x ys e = cc
drop-tail (z ∷ xs) (suc j) x ys e = drop-tail xs j x ys e ∙ ap (λ k. drop k (z ∷ xs)) (more j)
  where
    more : (j : ℕ) → suc (j + 1) ≡ suc j + 1
    more j = omega arith

first-has : (xs : List ℕ) (x : ℕ) → is_first xs x ≡ true → Has x xs
first-has [] x e = absurd cc
first-has (y ∷ xs) x e = inl (sym (eqb-true y x e))

module _ (th : Theory) (net : Net th) where
  -- what is refused later has a greater ordinal
  refused-later : (adverts : List th.Advert) (before : ℕ) (commands : List (PhasedCommand th)) (x : ℕ) → Has x (refused_from th net adverts before commands) → before < x
  refused-later adverts before [] x h = absurd h
  refused-later adverts before (c ∷ commands) x h = go c.command (refused-later (adverts_step th adverts c.command) (cond (is_publish th c.command) (suc before) before) commands x) h
    where
      under : (k : Command th) → cond (is_publish th k) (suc before) before < x → before < x
      under (Subscribe f) l = l
      under (Unsubscribe f) l = l
      under (Advertise a) l = l
      under (Unadvertise a) l = l
      under (Publish n) l = omega (arith, l)

      one : (b : Bool) (R : List ℕ) → (Has x R → suc before < x) → Has x (cond b R (suc before ∷ R)) → before < x
      one true R ih h = omega (arith, ih h)
      one false R ih (inl e) = omega (arith, e)
      one false R ih (inr h) = omega (arith, ih h)

      go : (k : Command th) → (Has x (refused_from th net (adverts_step th adverts k) (cond (is_publish th k) (suc before) before) commands) → cond (is_publish th k) (suc before) before < x)
          → Has x (add_refused th net adverts before k (refused_from th net (adverts_step th adverts k) (cond (is_publish th k) (suc before) before) commands)) → before < x
      go (Subscribe f) ih h = ih h
      go (Unsubscribe f) ih h = ih h
      go (Advertise a) ih h = ih h
      go (Unadvertise a) ih h = ih h
      go (Publish n) ih h = one (accepts th net adverts n) (refused_from th net adverts (suc before) commands) ih h

  abbrev Rest : List th.Advert → ℕ → Command th → List (PhasedCommand th) → List ℕ → Type 0
  Rest adverts before c later left = refused_from th net (adverts_step th adverts c) before later ≡ left

  -- a publish whose ordinal is the next of those that are refused
  pub refused-here : (adverts : List th.Advert) (before phase j : ℕ) (refused : List ℕ) (c : Command th) (later : List (PhasedCommand th)) → is_publish th c ≡ true
      → is_first (drop j refused) (before + 1) ≡ true → refused_from th net adverts before (record { phase = phase; command = c } ∷ later) ≡ drop j refused
      → (false ≡ is_accepted th net adverts c) × Rest adverts (before + 1) c later (drop (j + 1) refused)
  refused-here adverts before phase j refused (Subscribe f) later p first e = absurd cc
  refused-here adverts before phase j refused (Unsubscribe f) later p first e = absurd cc
  refused-here adverts before phase j refused (Advertise a) later p first e = absurd cc
  refused-here adverts before phase j refused (Unadvertise a) later p first e = absurd cc
  refused-here adverts before phase j refused (Publish n) later p first e = go (accepts th net adverts n) e
    where
      next : suc before ≡ before + 1
      next = omega arith

      R : List ℕ
      R = refused_from th net adverts (suc before) later

      go : (b : Bool) → cond b (refused_from th net adverts (suc before) later) (suc before ∷ refused_from th net adverts (suc before) later) ≡ drop j refused → (false ≡ b) × (refused_from th net adverts (before + 1) later ≡ drop (j + 1) refused)
      go true f =
          let has = first-has (refused_from th net adverts (suc before) later) (before + 1) (subst (λ z. is_first z (before + 1) ≡ true) (sym f) first) in
          absurd (omega (arith, refused-later adverts (suc before) later (before + 1) has))
      go false f = (refl, ap (λ z. refused_from th net adverts z later) (sym next) ∙ drop-tail refused j (suc before) (refused_from th net adverts (suc before) later) f)

-- the phase of a publish more, where it is accepted
pub phase-next : (accepted : Bool) (phases next later : List ℕ) (phase : ℕ) → next ≡ cond accepted (phases ++ phase ∷ []) phases
    → next ++ later ≡ phases ++ cond accepted (phase ∷ later) later
phase-next true phases next later phase e = ap (λ z. z ++ later) e ∙ append_assoc phases (phase ∷ []) later
phase-next false phases next later phase e = ap (λ z. z ++ later) e
