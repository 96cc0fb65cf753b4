-- Lemmas on the phases and the ordinals of a script.
use Rattle.std.proofs.Common.{◌≡◌, ℕ, zero, suc, ◌≤◌, ◌<◌, nat_lt, Bool, true, false, cond, List, [], ◌∷◌, ◌⊎◌, inl, inr, take, slice_get, Option, Some, None, refl, sym, ap, subst, arith, leb-true}
use Rattle.std.proofs.lemmas.Option.{same_Some}
use Rattle.law_machine.specs.Machine.{Has}
use Rattle.law_routing.specs.Theory.{Theory}
use Rattle.law_routing.specs.Net.{Net, PhasedCommand, NeverFalls}
use Rattle.law_routing.specs.Clients.{is_publish, ordinal, commands_below}
use Rattle.law_routing.specs.Routing.{not_below}
use Rattle.std.proofs.lemmas.Bool.{cases_lt}
use Rattle.base.proofs.Sets.{get-has}
use Rattle.base.proofs.Numbers.{lt-nat_lt}

low : (a k : ℕ) → k ≤ a → nat_lt a k ≡ false
low a k l = grind (arith, l)

module _ (th : Theory) where
  -- where all phases are k or later no command is of a phase below
  none-below : (k : ℕ) (cs : List (PhasedCommand th)) → ((d : PhasedCommand th) → Has d cs → k ≤ d.phase) → commands_below th k cs ≡ 0
  none-below k [] f = refl
  none-below k (c ∷ cs) f = rw (low c.phase k (f c (inl refl))) (none-below k cs (λ d h. f d (inr h)))

  -- a script that is through with the phases below k
  pub through-count : (k : ℕ) (cs : List (PhasedCommand th)) (j : ℕ) → NeverFalls th cs → ((x : PhasedCommand th) → slice_get cs j ≡ Some x → k ≤ x.phase) → commands_below th k cs ≤ j
  through-count k [] j n f = omega arith
  through-count k (c ∷ cs) zero n f = omega (arith, none-below k (c ∷ cs) all)
    where
      all : (d : PhasedCommand th) → Has d (c ∷ cs) → k ≤ d.phase
      all d (inl e) = omega (arith, ap (λ (z : PhasedCommand th). z.phase) e, f c refl)
      all d (inr h) = omega (arith, n.0 d h, f c refl)
  through-count k (c ∷ cs) (suc j) n f = go (nat_lt c.phase k) (through-count k cs j n.1 f)
    where
      go : (b : Bool) → commands_below th k cs ≤ j → cond b (suc (commands_below th k cs)) (commands_below th k cs) ≤ suc j
      go true l = omega (arith, l)
      go false l = omega (arith, l)

  -- the commands up to one of phase k or lower
  pub upto-count : (k : ℕ) (cs : List (PhasedCommand th)) (j : ℕ) (x : PhasedCommand th) → NeverFalls th cs → slice_get cs j ≡ Some x → x.phase ≤ k → suc j ≤ commands_below th (suc k) cs
  upto-count k [] j x n e l = absurd cc
  upto-count k (c ∷ cs) zero x n e l = rw (lt-nat_lt c.phase (suc k) (omega (arith, l, ap (λ (z : PhasedCommand th). z.phase) (same_Some _ _ e)))) (omega arith)
  upto-count k (c ∷ cs) (suc j) x n e l = rw (lt-nat_lt c.phase (suc k) (omega (arith, n.0 x (get-has cs j x e), l))) (omega (arith, upto-count k cs j x n.1 e l))

  pub below-rises : (k l : ℕ) (cs : List (PhasedCommand th)) → k ≤ l → commands_below th k cs ≤ commands_below th l cs
  below-rises k l [] le = omega arith
  below-rises k l (c ∷ cs) le = go (cases_lt c.phase k) (cases_lt c.phase l) (below-rises k l cs le)
    where
      go : (c.phase < k) ⊎ (k ≤ c.phase) → (c.phase < l) ⊎ (l ≤ c.phase) → commands_below th k cs ≤ commands_below th l cs → commands_below th k (c ∷ cs) ≤ commands_below th l (c ∷ cs)
      go (inl a) (inl b) ih = rw (lt-nat_lt c.phase k a, lt-nat_lt c.phase l b) (omega (arith, ih))
      go (inl a) (inr b) ih = absurd (omega (arith, a, b, le))
      go (inr a) (inl b) ih = rw (low c.phase k a, lt-nat_lt c.phase l b) (omega (arith, ih))
      go (inr a) (inr b) ih = rw (low c.phase k a, low c.phase l b) ih

  pub zero-below : (cs : List (PhasedCommand th)) → commands_below th 0 cs ≡ 0
  zero-below [] = refl
  zero-below (c ∷ cs) = rw (low c.phase 0 (omega arith)) (zero-below cs)

  -- ordinals rise
  pub take-rises : (cs : List (PhasedCommand th)) (j k : ℕ) → j ≤ k → ordinal th (take j cs) ≤ ordinal th (take k cs)
  take-rises [] j k l = flat j k
    where
      flat : (j k : ℕ) → ordinal th (take j []) ≤ ordinal th (take k [])
      flat zero zero = omega arith
      flat zero (suc k) = omega arith
      flat (suc j) zero = omega arith
      flat (suc j) (suc k) = omega arith
  take-rises (c ∷ cs) zero k l = omega arith
  take-rises (c ∷ cs) (suc j) zero l = absurd (omega (arith, l))
  take-rises (c ∷ cs) (suc j) (suc k) l = go (is_publish th c.command) (take-rises cs j k (omega (arith, l)))
    where
      go : (b : Bool) → ordinal th (take j cs) ≤ ordinal th (take k cs) → cond b (suc (ordinal th (take j cs))) (ordinal th (take j cs)) ≤ cond b (suc (ordinal th (take k cs))) (ordinal th (take k cs))
      go true h = omega (arith, h)
      go false h = h

  pub more-ordinals : (cs : List (PhasedCommand th)) (j : ℕ) (c : PhasedCommand th) → slice_get cs j ≡ Some c → is_publish th c.command ≡ true → ordinal th (take j cs) < ordinal th (take (suc j) cs)
  more-ordinals [] j c e p = absurd cc
  more-ordinals (x ∷ cs) zero c e p = rw (subst (λ z. is_publish th z.command ≡ true) (sym (same_Some _ _ e)) p) (omega arith)
  more-ordinals (x ∷ cs) (suc j) c e p = go (is_publish th x.command) (more-ordinals cs j c e p)
    where
      go : (b : Bool) → ordinal th (take j cs) < ordinal th (take (suc j) cs) → cond b (suc (ordinal th (take j cs))) (ordinal th (take j cs)) < cond b (suc (ordinal th (take (suc j) cs))) (ordinal th (take (suc j) cs))
      go true l = omega (arith, l)
      go false l = l

  -- an ordinal belongs to one publish
  pub one-index : (cs : List (PhasedCommand th)) (i j : ℕ) (x y : PhasedCommand th) → slice_get cs i ≡ Some x → slice_get cs j ≡ Some y → is_publish th x.command ≡ true → is_publish th y.command ≡ true → ordinal th (take (suc i) cs) ≡ ordinal th (take (suc j) cs) → i ≡ j
  one-index cs i j x y e f p q o = go (cases_lt i j) (cases_lt j i)
    where
      go : (i < j) ⊎ (j ≤ i) → (j < i) ⊎ (i ≤ j) → i ≡ j
      go (inl a) s = absurd (omega (arith, o, take-rises cs (suc i) j (omega (arith, a)), more-ordinals cs j y f q))
      go (inr a) (inl b) = absurd (omega (arith, o, take-rises cs (suc j) i (omega (arith, b)), more-ordinals cs i x e p))
      go (inr a) (inr b) = omega (arith, a, b)

  pub through-one : (net : Net th) (k : ℕ) (m : Option (PhasedCommand th)) (x : PhasedCommand th) → not_below th net k m ≡ true → m ≡ Some x → k ≤ x.phase
  through-one net k None x e f = absurd cc
  through-one net k (Some y) x e f = subst (λ (z : PhasedCommand th). k ≤ z.phase) (same_Some _ _ f) (leb-true k y.phase e)
