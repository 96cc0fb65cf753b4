-- Turns tried one list after the other, and rounds of turns that are no commands.
use Rattle.std.proofs.Common.{◌≡◌, ℕ, zero, suc, List, [], ◌∷◌, ◌++◌, inl, inr, slice_get, Option, Some, None, refl, sym, ap, ◌∙◌}
use Rattle.law_machine.specs.Machine.{Machine, Has, Does, Receives, Outcome, Act, Did, Received, Stamped, Entry, unstamped, act_phase}
use Rattle.law_machine.specs.Network.{NetworkState, reception_of, after_outcome, after_input, turn, entry_given, entry_from, entry_at}
use Rattle.law_machine.specs.History.{Moment, as_found, acted, network_step}
use Rattle.law_machine.specs.Walk.{Turn, entry_of_phase, entry_in, with_default, entries_by, moment_by, repeated, round_of, rounds}
use Rattle.law_machine.proofs.Tried.{entry-step}

module _ (m : Machine) where
  pub entries-append : (k : ℕ) (xs ys : List (Turn m)) (s : Moment m) → entries_by m k s (xs ++ ys) ≡ entries_by m k s xs ++ entries_by m k (moment_by m k s xs) ys
  entries-append k [] ys s = refl
  entries-append k (x ∷ xs) ys s = go (entry_in m k s x) (λ z. entries-append k xs ys z)
    where
      go : (o : Option (Entry m)) → ((z : Moment m) → entries_by m k z (xs ++ ys) ≡ entries_by m k z xs ++ entries_by m k (moment_by m k z xs) ys)
          → with_default o (λ e. e ∷ entries_by m k (network_step m s e) (xs ++ ys)) (entries_by m k s (xs ++ ys)) ≡ with_default o (λ e. e ∷ entries_by m k (network_step m s e) xs) (entries_by m k s xs) ++ entries_by m k (with_default o (λ e. moment_by m k (network_step m s e) xs) (moment_by m k s xs)) ys
      go None ih = ih s
      go (Some e) ih = ap (λ z. e ∷ z) (ih (network_step m s e))

  pub moment-append : (k : ℕ) (xs ys : List (Turn m)) (s : Moment m) → moment_by m k s (xs ++ ys) ≡ moment_by m k (moment_by m k s xs) ys
  moment-append k [] ys s = refl
  moment-append k (x ∷ xs) ys s = go (entry_in m k s x) (λ z. moment-append k xs ys z)
    where
      go : (o : Option (Entry m)) → ((z : Moment m) → moment_by m k z (xs ++ ys) ≡ moment_by m k (moment_by m k z xs) ys)
          → with_default o (λ e. moment_by m k (network_step m s e) (xs ++ ys)) (moment_by m k s (xs ++ ys)) ≡ moment_by m k (with_default o (λ e. moment_by m k (network_step m s e) xs) (moment_by m k s xs)) ys
      go None ih = ih s
      go (Some e) ih = ih (network_step m s e)

  -- where an act has no entry it changes nothing
  pub entry-none : (w : NetworkState m) (t : ℕ) (a : Act m.Task) → entry_at m w t a ≡ None → turn m w t a ≡ w
  entry-none w t (Did a) f = go (m.step t (w.state t) (Does a)) f
    where
      go : (o : Option (Outcome m.State m.Message)) → entry_given m w t (Does a) o ≡ None → after_outcome m w t (Does a) o ≡ w
      go None f = refl
      go (Some r) f = absurd cc
  entry-none w t (Received u) f = by (slice_get (w.put u t) (w.taken u t)) f
    where
      go : (s : Stamped m.Message) (o : Option (Outcome m.State m.Message)) → entry_given m w t (Receives u s) o ≡ None → after_outcome m w t (Receives u s) o ≡ w
      go s None f = refl
      go s (Some r) f = absurd cc

      by : (o : Option (Stamped m.Message)) → entry_from m w t (reception_of m u o) ≡ None → after_input m w t (reception_of m u o) ≡ w
      by None f = refl
      by (Some s) f = go s (m.step t (w.state t) (unstamped m (Receives u s))) f

  abbrev pub IsPhaseless : List (Turn m) → Type 0
  IsPhaseless turns = (x : Turn m) → Has x turns → (s : m.State) → act_phase m x.0 s x.1 ≡ None

  abbrev turned : Moment m → Turn m → Moment m
  turned s x = record { network = turn m s.network x.0 x.1; phase = s.phase }

  -- a turn that is no command is a step of the network, or nothing
  phaseless-one : (k : ℕ) (s : Moment m) (x : Turn m) → act_phase m x.0 (s.network.state x.0) x.1 ≡ None → (rest : Moment m → Moment m) → with_default (entry_in m k s x) (λ e. rest (network_step m s e)) (rest s) ≡ rest (turned s x)
  phaseless-one k s x f rest = ap (λ o. with_default (entry_of_phase m k s x.0 x.1 o) (λ e. rest (network_step m s e)) (rest s)) f ∙ go (entry_at m s.network x.0 x.1) refl
    where
      go : (o : Option (Entry m)) → entry_at m s.network x.0 x.1 ≡ o → with_default o (λ e. rest (network_step m s e)) (rest s) ≡ rest (turned s x)
      go None g = ap rest (λ i. record { network = sym (entry-none s.network x.0 x.1 g) i; phase = s.phase })
      go (Some e) g =
          let y = entry-step m s.network x.0 x.1 e g in
          ap rest (ap (λ z. acted m (as_found m s z) e) (ap (λ z. act_phase m z (s.network.state z) e.act) y.server ∙ (ap (act_phase m x.0 (s.network.state x.0)) y.act ∙ f))
          ∙ (λ i. record { network = (ap (λ z. turn m s.network z e.act) y.server ∙ ap (turn m s.network x.0) y.act) i; phase = s.phase }))

  pub phaseless-round : (k : ℕ) (turns : List (Turn m)) (s : Moment m) → IsPhaseless turns → moment_by m k s turns ≡ record { network = round_of m s.network turns; phase = s.phase }
  phaseless-round k [] s f = refl
  phaseless-round k (x ∷ turns) s f = phaseless-one k s x (f x (inl refl) (s.network.state x.0)) (λ z. moment_by m k z turns) ∙ phaseless-round k turns (turned s x) (λ y h. f y (inr h))

  pub phaseless-rounds : (k n : ℕ) (turns : List (Turn m)) (s : Moment m) → IsPhaseless turns → moment_by m k s (repeated m n turns) ≡ record { network = rounds m n turns s.network; phase = s.phase }
  phaseless-rounds k zero turns s f = refl
  phaseless-rounds k (suc n) turns s f =
      moment-append k turns (repeated m n turns) s ∙ (ap (λ z. moment_by m k z (repeated m n turns)) (phaseless-round k turns s f) ∙ phaseless-rounds k n turns (record { network = round_of m s.network turns; phase = s.phase }) f)
