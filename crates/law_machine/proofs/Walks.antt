-- Rounds of receptions and table updates come to an end at which none is possible.
use Rattle.std.proofs.Common.{◌≡◌, ℕ, zero, suc, ◌+◌, ◌*◌, ◌≤◌, ◌<◌, List, [], ◌∷◌, ◌⊎◌, inl, inr, length, slice_get, Option, Some, None, refl, sym, ap, subst, ◌∙◌, arith}
use Rattle.law_machine.specs.Machine.{Machine, Input, Does, Receives, Outcome, Act, Did, Received, Stamped, unstamped, act_of}
use Rattle.law_machine.specs.Network.{NetworkState, IsAvailable, network_after, reception_of, input_of, after_outcome, after_input, turn, outcome_of, outcome_at}
use Rattle.law_machine.specs.Runs.{IsWithinPuts}
use Rattle.law_machine.specs.Load.{Measure, MeasureLaws, load, pending_count, is_reception, is_update, is_command}
use Rattle.base.specs.Numbers.{count}
use Rattle.law_machine.specs.Walk.{round_of, rounds, IsIdle, IsQuietAct, IsPlan, work_left}
use Rattle.law_machine.proofs.Runs.{within-after, weighs, staging}

module _ (m : Machine) (k : Measure m) (laws : MeasureLaws m k) where
  -- a possible act makes a step
  record Acts (w : NetworkState m) (t : ℕ) (a : Act m.Task) (r : Outcome m.State m.Message) : Type 0 where
    deed : Input m.Task (Stamped m.Message)
    act : act_of m deed ≡ a
    given : IsAvailable m w t deed
    made : m.step t (w.state t) (unstamped m deed) ≡ Some r
    after : turn m w t a ≡ network_after m w t deed r

  acts : (w : NetworkState m) (t : ℕ) (a : Act m.Task) (r : Outcome m.State m.Message) → outcome_at m w t a ≡ Some r → Acts w t a r
  acts w t (Did a) r e = record { deed = Does a; act = refl; given = tt; made = e; after = ap (after_outcome m w t (Does a)) e }
  acts w t (Received u) r e = go (slice_get (w.put u t) (w.taken u t)) refl e
    where
      go : (o : Option (Stamped m.Message)) → slice_get (w.put u t) (w.taken u t) ≡ o → outcome_of m w t (reception_of m u o) ≡ Some r → Acts w t (Received u) r
      go None g f = absurd cc
      go (Some x) g f = record { deed = Receives u x; act = refl; given = g; made = f; after = ap (λ z. after_input m w t (reception_of m u z)) g ∙ ap (after_outcome m w t (Receives u x)) f }

  idle : (w : NetworkState m) (t : ℕ) (a : Act m.Task) → outcome_at m w t a ≡ None → turn m w t a ≡ w
  idle w t a e = go (input_of m w t a) e
    where
      go : (d : Option (Input m.Task (Stamped m.Message))) → outcome_of m w t d ≡ None → after_input m w t d ≡ w
      go None f = refl
      go (Some d) f = ap (after_outcome m w t d) f

  within-turn : (w : NetworkState m) (t : ℕ) (a : Act m.Task) → IsWithinPuts m w → IsWithinPuts m (turn m w t a)
  within-turn w t a within = go (outcome_at m w t a) refl
    where
      go : (o : Option (Outcome m.State m.Message)) → outcome_at m w t a ≡ o → IsWithinPuts m (turn m w t a)
      go None e = subst (IsWithinPuts m) (sym (idle w t a e)) within
      go (Some r) e = let x = acts w t a r e in subst (IsWithinPuts m) (sym x.after) (within-after m k laws w t x.deed r within x.given)

  -- each possible act of a plan makes less work left
  falls : (w : NetworkState m) (t : ℕ) (a : Act m.Task) (r : Outcome m.State m.Message) → IsWithinPuts m w → IsQuietAct m k a → outcome_at m w t a ≡ Some r → work_left m k (turn m w t a) < work_left m k w
  falls w t a r within quiet e =
      let x = acts w t a r e in
      omega (
        arith,
        ap (work_left m k) x.after,
        less (network_after m w t x.deed r) a quiet
            (subst (λ z. count (is_reception m k z) + load m k (network_after m w t x.deed r) ≤ load m k w + count (is_command m k z) * (length m.servers * length m.servers)) x.act (weighs m k laws w t x.deed r within x.made x.given))
            (subst (λ z. count (is_update m k z) + pending_count m k (network_after m w t x.deed r) ≤ pending_count m k w + (count (is_reception m k z) + count (is_command m k z))) x.act (staging m k laws w t x.deed r x.made)),
      )
    where
      less : (v : NetworkState m) (a : Act m.Task) → IsQuietAct m k a → count (is_reception m k a) + load m k v ≤ load m k w + count (is_command m k a) * (length m.servers * length m.servers)
          → count (is_update m k a) + pending_count m k v ≤ pending_count m k w + (count (is_reception m k a) + count (is_command m k a)) → work_left m k v < work_left m k w
      less v (Received u) q f g = omega (arith, f, g)
      less v (Did b) q f g = omega (arith, rw q at f, rw q at g)

  -- a round makes less work left, or nothing in it was possible
  round : (w : NetworkState m) (plan : List (ℕ × Act m.Task)) → IsWithinPuts m w → IsPlan m k plan → ((round_of m w plan ≡ w) × IsIdle m w plan) ⊎ (work_left m k (round_of m w plan) < work_left m k w)
  round w [] within is = inl (refl, tt)
  round w (p ∷ plan) within is = go (outcome_at m w p.0 p.1) refl (round (turn m w p.0 p.1) plan (within-turn w p.0 p.1 within) is.1)
    where
      go : (o : Option (Outcome m.State m.Message)) → outcome_at m w p.0 p.1 ≡ o → ((round_of m (turn m w p.0 p.1) plan ≡ turn m w p.0 p.1) × IsIdle m (turn m w p.0 p.1) plan) ⊎ (work_left m k (round_of m (turn m w p.0 p.1) plan) < work_left m k (turn m w p.0 p.1))
          → ((round_of m (turn m w p.0 p.1) plan ≡ w) × ((outcome_at m w p.0 p.1 ≡ None) × IsIdle m w plan)) ⊎ (work_left m k (round_of m (turn m w p.0 p.1) plan) < work_left m k w)
      go None e (inl x) = inl (x.0 ∙ idle w p.0 p.1 e, (e, subst (λ z. IsIdle m z plan) (idle w p.0 p.1 e) x.1))
      go None e (inr x) = inr (omega (arith, x, ap (work_left m k) (idle w p.0 p.1 e)))
      go (Some r) e (inl x) = inr (omega (arith, ap (work_left m k) x.0, falls w p.0 p.1 r within is.0 e))
      go (Some r) e (inr x) = inr (omega (arith, x, falls w p.0 p.1 r within is.0 e))

  within-tried : (w : NetworkState m) (plan : List (ℕ × Act m.Task)) → IsWithinPuts m w → IsWithinPuts m (round_of m w plan)
  within-tried w [] within = within
  within-tried w (p ∷ plan) within = within-tried (turn m w p.0 p.1) plan (within-turn w p.0 p.1 within)

  -- where nothing is possible a round changes nothing
  still : (n : ℕ) (w : NetworkState m) (plan : List (ℕ × Act m.Task)) → round_of m w plan ≡ w → rounds m n plan w ≡ w
  still zero w plan e = refl
  still (suc n) w plan e = ap (rounds m n plan) e ∙ still n w plan e

  -- as many rounds as there is work left, or more, end where nothing is possible
  pub walk-ends : (n : ℕ) (w : NetworkState m) (plan : List (ℕ × Act m.Task)) → IsWithinPuts m w → IsPlan m k plan → work_left m k w < n → IsIdle m (rounds m n plan w) plan
  walk-ends zero w plan within is le = absurd (omega (arith, le))
  walk-ends (suc n) w plan within is le = go (round w plan within is) (walk-ends n (round_of m w plan) plan (within-tried w plan within) is)
    where
      go : ((round_of m w plan ≡ w) × IsIdle m w plan) ⊎ (work_left m k (round_of m w plan) < work_left m k w) → (work_left m k (round_of m w plan) < n → IsIdle m (rounds m n plan (round_of m w plan)) plan) → IsIdle m (rounds m n plan (round_of m w plan)) plan
      go (inl x) ih = subst (λ z. IsIdle m z plan) (sym (ap (rounds m n plan) x.0 ∙ still n w plan x.0)) x.1
      go (inr x) ih = ih (omega (arith, x, le))
