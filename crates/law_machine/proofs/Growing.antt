-- A run grows by a step that the phase rule lets.
use Rattle.std.proofs.Common.{◌≡◌, ℕ, zero, suc, ◌≤◌, arith, length, List, [], ◌∷◌, ◌++◌, slice_get, Option, Some, None, refl, sym, subst}
use Rattle.std.proofs.lemmas.Option.{same_Some}
use Rattle.law_machine.specs.Machine.{Machine, Input, Outcome, Act, Did, Received, Stamped, Entry, unstamped, entry_of, act_phase}
use Rattle.law_machine.specs.Network.{NetworkState, IsAvailable, network_after, IsStep, reception_of, input_of}
use Rattle.law_machine.specs.Runs.{IsReady, IsRun}
use Rattle.law_machine.specs.History.{Moment, network_step, moment_after}

module _ (m : Machine) where
  pub run-more : (w : NetworkState m) (p : ℕ) (es : List (Entry m)) (v : NetworkState m) (q : ℕ) (e : Entry m) (x y : NetworkState m) (r : ℕ) → IsRun m w p es v q → IsReady m v q (act_phase m e.server (v.state e.server) e.act) x r → IsStep m x e y → IsRun m w p (es ++ e ∷ []) y r
  run-more w p [] v q e x y r (a, b) ready step = subst (λ z. IsRun m z p (e ∷ []) y r) (sym a) (subst (λ z. IsRun m v z (e ∷ []) y r) (sym b) (x, y, r, ready, step, (refl, refl)))
  run-more w p (f ∷ es) v q e x y r (x', v', s, ready', step', rest) ready step = (x', v', s, ready', step', run-more v' s es v q e x y r rest ready step)

  deed-given : (w : NetworkState m) (t : ℕ) (a : Act m.Task) (d : Input m.Task (Stamped m.Message)) → input_of m w t a ≡ Some d → IsAvailable m w t d
  deed-given w t (Did a) d e = subst (IsAvailable m w t) (same_Some _ _ e) tt
  deed-given w t (Received u) d e = go (slice_get (w.put u t) (w.taken u t)) refl e
    where
      go : (o : Option (Stamped m.Message)) → slice_get (w.put u t) (w.taken u t) ≡ o → reception_of m u o ≡ Some d → IsAvailable m w t d
      go None g f = absurd cc
      go (Some x) g f = subst (IsAvailable m w t) (same_Some _ _ f) g

  -- an act that is possible makes a step
  pub act-step : (w : NetworkState m) (t : ℕ) (a : Act m.Task) (d : Input m.Task (Stamped m.Message)) (r : Outcome m.State m.Message) → input_of m w t a ≡ Some d → m.step t (w.state t) (unstamped m d) ≡ Some r → IsStep m w (entry_of m t (w.clock t) d r) (network_after m w t d r)
  act-step w t a d r e f = (d, r, f, refl, deed-given w t a d e, refl)

  -- the moments of a journal stay when it grows
  pub standing-left : (s : Moment m) (es fs : List (Entry m)) (n : ℕ) → n ≤ length es → moment_after m s (es ++ fs) n ≡ moment_after m s es n
  standing-left s [] fs zero l = refl
  standing-left s [] fs (suc n) l = absurd (omega (arith, l))
  standing-left s (e ∷ es) fs zero l = refl
  standing-left s (e ∷ es) fs (suc n) l = standing-left (network_step m s e) es fs n (omega (arith, l))
