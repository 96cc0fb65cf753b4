-- A step is a turn, and a part of a run ends at its last moment.
use Rattle.std.proofs.Common.{◌≡◌, Some, ap, ◌∙◌}
use Rattle.law_machine.specs.Machine.{Machine, Input, Does, Receives, Stamped, Entry, unstamped, act_of}
use Rattle.law_machine.specs.Network.{NetworkState, IsAvailable, network_after, IsStep, reception_of, after_outcome, after_input, turn}

module _ (m : Machine) where
  pub step-turn : (w : NetworkState m) (e : Entry m) (v : NetworkState m) → IsStep m w e v → turn m w e.server e.act ≡ v
  step-turn w e v (d, r, made, entry_of, given, after) = ap (turn m w e.server) (ap (λ (z : Entry m). z.act) entry_of) ∙ go d given made ∙ after
    where
      go : (d : Input m.Task (Stamped m.Message)) → IsAvailable m w e.server d → m.step e.server (w.state e.server) (unstamped m d) ≡ Some r → turn m w e.server (act_of m d) ≡ network_after m w e.server d r
      go (Does a) given made = ap (after_outcome m w e.server (Does a)) made
      go (Receives u s) given made = ap (λ z. after_input m w e.server (reception_of m u z)) given ∙ ap (after_outcome m w e.server (Receives u s)) made
