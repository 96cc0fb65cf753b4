-- A least machine: a server adds up the numbers that it gets, and sends each to its neighbours.
use Rattle.std.specs.Prelude.{true, false, ℕ, ◌+◌, ◌==◌, cond, [], ◌∷◌, Option, Some, None}
use Rattle.law_machine.specs.Machine.{Machine, Input, Does, Receives, Outcome}

-- its step
abbrev pub counting_step : ℕ → ℕ → Input ℕ ℕ → Option (Outcome ℕ ℕ)
counting_step server sum (Does amount) = Some (record { state = sum + amount; outs = λ link. amount ∷ [] })
counting_step server sum (Receives from amount) = Some (record { state = sum + amount; outs = λ link. cond (link == from) [] (amount ∷ []) })

-- the machine
abbrev pub counting : Machine
counting = record {
  State = ℕ;
  Task = ℕ;
  Message = ℕ;
  servers = [];
  links = λ t. [];
  step = counting_step;
  phase = λ t s a. None;
  through = λ t s k. true;
  pending = λ t s. false;
}
