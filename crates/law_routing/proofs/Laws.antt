-- Proves that the machine of routing keeps the laws of machines.
use Rattle.std.proofs.Common.{◌≡◌, ℕ, Bool, true, false, cond, ◌&&◌, List, [], ◌∷◌, inl, inr, slice_get, Option, Some, None, refl}
use Rattle.law_machine.specs.Machine.{Has, Input, Does, Receives, Outcome}
use Rattle.law_machine.specs.Runs.{MachineLaws}
use Rattle.law_machine.proofs.Lists.{Is, Not, compare}
use Rattle.law_routing.specs.Theory.{Theory}
use Rattle.law_routing.specs.Net.{Net, PhasedCommand}
use Rattle.law_routing.specs.Server.{Message, ServerState, is_among}
use Rattle.law_routing.specs.Step.{Task, NextCommand, TableUpdate, command_outcome, effect, message_work, local_step}
use Rattle.law_routing.specs.Routing.{phase_of, task_phase, routing_machine}

pub one-has : (x : ℕ) (xs : List ℕ) → is_among x xs ≡ true → Has x xs
one-has x [] e = absurd cc
one-has x (y ∷ ys) e = elim (compare x y) [ Is q t ↦ inl q | Not n t ↦ inr (one-has x ys (rw t at e)) ]

pub cond-some : {X : Type 0} (b c : Bool) (o : Option X) (x : X) → cond (b && c) o None ≡ Some x → (b ≡ true) × (c ≡ true) × (o ≡ Some x)
cond-some true true o x e = (refl, refl, e)
cond-some true false o x e = absurd cc
cond-some false c o x e = absurd cc

module _ (th : Theory) (net : Net th) where
  among : (t : ℕ) (s : ServerState th) (d : Input Task (Message th)) (r : Outcome (ServerState th) (Message th)) → local_step th net t s d ≡ Some r → Has t net.servers
  among t s (Does (NextCommand c)) r e = one-has t net.servers (cond-some (is_among t net.servers) (is_among c (net.clients t)) (command_outcome th net t s c (slice_get (net.script c) (s.done c))) r e).0
  among t s (Does TableUpdate) r e = one-has t net.servers (cond-some (is_among t net.servers) s.pending (Some (effect th net t s Rattle.law_routing.specs.Step.InstallsTable)) r e).0
  among t s (Receives u x) r e = one-has t net.servers (cond-some (is_among t net.servers) (is_among u (net.links t)) (Some (effect th net t s (message_work th net s u x))) r e).0

  table_update : (t : ℕ) (s : ServerState th) (a : Task) (r : Outcome (ServerState th) (Message th)) → local_step th net t s (Does a) ≡ Some r → task_phase th net t s a ≡ None → s.pending ≡ true
  table_update t s (NextCommand c) r e f = absurd (go (slice_get (net.script c) (s.done c)) f)
    where
      go : (o : Option (PhasedCommand th)) → phase_of th net o ≡ None → ⊥
      go None f = cc
      go (Some x) f = cc
  table_update t s TableUpdate r e f = (cond-some (is_among t net.servers) s.pending (Some (effect th net t s Rattle.law_routing.specs.Step.InstallsTable)) r e).1

  pub machine-laws : MachineLaws (routing_machine th net)
  machine-laws = record { among = among; table_update = table_update }
