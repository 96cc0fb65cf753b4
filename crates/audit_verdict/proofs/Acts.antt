-- Each entry of a legal run is of a server that is there, and of a command of a client that lives there, of a table update, or of a reception from a neighbour.
use Rattle.std.proofs.Common.{◌≡◌, ℕ, ◌&&◌, Bool, true, false, cond, inl, inr, List, [], ◌∷◌, Option, Some, None, refl, sym, ap, subst}
use Rattle.std.specs.Prelude.{slice_get}
use Rattle.base.specs.Sets.{Has}
use Rattle.law_machine.specs.Machine.{Input, Does, Receives, Outcome, Act, Did, Received, Entry, Stamped, unstamped, act_of}
use Rattle.law_routing.proofs.Laws.{one-has}
use Rattle.law_routing.specs.Theory.{Theory}
use Rattle.law_routing.specs.Server.{Message, ServerState, is_among}
use Rattle.law_routing.specs.Step.{Task, NextCommand, TableUpdate, InstallsTable, command_outcome, effect, message_work, local_step}
use Rattle.law_phases.specs.Trees.{JournalEntry, State, PhasedNet, net_at, machine_at, tree_at}
use Rattle.law_phases.specs.Runs.{IsStepOn, IsPhasedRun}

module _ (th : Theory) (net : PhasedNet th) where
  -- what an act is of
  abbrev pub IsActOf : ℕ → Act Task → Type 0
  IsActOf server (Did (NextCommand client)) = Has client (net.clients server)
  IsActOf server (Did TableUpdate) = Unit {0}
  IsActOf server (Received from) = (phase : ℕ) × Has from ((tree_at th net phase).links server)

  pub record IsThere (entry : JournalEntry) : Type 0 where
    pub server : Has entry.server net.servers
    pub act : IsActOf entry.server entry.act

  tested : {A : Type 0} (a b : Bool) (x : Option A) (r : A) → cond (a && b) x None ≡ Some r → (a ≡ true) × (b ≡ true)
  tested true true x r e = (refl, refl)
  tested true false x r e = absurd cc
  tested false b x r e = absurd cc

  input-there : (phase : ℕ) (t : ℕ) (s : ServerState th) (i : Input Task (Stamped (Message th))) (r : Outcome (ServerState th) (Message th))
      → local_step th (net_at th net phase) t s (unstamped (machine_at th net phase) i) ≡ Some r → Has t net.servers × IsActOf t (act_of (machine_at th net phase) i)
  input-there phase t s (Does (NextCommand c)) r e =
      let x = tested (is_among t net.servers) (is_among c (net.clients t)) (command_outcome th (net_at th net phase) t s c (slice_get (net.script c) (s.done c))) r e in
      (one-has t net.servers x.0, one-has c (net.clients t) x.1)
  input-there phase t s (Does TableUpdate) r e =
      let x = tested (is_among t net.servers) s.pending (Some (effect th (net_at th net phase) t s InstallsTable)) r e in
      (one-has t net.servers x.0, tt)
  input-there phase t s (Receives from m) r e =
      let x = tested (is_among t net.servers) (is_among from ((tree_at th net phase).links t)) (Some (effect th (net_at th net phase) t s (message_work th (net_at th net phase) s from m.message))) r e in
      (one-has t net.servers x.0, (phase, one-has from ((tree_at th net phase).links t) x.1))

  step-there : (phase : ℕ) (s : State th) (e : JournalEntry) (v : State th) → IsStepOn th net phase s e v → IsThere e
  step-there phase s e v (i, r, steps, is, given, after) =
      let x = input-there phase e.server (s.state e.server) i r steps in
      record { server = x.0; act = subst (IsActOf e.server) (sym (ap (λ (z : Entry (machine_at th net phase)). z.act) is)) x.1 }

  pub all-there : (s : State th) (p : ℕ) (es : List JournalEntry) (v : State th) (q : ℕ) → IsPhasedRun th net s p es v q → (e : JournalEntry) → Has e es → IsThere e
  all-there s p [] v q run e h = absurd h
  all-there s p (x ∷ es) v q (found, next, now, ready, step, rest) e (inl same) = subst IsThere (sym same) (step-there now found x next step)
  all-there s p (x ∷ es) v q (found, next, now, ready, step, rest) e (inr h) = all-there next now es v q rest e h
