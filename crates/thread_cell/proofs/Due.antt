-- No lower command is left and none of a higher phase is executed: this goes on through each step.
use Rattle.std.proofs.Common.{◌≡◌, ℕ, zero, suc, ◌≤◌, ◌<◌, ◌==◌, cond, List, [], ◌∷◌, ◌⊎◌, inl, inr, map, Some, slice_get, refl, sym, ap, subst, ◌∙◌, arith}
use Rattle.std.proofs.lemmas.Option.{same_Some}
use Rattle.base.specs.Sets.{Has}
use Rattle.law_machine.specs.Machine.{Input, Does, Receives, Outcome}
use Rattle.law_machine.proofs.Lists.{Same, Is, Not, compare}
use Rattle.law_routing.specs.Net.{Net, NetLaws, NeverFalls, PhasedCommand}
use Rattle.law_routing.specs.Server.{Message, ServerState}
use Rattle.law_routing.specs.Step.{Task, NextCommand, TableUpdate, Work, SetsFilters, SetsAdverts, Routes, InstallsTable, Nothing, effect}
use Rattle.law_routing.specs.Works.{done_after}
use Rattle.law_routing.proofs.Working.{Served, served}
use Rattle.net_model.specs.Real.{real}
use Rattle.server_message.specs.Parts.{SendingParts}
use Rattle.net_model.specs.Meaning.{phased_command}
use Rattle.server_spec.specs.Session.{SessionParts}
use Rattle.server_core.specs.Core.{CoreParts, RepresentsServer}
use Rattle.server_core.specs.Step.{IsServerStep}
use Rattle.thread_cell.specs.Acted.{StampedInput, input_of}
use Rattle.thread_cell.specs.Cell.{IsDue}
use Rattle.thread_cell.specs.Turns.{HasCommand, IsOfPhase}
use Rattle.base.proofs.Sets.{get-has, map-has, has-map}
use Rattle.base.proofs.Lists.{get-map, map-get}

-- the same of the commands of a server's clients, in a state of a net
pub record DueAt (net : Net real) (server : ℕ) (state : ServerState real) (phase : ℕ) : Type 0 where
  pub left : (client : ℕ) (c : PhasedCommand real) → Has client (net.clients server) → slice_get (net.script client) (state.done client) ≡ Some c → phase ≤ c.phase
  pub taken : (client k : ℕ) (c : PhasedCommand real) → Has client (net.clients server) → k < state.done client → slice_get (net.script client) k ≡ Some c → c.phase ≤ phase

module _ (net : Net real) (core : CoreParts) (state : ServerState real) (stands : RepresentsServer net core state) (phase : ℕ) where
  -- a client of the server has a session
  pub session-of : (client : ℕ) → Has client (net.clients core.server) → (s : SessionParts) × Has s core.clients × (client ≡ s.client)
  session-of client h = has-map (λ (s : SessionParts). s.client) core.clients client (subst (Has client) stands.clients h)

  pub script-of : (s : SessionParts) → Has s core.clients → (client : ℕ) → client ≡ s.client → net.script client ≡ map phased_command s.script
  script-of s h client e = ap net.script e ∙ stands.scripts s h

  pub done-of : (s : SessionParts) → Has s core.clients → (client : ℕ) → client ≡ s.client → state.done client ≡ s.taken
  done-of s h client e = ap state.done e ∙ stands.taken s h

  pub due-state : IsDue phase core.clients → DueAt net core.server state phase
  due-state due = record {
    left = λ client c h e.
        let s = session-of client h in
        let x = map-get phased_command s.0.script s.0.taken c (subst (λ n. slice_get (map phased_command s.0.script) n ≡ Some c) (done-of s.0 s.1 client s.2) (subst (λ l. slice_get l (state.done client) ≡ Some c) (script-of s.0 s.1 client s.2) e)) in
        subst (λ (z : PhasedCommand real). phase ≤ z.phase) x.2 (due.left s.0 x.0 s.1 x.1);
    taken = λ client k c h lt e.
        let s = session-of client h in
        let x = map-get phased_command s.0.script k c (subst (λ l. slice_get l k ≡ Some c) (script-of s.0 s.1 client s.2) e) in
        subst (λ (z : PhasedCommand real). z.phase ≤ phase) x.2 (due.taken s.0 k x.0 s.1 (subst (λ n. k < n) (done-of s.0 s.1 client s.2) lt) x.1);
  }

  lives : (s : SessionParts) → Has s core.clients → Has s.client (net.clients core.server)
  lives s h = subst (Has s.client) (sym stands.clients) (map-has (λ (s : SessionParts). s.client) core.clients s h)

  pub due-sessions : DueAt net core.server state phase → IsDue phase core.clients
  due-sessions due = record {
    left = λ s c h e. due.left s.client (phased_command c) (lives s h)
        (subst (λ n. slice_get (net.script s.client) n ≡ Some (phased_command c)) (sym (stands.taken s h)) (subst (λ l. slice_get l s.taken ≡ Some (phased_command c)) (sym (stands.scripts s h)) (get-map phased_command s.script s.taken c e)));
    taken = λ s k c h lt e. due.taken s.client k (phased_command c) (lives s h) (subst (λ n. k < n) (sym (stands.taken s h)) lt) (subst (λ l. slice_get l k ≡ Some (phased_command c)) (sym (stands.scripts s h)) (get-map phased_command s.script k c e));
  }

  -- the next command of a client, where it is of the phase
  pub next-of-phase : (client : ℕ) → HasCommand core client phase → (c : PhasedCommand real) × (slice_get (net.script client) (state.done client) ≡ Some c) × (c.phase ≡ phase)
  next-of-phase client (s, has, is, (c, found, own)) =
      (phased_command c, rw (script-of s has client (sym is), done-of s has client (sym is)) (get-map phased_command s.script s.taken c found), own)

-- no work executes a command
done-kept : (net : Net real) (server : ℕ) (state : ServerState real) (work : Work real) → (effect real net server state work).state.done ≡ state.done
done-kept net server state (SetsFilters i fs) = refl
done-kept net server state (SetsAdverts i ads) = refl
done-kept net server state (Routes i p o n) = refl
done-kept net server state InstallsTable = refl
done-kept net server state Nothing = refl

below-or-last : (k n : ℕ) → k < suc n → (k < n) ⊎ (k ≡ n)
below-or-last k n lt = grind arith

-- a later command of a script is of no lower phase
next-phase : (cs : List (PhasedCommand real)) (k : ℕ) (a b : PhasedCommand real) → NeverFalls real cs → slice_get cs k ≡ Some a → slice_get cs (suc k) ≡ Some b → a.phase ≤ b.phase
next-phase [] k a b n e f = absurd cc
next-phase (x ∷ cs) zero a b n e f = subst (λ (z : PhasedCommand real). z.phase ≤ b.phase) (same_Some x a e) (n.0 b (get-has cs 0 b f))
next-phase (x ∷ cs) (suc k) a b n e f = next-phase cs k a b n.1 e f

module _ (net : Net real) (server : ℕ) (state : ServerState real) (phase : ℕ) where
  -- after an input whose command, if it is one, is of the phase
  pub due-after : (input : Input Task (Message real)) (done : ℕ → ℕ) → done ≡ done_after real net state.done input
      → ((client : ℕ) → NeverFalls real (net.script client)) → ((client : ℕ) → input ≡ Does (NextCommand client) → (c : PhasedCommand real) × (slice_get (net.script client) (state.done client) ≡ Some c) × (c.phase ≡ phase))
      → (next : ServerState real) → next.done ≡ done → DueAt net server state phase → DueAt net server next phase
  due-after (Does TableUpdate) done e falls due next q at-first = subst (λ f. DueAt net server (record { subs = next.subs; advs = next.advs; installed = next.installed; pending = next.pending; done = f; inbox = next.inbox }) phase) (sym (q ∙ e)) (record { left = at-first.left; taken = at-first.taken })
  due-after (Receives from m) done e falls due next q at-first = subst (λ f. DueAt net server (record { subs = next.subs; advs = next.advs; installed = next.installed; pending = next.pending; done = f; inbox = next.inbox }) phase) (sym (q ∙ e)) (record { left = at-first.left; taken = at-first.taken })
  due-after (Does (NextCommand client)) done e falls due next q at-first = record { left = left-then; taken = taken-then }
    where
      own : (c : PhasedCommand real) × (slice_get (net.script client) (state.done client) ≡ Some c) × (c.phase ≡ phase)
      own = due client refl

      counts : (x : ℕ) → next.done x ≡ cond (x == client) (suc (state.done client)) (state.done x)
      counts x = ap (λ f. f x) (q ∙ e)

      left-then : (x : ℕ) (c : PhasedCommand real) → Has x (net.clients server) → slice_get (net.script x) (next.done x) ≡ Some c → phase ≤ c.phase
      left-then x c h f = go (compare x client)
        where
          go : Same x client → phase ≤ c.phase
          go (Is p v) =
              let n : next.done x ≡ suc (state.done client) = counts x ∙ rw v refl in
              let g : slice_get (net.script client) (suc (state.done client)) ≡ Some c = subst (λ z. slice_get (net.script z) (suc (state.done client)) ≡ Some c) p (subst (λ n. slice_get (net.script x) n ≡ Some c) n f) in
              let le = next-phase (net.script client) (state.done client) own.0 c (falls client) own.1 g in
              omega (arith, le, own.2)
          go (Not p v) = let n : next.done x ≡ state.done x = counts x ∙ rw v refl in at-first.left x c h (subst (λ n. slice_get (net.script x) n ≡ Some c) n f)

      taken-then : (x k : ℕ) (c : PhasedCommand real) → Has x (net.clients server) → k < next.done x → slice_get (net.script x) k ≡ Some c → c.phase ≤ phase
      taken-then x k c h lt f = go (compare x client)
        where
          at-own : x ≡ client → (k < state.done x) ⊎ (k ≡ state.done x) → c.phase ≤ phase
          at-own p (inl l) = at-first.taken x k c h l f
          at-own p (inr w) =
              let g : slice_get (net.script client) (state.done client) ≡ Some c = subst (λ z. slice_get (net.script z) (state.done z) ≡ Some c) p (subst (λ n. slice_get (net.script x) n ≡ Some c) w f) in
              let s : c ≡ own.0 = same_Some c own.0 (sym g ∙ own.1) in
              let r : c.phase ≡ phase = ap (λ (z : PhasedCommand real). z.phase) s ∙ own.2 in
              omega (arith, r)

          go : Same x client → c.phase ≤ phase
          go (Is p v) =
              let n : next.done x ≡ suc (state.done client) = counts x ∙ rw v refl in
              let w : state.done x ≡ state.done client = ap state.done p in
              at-own p (below-or-last k (state.done x) (omega (arith, n, lt, w)))
          go (Not p v) = let n : next.done x ≡ state.done x = counts x ∙ rw v refl in at-first.taken x k c h (omega (arith, n, lt)) f

command-of : (input : StampedInput) (client : ℕ) → input_of input ≡ Does (NextCommand client) → input ≡ Does (NextCommand client)
command-of (Does (NextCommand c)) client e = let q : ◌≡◌ {A = Input Task (Message real)} (Does (NextCommand c)) (Does (NextCommand client)) = e in let p : c ≡ client = cc in ap (λ z. Does (NextCommand z)) p
command-of (Does TableUpdate) client e = let q : ◌≡◌ {A = Input Task (Message real)} (Does TableUpdate) (Does (NextCommand client)) = e in absurd cc
command-of (Receives from m) client e = let q : ◌≡◌ {A = Input Task (Message real)} (Receives from m.message) (Does (NextCommand client)) = e in absurd cc

-- A STEP keeps it
pub due-then : (net : Net real) (state : ServerState real) (old new : CoreParts) (phase : ℕ) (input : StampedInput) (sent : List SendingParts) (stands : RepresentsServer net old state) (step : IsServerStep net state (input_of input) old new sent) → NetLaws real net → new.server ≡ old.server
    → IsOfPhase phase old input → IsDue phase old.clients → IsDue phase new.clients
due-then net state old new phase input sent stands step laws same due at-first =
    due-sessions net new step.outcome.state step.state_after phase
    (subst (λ s. DueAt net s step.outcome.state phase) (sym same)
    (due-after net old.server state phase (input_of input) (done_after real net state.done (input_of input)) refl laws.phased own step.outcome.state done-is (due-state net old state stands phase at-first)))
  where
    s : Served real net old.server state (input_of input) step.outcome
    s = served real net old.server state (input_of input) step.outcome step.step

    done-is : step.outcome.state.done ≡ done_after real net state.done (input_of input)
    done-is = ap (λ (z : Outcome (ServerState real) (Message real)). z.state.done) s.made ∙ done-kept net old.server s.from s.work ∙ s.done

    own : (client : ℕ) → input_of input ≡ Does (NextCommand client) → (c : PhasedCommand real) × (slice_get (net.script client) (state.done client) ≡ Some c) × (c.phase ≡ phase)
    own client e = next-of-phase net old state stands phase client (subst (IsOfPhase phase old) (command-of input client e) due)
