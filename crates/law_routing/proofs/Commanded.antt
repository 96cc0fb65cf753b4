-- The commands of a phase, tried one after the other, are all executed.
use Rattle.std.proofs.Common.{◌≡◌, ℕ, zero, suc, ◌+◌, ◌≤◌, ◌<◌, ◌==◌, Bool, true, false, cond, List, [], ◌∷◌, ◌⊎◌, inl, inr, length, slice_get, Option, Some, None, refl, sym, ap, subst, ◌∙◌, arith, eq-eqb}
use Rattle.std.proofs.lemmas.Option.{same_Some}
use Rattle.base.specs.Sets.{Has}
use Rattle.law_machine.specs.Machine.{Machine, at, Input, Does, Receives, Outcome, Act, Did, Stamped, act_of, act_phase, entry_of}
use Rattle.law_machine.specs.Runs.{raised}
use Rattle.law_machine.specs.History.{Moment, as_found, network_step, Happens}
use Rattle.law_machine.specs.Network.{entry_given, entry_at}
use Rattle.law_machine.specs.Walk.{entry_of_phase, with_default, entries_by, moment_by, repeated, IsWalkable}
use Rattle.law_machine.proofs.History.{moves}
use Rattle.law_machine.proofs.Lists.{Same, Is, Not, compare}
use Rattle.law_machine.proofs.Local.{local-run}
use Rattle.law_machine.proofs.Tried.{Goes, entry-goes, entries-run}
use Rattle.law_machine.proofs.Rounds.{moment-append}
use Rattle.law_routing.specs.Theory.{Theory}
use Rattle.law_routing.specs.Net.{Net, PhasedCommand, NetLaws}
use Rattle.law_routing.specs.Clients.{commands_below}
use Rattle.law_routing.specs.Server.{Message, ServerState}
use Rattle.law_routing.specs.Step.{Task, NextCommand, TableUpdate, with_command_executed, effect, command_work, local_step}
use Rattle.law_routing.specs.Routing.{routing_machine, phase_of, NetEntry}
use Rattle.law_routing.specs.Works.{done_after}
use Rattle.law_routing.specs.Walk.{client_turns, command_turns}
use Rattle.law_routing.proofs.Laws.{machine-laws}
use Rattle.law_routing.proofs.Listing.{has-one}
use Rattle.law_routing.proofs.Working.{served, works}
use Rattle.law_routing.proofs.Accepted.{effect-done, done-here}
use Rattle.law_routing.proofs.Scripts.{through-count, upto-count}
use Rattle.law_routing.proofs.Drained.{below-length}
use Rattle.law_routing.proofs.Idle.{get-none}
use Rattle.std.proofs.lemmas.Bool.{cases_lt}

module _ (th : Theory) (net : Net th) (good : NetLaws th net) where
  abbrev m : Machine
  m = routing_machine th net

  abbrev taken-of : Moment (routing_machine th net) → ℕ → ℕ → ℕ
  taken-of s t c = (s.network.state t).done c

  after-more : (done : ℕ → ℕ) (d : Input Task (Message th)) (c : ℕ) → done c ≤ done_after th net done d c
  after-more done (Does (NextCommand b)) c = go (compare c b)
    where
      go : Same c b → done c ≤ at done b (suc (done b)) c
      go (Is e v) = rw v (omega (arith, ap done e))
      go (Not n v) = rw v (omega arith)
  after-more done (Does TableUpdate) c = omega arith
  after-more done (Receives u x) c = omega arith

  -- a step takes no command back
  step-more : (c t : ℕ) (s : ServerState th) (d : Input Task (Message th)) (r : Outcome (ServerState th) (Message th)) → local_step th net t s d ≡ Some r → s.done c ≤ r.state.done c
  step-more c t s d r e =
      let x = served th net t s d r e in
      let now : r.state.done ≡ done_after th net s.done d = ap (λ (z : Outcome (ServerState th) (Message th)). z.state.done) x.made ∙ (effect-done th net good t x.from x.work ∙ x.done) in
      omega (arith, ap (λ z. z c) now, after-more s.done d c)

  module _ (k : ℕ) where
    pub walk-after : (turns : List (ℕ × Act Task)) (s : Moment (routing_machine th net)) → IsWalkable (routing_machine th net) k s → IsWalkable (routing_machine th net) k (moment_by (routing_machine th net) k s turns)
    walk-after turns s walk = (entries-run m (machine-laws th net) k turns s walk).1

    pub done-more : (turns : List (ℕ × Act Task)) (s : Moment (routing_machine th net)) → IsWalkable (routing_machine th net) k s → (t c : ℕ) → taken-of s t c ≤ taken-of (moment_by (routing_machine th net) k s turns) t c
    done-more turns s walk t c =
        local-run m (λ (x : ℕ) (z : ServerState th). (s.network.state x).done c ≤ z.done c) (λ x z d r e l. omega (arith, l, step-more c x z d r e)) s.network s.phase (entries_by m k s turns) (moment_by m k s turns).network (moment_by m k s turns).phase
        (entries-run m (machine-laws th net) k turns s walk).0 (λ x. omega arith) t

    abbrev one-turn : ℕ → ℕ → List (ℕ × Act Task)
    one-turn t c = (t, Did (NextCommand c)) ∷ []

    -- the next command of this phase is executed
    module _ (s : Moment (routing_machine th net)) (walk : IsWalkable (routing_machine th net) k s) (t c : ℕ) (here : Has t net.servers) (lives : Has c (net.clients t)) (y : PhasedCommand th) (next : slice_get (net.script c) ((s.network.state t).done c) ≡ Some y) (now : y.phase ≡ k) where
      outcome : Outcome (ServerState th) (Message th)
      outcome = effect th net t (with_command_executed th net (s.network.state t) c) (command_work th net c ((s.network.state t).done c) y.command)

      made : local_step th net t (s.network.state t) (Does (NextCommand c)) ≡ Some outcome
      unfolding outcome
      made = rw (has-one t net.servers here, has-one c (net.clients t) lives, next) refl

      found : Bool → Moment (routing_machine th net)
      found b = cond b s (record { network = raised m s.network; phase = k })

      abbrev the-entry : Bool → NetEntry th net
      the-entry b = entry_of m t ((found b).network.clock t) (Does (NextCommand c)) outcome

      entry : (b : Bool) → entry_at m (found b).network t (Did (NextCommand c)) ≡ Some (the-entry b)
      unfolding found
      entry true = ap (entry_given m s.network t (Does (NextCommand c))) made
      entry false = ap (entry_given m (raised m s.network) t (Does (NextCommand c))) made

      in-phase : entry_of_phase m k s t (Did (NextCommand c)) (act_phase m t (s.network.state t) (Did (NextCommand c))) ≡ Some (the-entry (s.phase == k))
      unfolding found
      in-phase =
          ap (λ z. entry_of_phase m k s t (Did (NextCommand c)) (phase_of th net z)) next
          ∙ (ap (λ z. entry_of_phase m k s t (Did (NextCommand c)) (Some z)) now
          ∙ (ap (λ z. cond z (entry_at m (as_found m s (Some k)).network t (Did (NextCommand c))) None) (eq-eqb k k refl) ∙ entry (s.phase == k)))

      more : Goes m k s (the-entry (s.phase == k)) → suc ((s.network.state t).done c) ≤ taken-of (network_step m s (the-entry (s.phase == k))) t c
      more g =
          let e = the-entry (s.phase == k) in
          let v = network_step m s e in
          let happens : Happens m s.network s.phase e v.network v.phase = record { found = g.found; ready = g.ready; step = g.step } in
          let w = works th net s.network e v.network (moves m s.network s.phase e v.network v.phase happens) in
          omega (arith, done-here th net good s.network e v.network w t refl c, count w.deed (sym w.act))
        where
          count : (d : Input Task (Stamped (Message th))) → act_of m d ≡ Did (NextCommand c) → done_after th net (s.network.state t).done d c ≡ suc ((s.network.state t).done c)
          count (Does (NextCommand b)) e = ap (λ z. done_after th net (s.network.state t).done (does z) c) (same e) ∙ rw (eq-eqb c c refl) refl
            where
              does : ℕ → Input Task (Stamped (Message th))
              does z = Does (NextCommand z)

              same : Did (NextCommand b) ≡ Did (NextCommand c) → b ≡ c
              same e = cc
          count (Does TableUpdate) e = absurd cc
          count (Receives u x) e = absurd cc

      pub one-more : suc ((s.network.state t).done c) ≤ taken-of (moment_by (routing_machine th net) k s ((t, Did (NextCommand c)) ∷ [])) t c
      one-more =
          let g = entry-goes m (machine-laws th net) k s t (Did (NextCommand c)) (the-entry (s.phase == k)) walk in-phase in
          subst (λ o. suc ((s.network.state t).done c) ≤ taken-of (with_default o (λ e. network_step m s e) s) t c) (sym in-phase) (more g)

    -- each try executes a command of the phase, or none is left
    pub one-try : (s : Moment (routing_machine th net)) → IsWalkable (routing_machine th net) k s → (t c : ℕ) → Has t net.servers → Has c (net.clients t) → commands_below th k (net.script c) ≤ taken-of s t c
        → (commands_below th (suc k) (net.script c) ≤ taken-of s t c) ⊎ (suc (taken-of s t c) ≤ taken-of (moment_by (routing_machine th net) k s ((t, Did (NextCommand c)) ∷ [])) t c)
    one-try s walk t c here lives low = go (slice_get (net.script c) (taken-of s t c)) refl
      where
        go : (o : Option (PhasedCommand th)) → slice_get (net.script c) (taken-of s t c) ≡ o → (commands_below th (suc k) (net.script c) ≤ taken-of s t c) ⊎ (suc (taken-of s t c) ≤ taken-of (moment_by (routing_machine th net) k s ((t, Did (NextCommand c)) ∷ [])) t c)
        go None f = inl (omega (arith, below-length th (suc k) (net.script c), get-none (net.script c) (taken-of s t c) f))
        go (Some y) f = by (cases_lt y.phase k) (cases_lt k y.phase)
          where
            by : (y.phase < k) ⊎ (k ≤ y.phase) → (k < y.phase) ⊎ (y.phase ≤ k) → (commands_below th (suc k) (net.script c) ≤ taken-of s t c) ⊎ (suc (taken-of s t c) ≤ taken-of (moment_by (routing_machine th net) k s ((t, Did (NextCommand c)) ∷ [])) t c)
            by (inl a) b = absurd (early k low a)
              where
                early : (j : ℕ) → commands_below th j (net.script c) ≤ taken-of s t c → y.phase < j → ⊥
                early zero l a = omega (arith, a)
                early (suc j) l a = omega (arith, l, upto-count th j (net.script c) (taken-of s t c) y (good.phased c) f (omega (arith, a)))
            by (inr a) (inl b) = inl (through-count th (suc k) (net.script c) (taken-of s t c) (good.phased c) (λ x e. omega (arith, b, ap (λ (z : PhasedCommand th). z.phase) (same_Some _ _ (sym f ∙ e)))))
            by (inr a) (inr b) = inr (one-more s walk t c here lives y f (omega (arith, a, b)))

    -- as many tries as the script has commands take all of the phase
    pub all-tries : (n : ℕ) (s : Moment (routing_machine th net)) → IsWalkable (routing_machine th net) k s → (t c : ℕ) → Has t net.servers → Has c (net.clients t) → commands_below th k (net.script c) ≤ taken-of s t c → commands_below th (suc k) (net.script c) ≤ taken-of s t c + n
        → commands_below th (suc k) (net.script c) ≤ taken-of (moment_by (routing_machine th net) k s (repeated (routing_machine th net) n ((t, Did (NextCommand c)) ∷ []))) t c
    all-tries zero s walk t c here lives low enough = omega (arith, enough)
    all-tries (suc n) s walk t c here lives low enough =
        let s' = moment_by m k s (one-turn t c) in
        let rises = done-more (one-turn t c) s walk t c in
        let some : commands_below th (suc k) (net.script c) ≤ taken-of s' t c + n = elim (one-try s walk t c here lives low) [ inl a ↦ omega (arith, a, rises) | inr b ↦ omega (arith, b, enough) ] in
        subst (λ (z : Moment m). commands_below th (suc k) (net.script c) ≤ taken-of z t c) (sym (moment-append m k (one-turn t c) (repeated m n (one-turn t c)) s))
        (all-tries n s' (walk-after (one-turn t c) s walk) t c here lives (omega (arith, low, rises)) some)

    -- the clients of a server, and all servers
    pub clients-done : (cs : List ℕ) (s : Moment (routing_machine th net)) → IsWalkable (routing_machine th net) k s → (t : ℕ) → Has t net.servers → ((c : ℕ) → Has c cs → Has c (net.clients t)) → ((c : ℕ) → Has c (net.clients t) → commands_below th k (net.script c) ≤ taken-of s t c)
        → (c : ℕ) → Has c cs → commands_below th (suc k) (net.script c) ≤ taken-of (moment_by (routing_machine th net) k s (client_turns th net t cs)) t c
    clients-done [] s walk t here of low c h = absurd h
    clients-done (x ∷ cs) s walk t here of low c h =
        let tries = repeated m (length (net.script x)) (one-turn t x) in
        let s' = moment_by m k s tries in
        let walk' = walk-after tries s walk in
        subst (λ (z : Moment m). commands_below th (suc k) (net.script c) ≤ taken-of z t c) (sym (moment-append m k tries (client_turns th net t cs) s))
        (elim h [
          | inl e ↦ subst (λ z. commands_below th (suc k) (net.script z) ≤ taken-of (moment_by m k s' (client_turns th net t cs)) t z) (sym e) (omega (arith, all-tries (length (net.script x)) s walk t x here (of x (inl refl)) (low x (of x (inl refl))) (omega (arith, below-length th (suc k) (net.script x))), done-more (client_turns th net t cs) s' walk' t x))
          | inr i ↦ clients-done cs s' walk' t here (λ z j. of z (inr j)) (λ z j. omega (arith, low z j, done-more tries s walk t z)) c i
        ])

    pub servers-done : (ts : List ℕ) (s : Moment (routing_machine th net)) → IsWalkable (routing_machine th net) k s → ((t : ℕ) → Has t ts → Has t net.servers) → ((t c : ℕ) → Has t net.servers → Has c (net.clients t) → commands_below th k (net.script c) ≤ taken-of s t c)
        → (t c : ℕ) → Has t ts → Has c (net.clients t) → commands_below th (suc k) (net.script c) ≤ taken-of (moment_by (routing_machine th net) k s (command_turns th net ts)) t c
    servers-done [] s walk of low t c h lives = absurd h
    servers-done (x ∷ ts) s walk of low t c h lives =
        let first = client_turns th net x (net.clients x) in
        let s' = moment_by m k s first in
        let walk' = walk-after first s walk in
        subst (λ (z : Moment m). commands_below th (suc k) (net.script c) ≤ taken-of z t c) (sym (moment-append m k first (command_turns th net ts) s))
        (elim h [
          | inl e ↦ subst (λ z. commands_below th (suc k) (net.script c) ≤ taken-of (moment_by m k s' (command_turns th net ts)) z c) (sym e) (omega (arith, clients-done (net.clients x) s walk x (of x (inl refl)) (λ z j. j) (λ z j. low x z (of x (inl refl)) j) c (subst (λ z. Has c (net.clients z)) e lives), done-more (command_turns th net ts) s' walk' x c))
          | inr i ↦ servers-done ts s' walk' (λ z j. of z (inr j)) (λ z d j l. omega (arith, low z d j l, done-more first s walk z d)) t c i lives
        ])
