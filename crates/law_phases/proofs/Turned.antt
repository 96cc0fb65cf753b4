-- Permitted turns are what happens, and a run grows by what happens.
use Rattle.std.proofs.Common.{◌≡◌, ℕ, List, [], ◌∷◌, ◌++◌, Option, Some, None, refl, sym, ap, subst, ◌∙◌}
use Rattle.std.proofs.lemmas.Option.{same_Some}
use Rattle.law_machine.specs.Machine.{act_phase}
use Rattle.law_machine.specs.Network.{IsStep, turn, entry_at}
use Rattle.law_machine.proofs.Tried.{Entered, entry-step, step-entry}
use Rattle.law_routing.specs.Theory.{Theory}
use Rattle.law_routing.specs.Routing.{NetEntry}
use Rattle.law_phases.specs.Trees.{JournalEntry, State, entry_on, PhasedNet, net_at, machine_at, at_phase}
use Rattle.law_phases.specs.Moments.{Moment, as_found, acted}
use Rattle.law_phases.specs.Runs.{ActFinds, IsPhasedRun, IsPhasedStep, Turn}
use Rattle.law_phases.specs.Turns.{off_maybe, entry_made, IsPermittedTurn}
use Rattle.law_phases.proofs.Moments.{ready-found, step-acted, run-append}

module _ (th : Theory) (net : PhasedNet th) where
  -- the entry that a turn makes, and its step
  record Made (w : Moment th net) (t : Turn) (e : JournalEntry) : Type 0 where
    server : e.server ≡ t.0
    act : e.act ≡ t.1
    step : IsStep (machine_at th net w.phase) (at_phase th net w.phase w.state) (entry_on th (net_at th net w.phase) e) (at_phase th net w.phase (acted th net w e).state)

  made : (w : Moment th net) (t : Turn) (e : JournalEntry) → entry_made th net w t ≡ Some e → Made w t e
  made w t e f = go (entry_at (machine_at th net w.phase) (at_phase th net w.phase w.state) t.0 t.1) refl f
    where
      go : (o : Option (NetEntry th (net_at th net w.phase))) → entry_at (machine_at th net w.phase) (at_phase th net w.phase w.state) t.0 t.1 ≡ o → off_maybe th (net_at th net w.phase) o ≡ Some e → Made w t e
      go None g h = absurd cc
      go (Some x) g h = subst (Made w t) (same_Some _ _ h) (record { server = y.server; act = y.act; step = subst (IsStep (machine_at th net w.phase) (at_phase th net w.phase w.state) x) turn-is y.step })
        where
          y : Entered (machine_at th net w.phase) (at_phase th net w.phase w.state) t.0 t.1 x
          y = entry-step (machine_at th net w.phase) (at_phase th net w.phase w.state) t.0 t.1 x g

          turn-is : turn (machine_at th net w.phase) (at_phase th net w.phase w.state) t.0 t.1 ≡ turn (machine_at th net w.phase) (at_phase th net w.phase w.state) x.server x.act
          turn-is = ap (λ z. turn (machine_at th net w.phase) (at_phase th net w.phase w.state) z t.1) (sym y.server) ∙ ap (turn (machine_at th net w.phase) (at_phase th net w.phase w.state) x.server) (sym y.act)

  pub permitted-happens : (w : Moment th net) (t : Turn) (e : JournalEntry) (v : Moment th net) → (x : IsPermittedTurn th net w t e v) → (e.server ≡ t.0) × (e.act ≡ t.1) × IsPhasedStep th net w x.found v e
  permitted-happens w t e v x =
      let y = made x.found t e x.possible in (
        y.server,
        y.act,
        record {
          ready = subst (λ z. ActFinds th net w.state w.phase z x.found.state x.found.phase) (sym (ap (λ z. act_phase (machine_at th net w.phase) z (w.state.state z) e.act) y.server ∙ ap (act_phase (machine_at th net w.phase) t.0 (w.state.state t.0)) y.act)) x.ready;
          step = subst (λ (z : Moment th net). IsStep (machine_at th net x.found.phase) (at_phase th net x.found.phase x.found.state) (entry_on th (net_at th net x.found.phase) e) (at_phase th net x.found.phase z.state)) x.leads y.step;
          phase = ap (λ (z : Moment th net). z.phase) (sym x.leads);
        },
      )

  pub happens-permitted : (w f v : Moment th net) (e : JournalEntry) → IsPhasedStep th net w f v e → IsPermittedTurn th net w (e.server, e.act) e v
  happens-permitted w f v e h = record {
    found = f;
    ready = h.ready;
    possible = ap (off_maybe th (net_at th net f.phase)) (step-entry (machine_at th net f.phase) (at_phase th net f.phase f.state) (entry_on th (net_at th net f.phase) e) (at_phase th net f.phase v.state) h.step);
    leads = step-acted th net f.state e v.state f.phase h.step ∙ (λ i. record { state = v.state; phase = sym h.phase i });
  }

  -- what is ready is found
  pub found-is : (w : Moment th net) (o : Option ℕ) (x : Moment th net) → ActFinds th net w.state w.phase o x.state x.phase → as_found th net w o ≡ x
  found-is w o x ready = ready-found th net w.state w.phase o x.state x.phase ready

  -- a run grows
  pub run-grows : (s : State th) (p : ℕ) (es : List JournalEntry) (w f v : Moment th net) (e : JournalEntry) → IsPhasedRun th net s p es w.state w.phase → IsPhasedStep th net w f v e → IsPhasedRun th net s p (es ++ e ∷ []) v.state v.phase
  run-grows s p es w f v e run h = run-append th net s p es w.state w.phase (e ∷ []) v.state v.phase run (f.state, v.state, f.phase, h.ready, h.step, (refl, sym h.phase))
