-- How the journals of a network of peers are read: as runs over trees by phase, whose walk goes on from each legal one to its drained end.
use Rattle.std.proofs.Common.{◌≡◌, ℕ, ◌<◌, true, List, [], ◌∷◌, slice_get, Option, Some, None, refl, sym, ap, subst, arith}
use Rattle.std.proofs.lemmas.Option.{same_Some}
use Rattle.law_machine.specs.Machine.{Act, Did, Received, act_phase}
use Rattle.law_machine.specs.Walk.{with_default, is_of_phase}
use Rattle.law_routing.specs.Theory.{Theory}
use Rattle.law_routing.specs.Net.{PhasedCommand}
use Rattle.law_routing.specs.Step.{Task, NextCommand, TableUpdate}
use Rattle.law_routing.specs.Routing.{phase_of}
use Rattle.law_routing.specs.Rest.{IsDrained}
use Rattle.law_phases.specs.Trees.{JournalEntry, State, PhasedNet, net_at, machine_at, at_phase}
use Rattle.law_phases.specs.Moments.{Moment, opening_moment, moment_after}
use Rattle.law_phases.specs.Runs.{ActFinds, IsPhasedRun, IsRunTo}
use Rattle.law_phases.specs.Turns.{turn_phase, IsPermittedTurn}
use Rattle.law_phases.specs.Walk.{entries_by, walk_phases}
use Rattle.law_phases.specs.Walk.{moment_by as moment_tried}
use Rattle.law_phases.specs.AtMoments.{AllBelow}
use Rattle.law_phases.proofs.Walks.{walk-drains}
use Rattle.net_model.specs.Real.{real, real_laws}
use Rattle.net_model.specs.Parts.{NetParts, EntryParts}
use Rattle.net_model.specs.Meaning.{entry_of, journal_of}
use Rattle.net_model.specs.Nets.{phased_net, phases_of}
use Rattle.net_model.specs.Sound.{IsSound}
use Rattle.net_model.proofs.SoundNets.{net-laws, phases-low}
use Rattle.net_turns.specs.Network.{network_parts, moment_by, IsLegal}
use Rattle.net_turns.specs.Reading.{Reading, CanWalk}
use Rattle.net_turns.proofs.Turns.{entries-append, moment-entries, after-append, still-moment, run-first, permitted-makes, barred-none, made-nothing}
use Rattle.base.proofs.Sets.{get-has}

pub same-moment : {th : Theory} {net : PhasedNet th} (m end : Moment th net) → m.state ≡ end.state → m.phase ≡ end.phase → end ≡ m
same-moment m end e f = λ i. record { state = sym e i; phase = sym f i }

abbrev pub peers_reading : Reading
peers_reading = record {
  Entry = λ net. JournalEntry;
  Moment = λ net. Moment real (phased_net net);
  entry_in = λ net. entry_of;
  opening = λ net. opening_moment real (phased_net net);
  moment_after = λ net. moment_after real (phased_net net);
  phase = λ net moment. moment.phase;
  IsRunTo = λ net. IsRunTo real (phased_net net);
  IsPermitted = λ net. IsPermittedTurn real (phased_net net);
  IsOfPhase = λ net phase moment turn. is_of_phase (machine_at real (phased_net net) phase) phase (turn_phase real (phased_net net) moment turn) ≡ true;
  IsDrained = λ net moment. IsDrained real (net_at real (phased_net net) moment.phase) (at_phase real (phased_net net) moment.phase moment.state);
  entries_by = λ net. entries_by real (phased_net net);
  turned = λ net. moment_tried real (phased_net net);
  tree_phase = λ phase. phase;
  walk_phases = λ net. walk_phases real (phased_net net);
  after_append = λ net. after-append real (phased_net net);
  after_turns = λ net. moment-entries real (phased_net net);
  no_turns = λ net p moment. refl;
  two_lists = λ net. entries-append real (phased_net net);
  still = λ net. still-moment real (phased_net net);
  run_first = λ net. run-first real (phased_net net);
  permitted_makes = λ net p moment next turn entry own permitted. ap (λ o. with_default o (λ e. e ∷ []) []) (permitted-makes real (phased_net net) p moment turn entry next own permitted).entry;
  barred_none = λ net p moment end turn run barred. made-nothing real (phased_net net) p moment turn [] (barred-none real (phased_net net) p moment end turn [] run barred);
  no_phases = λ net p moment. refl;
  more_phases = λ net n p moment. refl;
  drained_at = λ net moment end run drained.
      subst (λ (z : Moment real (phased_net net)). IsDrained real (net_at real (phased_net net) z.phase) (at_phase real (phased_net net) z.phase z.state))
      (same-moment moment end run.0 run.1) drained;
}

module _ (th : Theory) (net : PhasedNet th) (bound : ℕ) (some : 0 < bound) (low : AllBelow th net bound) where
  next-low : (client : ℕ) (k : ℕ) (o : Option (PhasedCommand th)) (n q : ℕ) → slice_get (net.script client) n ≡ o → phase_of th (net_at th net q) o ≡ Some k → k < bound
  next-low client k None n q e f = subst (λ z. z < bound) (same_Some _ _ f) some
  next-low client k (Some command) n q e f = subst (λ z. z < bound) (same_Some _ _ f) (low client command (get-has (net.script client) n command e))

  act-low : (p server : ℕ) (s : State th) (act : Act Task) (k : ℕ) → act_phase (machine_at th net p) server (s.state server) act ≡ Some k → k < bound
  act-low p server s (Did (NextCommand client)) k f = next-low client k (slice_get (net.script client) ((s.state server).done client)) ((s.state server).done client) p refl f
  act-low p server s (Did TableUpdate) k f = absurd cc
  act-low p server s (Received from) k f = absurd cc

  finds-low : (p server : ℕ) (s x : State th) (act : Act Task) (q : ℕ) (o : Option ℕ) → act_phase (machine_at th net p) server (s.state server) act ≡ o → p < bound → ActFinds th net s p o x q → q < bound
  finds-low p server s x act q None f l (a, b) = subst (λ z. z < bound) b l
  finds-low p server s x act q (Some k) f l (a, b) = subst (λ z. z < bound) a (act-low p server s act k f)

  -- the phase of a run's last command is one of the net's
  pub run-low : (s : State th) (p : ℕ) (es : List JournalEntry) (s' : State th) (p' : ℕ) → IsPhasedRun th net s p es s' p' → p < bound → p' < bound
  run-low s p [] s' p' (a, b) l = subst (λ z. z < bound) b l
  run-low s p (e ∷ es) s' p' (x, v, q, ready, step, rest) l = run-low v q es s' p' rest (finds-low p e.server s x e.act q (act_phase (machine_at th net p) e.server (s.state e.server) e.act) refl l ready)

-- at first the whole walk is left, from the phase in hand on
pub first-low : (net : NetParts) (journal : List EntryParts) → IsSound net → IsLegal net journal → (moment_by net journal).phase < phases_of net
first-low net journal sound legal =
    run-low real (phased_net net) (phases_of net) (omega arith) (phases-low net sound) (opening_moment real (phased_net net)).state 0
    (journal_of journal) (moment_by net journal).state (moment_by net journal).phase legal (omega arith)

pub first-can : (net : NetParts) (journal : List EntryParts) → IsSound net → IsLegal net journal → CanWalk peers_reading (moment_by net journal).phase (network_parts net journal)
first-can net journal sound legal =
    (let x = walk-drains real real_laws (record { net = phased_net net; laws = net-laws net sound; journal = journal_of journal; end = (moment_by net journal).state; last = (moment_by net journal).phase; legal = legal })
    (phases_of net) (phases-low net sound) (first-low net journal sound legal) in
    record { end = record { state = x.0; phase = x.1 }; run = x.2; drained = x.3 })
