-- How the journals of a network of a hierarchy are read: as runs of one machine, whose walk goes on from each legal one to its drained end.
use Rattle.std.proofs.Common.{◌≡◌, ℕ, ◌<◌, true, List, [], ◌∷◌, slice_get, Option, Some, None, refl, sym, ap, subst, arith}
use Rattle.std.proofs.lemmas.Option.{same_Some}
use Rattle.law_machine.specs.Machine.{Act, Did, Received, Machine, act_phase}
use Rattle.law_machine.specs.Runs.{IsReady, IsRun, IsPermitted}
use Rattle.law_machine.specs.History.{Moment, moment_after}
use Rattle.law_machine.specs.Walk.{with_default, is_of_phase, entries_by, walk_phases}
use Rattle.law_machine.specs.Walk.{moment_by as moment_tried}
use Rattle.law_machine.proofs.Rounds.{entries-append}
use Rattle.law_routing.specs.Net.{PhasedCommand}
use Rattle.law_routing.specs.Step.{Task, NextCommand, TableUpdate}
use Rattle.law_routing.specs.Routing.{phase_of}
use Rattle.law_routing.specs.Rest.{IsDrained}
use Rattle.net_model.specs.Real.{real, real_laws}
use Rattle.law_hierarchy.specs.Step.{Hierarchy, HierarchyEntry, as_peers}
use Rattle.law_hierarchy.specs.HierarchyRun.{AllBelow}
use Rattle.law_hierarchy.proofs.Walking.{walk-drains}
use Rattle.net_model.specs.Parts.{NetParts, EntryParts}
use Rattle.net_model.specs.Nets.{phases_of}
use Rattle.net_model.specs.Sound.{IsSound}
use Rattle.net_model.proofs.SoundNets.{phases-low}
use Rattle.net_turns.specs.Trying.{phase_turns}
use Rattle.net_turns.specs.Reading.{Reading, CanWalk}
use Rattle.hierarchy_turns.specs.Network.{network_parts, net_of, servers_of, entry_in, journal_in, opening_of, moment_by, IsLegal, run_of}
use Rattle.hierarchy_turns.proofs.Lawful.{laws-of}
use Rattle.hierarchy_turns.proofs.Turned.{moment-entries, after-append, permitted-makes, barred-none, made-nothing, run-first, still-moment}
use Rattle.base.proofs.Sets.{get-has}

pub same-moment : {m : Machine} (s end : Moment m) → s.network ≡ end.network → s.phase ≡ end.phase → end ≡ s
same-moment s end e f = λ i. record { network = sym e i; phase = sym f i }

abbrev pub hierarchy_reading : Reading
hierarchy_reading = record {
  Entry = λ net. HierarchyEntry real (net_of net);
  Moment = λ net. Moment (servers_of net);
  entry_in = entry_in;
  opening = opening_of;
  moment_after = λ net. moment_after (servers_of net);
  phase = λ net moment. moment.phase;
  IsRunTo = λ net start entries end. IsRun (servers_of net) start.network start.phase entries end.network end.phase;
  IsPermitted = λ net moment turn entry next. IsPermitted (servers_of net) moment.network moment.phase turn.0 turn.1 entry next.network next.phase;
  IsOfPhase = λ net phase moment turn. is_of_phase (servers_of net) phase (act_phase (servers_of net) turn.0 (moment.network.state turn.0) turn.1) ≡ true;
  IsDrained = λ net moment. IsDrained real (net_of net) (as_peers real (net_of net) moment.network);
  entries_by = λ net. entries_by (servers_of net);
  turned = λ net. moment_tried (servers_of net);
  tree_phase = λ phase. 0;
  walk_phases = λ net. walk_phases (servers_of net) (phase_turns net 0);
  after_append = λ net. after-append (servers_of net);
  after_turns = λ net. moment-entries (servers_of net);
  no_turns = λ net p moment. refl;
  two_lists = λ net p moment part more. entries-append (servers_of net) p part more moment;
  still = λ net. still-moment (servers_of net);
  run_first = λ net. run-first (servers_of net);
  permitted_makes = λ net p moment next turn entry own permitted.
      ap (λ o. with_default o (λ e. e ∷ []) []) (permitted-makes (servers_of net) p moment turn entry next.network next.phase own permitted);
  barred_none = λ net p moment end turn run barred. made-nothing (servers_of net) p moment turn []
      (barred-none (servers_of net) p moment end turn [] run (λ entry next now permitted. barred entry (record { network = next; phase = now }) permitted));
  no_phases = λ net p moment. refl;
  more_phases = λ net n p moment. refl;
  drained_at = λ net moment end run drained.
      subst (λ (z : Moment (servers_of net)). IsDrained real (net_of net) (as_peers real (net_of net) z.network)) (same-moment moment end run.0 run.1) drained;
}

module _ (net : NetParts) (bound : ℕ) (some : 0 < bound) (low : AllBelow real (net_of net) bound) where
  next-low : (client : ℕ) (k : ℕ) (o : Option (PhasedCommand real)) (n : ℕ) → slice_get ((net_of net).script client) n ≡ o → phase_of real (net_of net) o ≡ Some k → k < bound
  next-low client k None n e f = subst (λ z. z < bound) (same_Some _ _ f) some
  next-low client k (Some command) n e f = subst (λ z. z < bound) (same_Some _ _ f) (low client command (get-has ((net_of net).script client) n command e))

  act-low : (server : ℕ) (s : Hierarchy real (net_of net)) (act : Act Task) (k : ℕ) → act_phase (servers_of net) server (s.state server) act ≡ Some k → k < bound
  act-low server s (Did (NextCommand client)) k f = next-low client k (slice_get ((net_of net).script client) ((s.state server).done client)) ((s.state server).done client) refl f
  act-low server s (Did TableUpdate) k f = absurd cc
  act-low server s (Received from) k f = absurd cc

  finds-low : (p server : ℕ) (s x : Hierarchy real (net_of net)) (act : Act Task) (q : ℕ) (o : Option ℕ) → act_phase (servers_of net) server (s.state server) act ≡ o → p < bound
      → IsReady (servers_of net) s p o x q → q < bound
  finds-low p server s x act q None f l (a, b) = subst (λ z. z < bound) b l
  finds-low p server s x act q (Some k) f l (a, b) = subst (λ z. z < bound) a (act-low server s act k f)

  -- the phase of a run's last command is one of the net's
  pub run-low : (s : Hierarchy real (net_of net)) (p : ℕ) (es : List (HierarchyEntry real (net_of net))) (s' : Hierarchy real (net_of net)) (p' : ℕ)
      → IsRun (servers_of net) s p es s' p' → p < bound → p' < bound
  run-low s p [] s' p' (a, b) l = subst (λ z. z < bound) b l
  run-low s p (e ∷ es) s' p' (x, v, q, ready, step, rest) l = run-low v q es s' p' rest (finds-low p e.server s x e.act q (act_phase (servers_of net) e.server (s.state e.server) e.act) refl l ready)

-- at first the whole walk is left, from the phase in hand on
pub first-can : (net : NetParts) (journal : List EntryParts) → IsSound net → IsLegal net journal → CanWalk hierarchy_reading (moment_by net journal).phase (network_parts net journal)
first-can net journal sound legal =
    (let x = walk-drains real real_laws (run_of net (laws-of net sound) journal legal) (phases_of net) (phases-low net sound) low in
    record { end = record { network = x.0; phase = x.1 }; run = x.2; drained = x.3 })
  where
    low : (moment_by net journal).phase < phases_of net
    low = run-low net (phases_of net) (omega arith) (phases-low net sound) (opening_of net).network 0
        (journal_in net journal) (moment_by net journal).network (moment_by net journal).phase legal (omega arith)
