-- Schedules of turns, with the walk at the end of each phase, are legal runs.
use Rattle.std.proofs.Common.{◌≡◌, ℕ, suc, ◌≤◌, nat_lt, false, List, [], ◌∷◌, ◌++◌, inl, refl, sym, subst, arith}
use Rattle.std.proofs.lemmas.Bool.Decides.{nat_tests}
use Rattle.base.specs.Sets.{Has}
use Rattle.law_machine.specs.Machine.{Act}
use Rattle.law_machine.specs.Runs.{IsRun}
use Rattle.law_machine.specs.History.{Moment}
use Rattle.law_machine.specs.Walk.{entries_by, moment_by, IsWalkable}
use Rattle.law_machine.proofs.Phases.{run-append}
use Rattle.law_machine.proofs.Tried.{entries-run}
use Rattle.law_machine.proofs.Rounds.{entries-append, moment-append}
use Rattle.law_routing.specs.Theory.{Theory, TheoryLaws}
use Rattle.law_routing.specs.Net.{Net, NetLaws, PhasedCommand}
use Rattle.law_routing.specs.Clients.{commands_below}
use Rattle.law_routing.specs.Step.{Task}
use Rattle.law_routing.specs.Routing.{routing_machine, Network, NetEntry, opening}
use Rattle.law_routing.specs.LegalRun.{LegalRun}
use Rattle.law_routing.specs.Walk.{walk_turns}
use Rattle.law_routing.proofs.Laws.{machine-laws}
use Rattle.law_routing.proofs.Commanded.{done-more}
use Rattle.law_routing.proofs.Started.{opening-start}
use Rattle.law_routing.proofs.Walked.{extended, phase-walked}
use Rattle.law_examples.specs.Trace.{replay_from, replay}

module _ (th : Theory) (laws : TheoryLaws th) where
  abbrev now : (run : LegalRun th) → Moment (routing_machine th run.net)
  now run = record { network = run.end; phase = run.last }

  -- the commands of the phases below this one are executed
  abbrev Through : (run : LegalRun th) → ℕ → Network th run.net → Type 0
  Through run k w = (t c : ℕ) → Has t run.net.servers → Has c (run.net.clients t) → commands_below th k (run.net.script c) ≤ (w.state t).done c

  pub replayed : (schedules : List (List (ℕ × Act Task))) (k : ℕ) (run : LegalRun th) → IsWalkable (routing_machine th run.net) k (now run) → Through run k run.end
      → (end : Network th run.net) × (last : ℕ) × IsRun (routing_machine th run.net) run.end run.last (replay_from th run.net k (now run) schedules) end last
  replayed [] k run walk counts = (run.end, run.last, (refl, refl))
  replayed (turns ∷ schedules) k run walk counts =
      let tried = entries-run (routing_machine th run.net) (machine-laws th run.net) k turns (now run) walk in
      let es : List (NetEntry th run.net) = entries_by (routing_machine th run.net) k (now run) turns in
      let middle : Moment (routing_machine th run.net) = moment_by (routing_machine th run.net) k (now run) turns in
      let one : LegalRun th = extended th run (entries_by (routing_machine th run.net) k (now run) turns) (moment_by (routing_machine th run.net) k (now run) turns).network (moment_by (routing_machine th run.net) k (now run) turns).phase tried.0 in
      let p = phase-walked th laws one k tried.1 (λ t c h lives. omega (arith, counts t c h lives, done-more th run.net run.laws k turns (now run) walk t c)) in
      let fs : List (NetEntry th run.net) = entries_by (routing_machine th run.net) k middle (walk_turns th run.net) in
      let after : Moment (routing_machine th run.net) = moment_by (routing_machine th run.net) k middle (walk_turns th run.net) in
      let two : LegalRun th = extended th one (entries_by (routing_machine th run.net) k middle (walk_turns th run.net)) after.network after.phase p.legal in
      let ih = replayed schedules (suc k) two p.walkable p.through in
      let whole = run-append (routing_machine th run.net) run.end run.last (es ++ fs) after.network after.phase (replay_from th run.net (suc k) after schedules) ih.0 ih.1 (run-append (routing_machine th run.net) run.end run.last es middle.network middle.phase fs after.network after.phase tried.0 p.legal) ih.2 in (
        ih.0,
        ih.1,
        subst (λ (z : List (NetEntry th run.net)). IsRun (routing_machine th run.net) run.end run.last (z ++ replay_from th run.net (suc k) (moment_by (routing_machine th run.net) k (now run) (turns ++ walk_turns th run.net)) schedules) ih.0 ih.1) (sym (entries-append (routing_machine th run.net) k turns (walk_turns th run.net) (now run)))
            (subst (λ (z : Moment (routing_machine th run.net)). IsRun (routing_machine th run.net) run.end run.last ((es ++ fs) ++ replay_from th run.net (suc k) z schedules) ih.0 ih.1) (sym (moment-append (routing_machine th run.net) k turns (walk_turns th run.net) (now run))) whole),
      )

  -- the empty run from the opening
  abbrev pub opened : (net : Net th) → NetLaws th net → LegalRun th
  opened net good = record { net = net; laws = good; start = opening th net; first = 0; begins = opening-start th net laws good; journal = []; end = opening th net; last = 0; legal = (refl, refl) }

  none-below : (commands : List (PhasedCommand th)) → commands_below th 0 commands ≡ 0
  none-below [] = refl
  none-below (x ∷ commands) = rw (no-less x.phase) (none-below commands)
    where
      no-less : (k : ℕ) → nat_lt k 0 ≡ false
      no-less k = grind (arith, nat_tests)

  pub replay-runs : (net : Net th) → NetLaws th net → (schedules : List (List (ℕ × Act Task))) → (end : Network th net) × (last : ℕ) × IsRun (routing_machine th net) (opening th net) 0 (replay th net schedules) end last
  replay-runs net good schedules = replayed schedules 0 (opened net good) (inl refl) (λ t c h lives. omega (arith, none-below (net.script c)))
