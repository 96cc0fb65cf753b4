-- The walk over trees goes on from each run as a legal run, and ends drained.
use Rattle.std.proofs.Common.{◌≡◌, ℕ, zero, suc, ◌+◌, ◌-◌, ◌≤◌, ◌<◌, List, [], ◌++◌, ◌⊎◌, inl, inr, length, refl, sym, ap, subst, ◌∙◌, arith}
use Rattle.base.specs.Sets.{Has}
use Rattle.base.proofs.Numbers.{Same, Is, Not, compare}
use Rattle.law_machine.specs.Runs.{IsQuiet, IsThrough}
use Rattle.law_machine.specs.History.{Moment as OneMoment}
use Rattle.law_machine.specs.Walk.{entries_by as entries_one, moment_by as moment_one, IsWalkable}
use Rattle.law_routing.specs.Theory.{Theory, TheoryLaws}
use Rattle.law_routing.specs.Net.{Net, PhasedCommand}
use Rattle.law_routing.specs.Clients.{commands_below}
use Rattle.law_routing.specs.Routing.{routing_machine, Network}
use Rattle.law_routing.specs.Rest.{IsDrained}
use Rattle.law_routing.specs.LegalRun.{LegalRun, states as states_of, phases as phases_of}
use Rattle.law_routing.specs.Walk.{walk_turns}
use Rattle.law_routing.proofs.Started.{history, ends, last-phase, starts}
use Rattle.law_routing.proofs.Scripts.{below-rises}
use Rattle.law_routing.proofs.Begins.{begun as begun-by, phase-rises}
use Rattle.law_routing.proofs.Current.{done-rising}
use Rattle.law_routing.proofs.Drained.{drained-run}
use Rattle.law_routing.proofs.Walked.{Phase, phase-walked}
use Rattle.law_phases.specs.Trees.{JournalEntry, State, on, off, trees_by, net_at, machine_at, at_phase}
use Rattle.law_phases.specs.Moments.{Moment, opening_moment}
use Rattle.law_phases.specs.Runs.{IsPhasedRun, PhasedRun, Turn}
use Rattle.law_phases.specs.Walk.{entries_by, moment_by, walk_phases, walk_of}
use Rattle.law_phases.proofs.Nets.{net-one, net-laws}
use Rattle.law_phases.proofs.Moments.{now, run-append}
use Rattle.law_phases.proofs.Pieces.{anew}
use Rattle.law_phases.proofs.Whole.{piece, last-run, last-net}
use Rattle.law_phases.proofs.Onetree.{up, run-here, Tried, tried}
use Rattle.law_phases.proofs.Newtree.{through-one, moved, New, Nothing_made, Begun_by, new-turns}

-- phase by phase
module _ (th : Theory) (laws : TheoryLaws th) where
  abbrev here : (run : PhasedRun th) → Moment th run.net
  here run = now th run.net run.end run.last

  -- the commands of the phases below this one are executed
  abbrev IsThroughBelow : PhasedRun th → ℕ → State th → Type 0
  IsThroughBelow run k s = (t c : ℕ) → Has t run.net.servers → Has c (run.net.clients t) → commands_below th k (run.net.script c) ≤ (s.state t).done c

  -- a phase may be walked
  abbrev CanWalk : PhasedRun th → ℕ → Type 0
  CanWalk run k = (run.last ≡ k) ⊎ ((run.last < k) × IsThrough (machine_at th run.net run.last) (at_phase th run.net run.last run.end) k × IsQuiet (machine_at th run.net run.last) (at_phase th run.net run.last run.end))

  -- a phase is walked by these turns
  pub record WalkedPhase (run : PhasedRun th) (k : ℕ) (turns : List Turn) : Type 0 where
    pub legal : IsPhasedRun th run.net run.end run.last (entries_by th run.net k (here run) turns) (moment_by th run.net k (here run) turns).state (moment_by th run.net k (here run) turns).phase
    pub quiet : IsQuiet (machine_at th run.net (moment_by th run.net k (here run) turns).phase) (at_phase th run.net (moment_by th run.net k (here run) turns).phase (moment_by th run.net k (here run) turns).state)
    pub through : IsThrough (machine_at th run.net (moment_by th run.net k (here run) turns).phase) (at_phase th run.net (moment_by th run.net k (here run) turns).phase (moment_by th run.net k (here run) turns).state) (suc k)
    pub counts : IsThroughBelow run (suc k) (moment_by th run.net k (here run) turns).state
    pub low : (moment_by th run.net k (here run) turns).phase ≤ k

  -- on the tree in force
  phase-same : (run : PhasedRun th) (k : ℕ) → trees_by run.net.later run.last ≡ trees_by run.net.later k → CanWalk run k → IsThroughBelow run k run.end → WalkedPhase run k (walk_turns th (net_at th run.net (piece th laws run).first))
  phase-same run k one walk counts = record {
    legal = subst (λ z. IsPhasedRun th run.net run.end run.last (entries_by th run.net k (here run) turns) z.state z.phase) (sym ts.moment)
        (subst (λ z. IsPhasedRun th run.net run.end run.last z (up th run.net f after).state (up th run.net f after).phase) (sym ts.entries) (run-here th run.net f w.network w.phase (entries_one (machine_at th run.net f) k w turns) after.network after.phase walked.legal e ts.here));
    quiet = at-after (λ z. IsQuiet (machine_at th run.net z.phase) (at_phase th run.net z.phase z.state)) (subst (λ (z : Net th). IsQuiet (routing_machine th z) (on th z (off th (net_at th run.net f) after.network))) same walked.quiet);
    through = at-after (λ z. IsThrough (machine_at th run.net z.phase) (at_phase th run.net z.phase z.state) (suc k)) (subst (λ (z : Net th). IsThrough (routing_machine th z) (on th z (off th (net_at th run.net f) after.network)) (suc k)) same (past walked.walkable));
    counts = at-after (λ z. IsThroughBelow run (suc k) z.state) walked.through;
    low = at-after (λ z. z.phase ≤ k) ts.low;
  }
    where
      f : ℕ
      f = (piece th laws run).first

      turns : List Turn
      turns = walk_turns th (net_at th run.net (piece th laws run).first)

      e : trees_by run.net.later (piece th laws run).first ≡ trees_by run.net.later run.last
      e = (piece th laws run).one

      w : OneMoment (machine_at th run.net (piece th laws run).first)
      w = record { network = at_phase th run.net (piece th laws run).first run.end; phase = run.last }

      walk-one : IsWalkable (machine_at th run.net (piece th laws run).first) k (record { network = at_phase th run.net (piece th laws run).first run.end; phase = run.last })
      walk-one = go walk
        where
          go : CanWalk run k → IsWalkable (machine_at th run.net (piece th laws run).first) k (record { network = at_phase th run.net (piece th laws run).first run.end; phase = run.last })
          go (inl a) = inl a
          go (inr (l, t, c)) = inr (l, subst (λ (z : Net th). IsThrough (routing_machine th z) (on th z run.end) k) (sym (last-net th laws run)) t, subst (λ (z : Net th). IsQuiet (routing_machine th z) (on th z run.end)) (sym (last-net th laws run)) c)

      walked : Phase th laws (last-run th laws run) k
      walked = phase-walked th laws (last-run th laws run) k walk-one counts

      after : OneMoment (machine_at th run.net (piece th laws run).first)
      after = moment_one (machine_at th run.net (piece th laws run).first) k w turns

      ts : Tried th run.net (piece th laws run).first k w turns
      ts = tried th run.net (piece th laws run).first k turns w walk-one e (e ∙ one)

      same : net_at th run.net (piece th laws run).first ≡ net_at th run.net after.phase
      same = net-one th run.net (piece th laws run).first after.phase ts.here

      at-after : (P : Moment th run.net → Type 0) → P (up th run.net (piece th laws run).first after) → P (moment_by th run.net k (here run) turns)
      at-after P x = subst P (sym ts.moment) x

      past : IsWalkable (machine_at th run.net (piece th laws run).first) (suc k) after → IsThrough (machine_at th run.net (piece th laws run).first) after.network (suc k)
      past (inl a) = absurd (omega (arith, a, ts.low))
      past (inr a) = a.1

  -- on another tree
  phase-new : (run : PhasedRun th) (k : ℕ) → (trees_by run.net.later run.last ≡ trees_by run.net.later k → ⊥) → run.last < k → IsThrough (machine_at th run.net run.last) (at_phase th run.net run.last run.end) k → IsQuiet (machine_at th run.net run.last) (at_phase th run.net run.last run.end)
      → IsThroughBelow run k run.end → WalkedPhase run k (walk_turns th (net_at th run.net k))
  phase-new run k apart less through quiet counts = go (new-turns th run.net run.end run.last k apart less through quiet turns)
    where
      turns : List Turn
      turns = walk_turns th (net_at th run.net k)

      on-new : Network th (net_at th run.net k)
      on-new = moved th run.net run.end run.last k apart less through quiet

      begun-there : LegalRun th
      begun-there = record {
        net = net_at th run.net k;
        laws = net-laws th run.net run.laws k;
        start = moved th run.net run.end run.last k apart less through quiet;
        first = k;
        begins = anew th laws run.net run.laws run.journal run.end run.last (piece th laws run) k (off th (net_at th run.net k) (moved th run.net run.end run.last k apart less through quiet)) less through quiet refl;
        journal = [];
        end = moved th run.net run.end run.last k apart less through quiet;
        last = k;
        legal = (refl, refl);
      }

      w : OneMoment (machine_at th run.net k)
      w = record { network = moved th run.net run.end run.last k apart less through quiet; phase = k }

      walked : Phase th laws begun-there k
      walked = phase-walked th laws begun-there k (inl refl) counts

      after : OneMoment (machine_at th run.net k)
      after = moment_one (machine_at th run.net k) k w turns

      go : New th run.net run.end run.last k apart less through quiet turns → WalkedPhase run k turns
      go (Nothing_made a b c) = record {
        legal = subst (λ z. IsPhasedRun th run.net run.end run.last z (moment_by th run.net k (here run) turns).state (moment_by th run.net k (here run) turns).phase) (sym a) (ap (λ (z : Moment th run.net). z.state) (sym b), ap (λ (z : Moment th run.net). z.phase) (sym b));
        quiet = subst (λ (z : Moment th run.net). IsQuiet (machine_at th run.net z.phase) (at_phase th run.net z.phase z.state)) (sym b) quiet;
        through = subst (λ (z : Moment th run.net). IsThrough (machine_at th run.net z.phase) (at_phase th run.net z.phase z.state) (suc k)) (sym b) (λ t h. through-one th run.net run.last k (run.end.state t) (w.network.state t) (suc k) (run.net.clients t) refl ∙ past walked.walkable t h);
        counts = λ t c h lives. subst (λ (z : Moment th run.net). commands_below th (suc k) (run.net.script c) ≤ (z.state.state t).done c) (sym b) (subst (λ (z : OneMoment (machine_at th run.net k)). commands_below th (suc k) (run.net.script c) ≤ (z.network.state t).done c) c' (walked.through t c h lives));
        low = omega (arith, less, ap (λ (z : Moment th run.net). z.phase) b);
      }
        where
          c' : moment_one (machine_at th run.net k) k w turns ≡ w
          c' = c

          past : IsWalkable (machine_at th run.net k) (suc k) after → IsThrough (machine_at th run.net k) w.network (suc k)
          past (inl x) = absurd (omega (arith, x, ap (λ (z : OneMoment (machine_at th run.net k)). z.phase) c))
          past (inr x) = subst (λ (z : OneMoment (machine_at th run.net k)). IsThrough (machine_at th run.net k) z.network (suc k)) c x.1
      go (Begun_by r b c d) = record {
        legal = subst (λ z. IsPhasedRun th run.net run.end run.last (entries_by th run.net k (here run) turns) z.state z.phase) (sym b) r;
        quiet = at-after (λ z. IsQuiet (machine_at th run.net z.phase) (at_phase th run.net z.phase z.state)) (subst (λ (z : Net th). IsQuiet (routing_machine th z) (on th z (off th (net_at th run.net k) after.network))) same walked.quiet);
        through = at-after (λ z. IsThrough (machine_at th run.net z.phase) (at_phase th run.net z.phase z.state) (suc k)) (subst (λ (z : Net th). IsThrough (routing_machine th z) (on th z (off th (net_at th run.net k) after.network)) (suc k)) same (past walked.walkable));
        counts = at-after (λ z. IsThroughBelow run (suc k) z.state) walked.through;
        low = at-after (λ z. z.phase ≤ k) d;
      }
        where
          same : net_at th run.net k ≡ net_at th run.net after.phase
          same = net-one th run.net k after.phase c

          at-after : (P : Moment th run.net → Type 0) → P (up th run.net k after) → P (moment_by th run.net k (here run) turns)
          at-after P x = subst P (sym b) x

          past : IsWalkable (machine_at th run.net k) (suc k) after → IsThrough (machine_at th run.net k) after.network (suc k)
          past (inl x) = absurd (omega (arith, x, d))
          past (inr x) = x.1

  pub walk-phase : (run : PhasedRun th) (k : ℕ) → CanWalk run k → IsThroughBelow run k run.end → WalkedPhase run k (walk_turns th (net_at th run.net k))
  walk-phase run k walk counts = go (compare (trees_by run.net.later run.last) (trees_by run.net.later k)) walk
    where
      go : Same (trees_by run.net.later run.last) (trees_by run.net.later k) → CanWalk run k → WalkedPhase run k (walk_turns th (net_at th run.net k))
      go (Is a v) walk = subst (λ (z : Net th). WalkedPhase run k (walk_turns th z)) (net-one th run.net (piece th laws run).first k ((piece th laws run).one ∙ a)) (phase-same run k a walk counts)
      go (Not n v) (inl a) = absurd (n (ap (trees_by run.net.later) a))
      go (Not n v) (inr (l, t, c)) = phase-new run k n l t c counts

  -- a run that goes on
  abbrev pub extended : (run : PhasedRun th) (es : List JournalEntry) (end : State th) (last : ℕ) → IsPhasedRun th run.net run.end run.last es end last → PhasedRun th
  extended run es end last more = record {
    net = run.net;
    laws = run.laws;
    journal = run.journal ++ es;
    end = end;
    last = last;
    legal = run-append th run.net (opening_moment th run.net).state 0 run.journal run.end run.last es end last run.legal more;
  }

  -- all phases
  pub record Ended (run : PhasedRun th) (k n : ℕ) : Type 0 where
    pub end : State th
    pub last : ℕ
    pub legal : IsPhasedRun th run.net run.end run.last (walk_phases th run.net n k (here run)) end last
    pub quiet : IsQuiet (machine_at th run.net last) (at_phase th run.net last end)
    pub through : IsThrough (machine_at th run.net last) (at_phase th run.net last end) (k + n)

  walk-phases : (n k : ℕ) (run : PhasedRun th) → CanWalk run k → IsThroughBelow run k run.end → (n ≡ 0 → IsQuiet (machine_at th run.net run.last) (at_phase th run.net run.last run.end) × IsThrough (machine_at th run.net run.last) (at_phase th run.net run.last run.end) k) → Ended run k n
  walk-phases zero k run walk counts done = record { end = run.end; last = run.last; legal = (refl, refl); quiet = (done refl).0; through = subst (IsThrough (machine_at th run.net run.last) (at_phase th run.net run.last run.end)) (more k) (done refl).1 }
    where
      more : (k : ℕ) → k ≡ k + 0
      more k = omega arith
  walk-phases (suc n) k run walk counts done =
      let p = walk-phase run k walk counts in
      let turns = walk_turns th (net_at th run.net k) in
      let after = moment_by th run.net k (here run) turns in
      let es = entries_by th run.net k (here run) turns in
      let ih = walk-phases n (suc k) (extended run es after.state after.phase p.legal) (inr (omega (arith, p.low), p.through, p.quiet)) p.counts (λ e. (p.quiet, p.through)) in
      record {
        end = ih.end;
        last = ih.last;
        legal = run-append th run.net run.end run.last es after.state after.phase (walk_phases th run.net n (suc k) after) ih.end ih.last p.legal ih.legal;
        quiet = ih.quiet;
        through = subst (IsThrough (machine_at th run.net ih.last) (at_phase th run.net ih.last ih.end)) (next k n) ih.through;
      }
    where
      next : (k n : ℕ) → suc k + n ≡ k + suc n
      next k n = omega arith

  -- a run has executed all commands of the phases below its last
  last-through : (run : PhasedRun th) → IsThroughBelow run run.last run.end
  last-through run t c h lives =
      let r = last-run th laws run in
      let n = length r.journal in
      let b = begun-by th laws r.net r.laws r.journal (states_of th r) (phases_of th r) (history th laws r) r.begins.rest (starts th laws r) r.laws.phased n in
      let rise = phase-rises th laws r.net r.laws r.journal (states_of th r) (phases_of th r) (history th laws r) r.begins.rest (starts th laws r) r.laws.phased n in
      let grow = done-rising th laws r.net r.laws r.journal (states_of th r) (phases_of th r) (history th laws r) r.begins.rest (starts th laws r) r.laws.phased t c b.at n b.before in
      omega (arith, b.through t c h lives, grow, below-rises th (phases_of th r n) (phases_of th r (suc n)) (run.net.script c) rise, ap (λ (z : Network th r.net). (z.state t).done c) (ends th laws r), ap (λ z. commands_below th z (run.net.script c)) (last-phase th laws r))

  -- quiet and through with all phases is drained
  pub drained : (run : PhasedRun th) (k : ℕ) → ((c : ℕ) (x : PhasedCommand th) → Has x (run.net.script c) → x.phase < k) → IsQuiet (machine_at th run.net run.last) (at_phase th run.net run.last run.end) → IsThrough (machine_at th run.net run.last) (at_phase th run.net run.last run.end) k
      → IsDrained th (net_at th run.net run.last) (at_phase th run.net run.last run.end)
  drained run k all quiet through =
      subst (λ (z : Net th). IsDrained th z (on th z run.end)) (last-net th laws run)
      (drained-run th laws (last-run th laws run) k all (subst (λ (z : Net th). IsQuiet (routing_machine th z) (on th z run.end)) (sym (last-net th laws run)) quiet) (subst (λ (z : Net th). IsThrough (routing_machine th z) (on th z run.end) k) (sym (last-net th laws run)) through))

  -- the walk goes on from a run as a legal run, and ends drained
  pub walk-drains : (run : PhasedRun th) (phases : ℕ) → ((c : ℕ) (x : PhasedCommand th) → Has x (run.net.script c) → x.phase < phases) → run.last < phases
      → (end : State th) × (last : ℕ) × IsPhasedRun th run.net run.end run.last (walk_of th run.net phases (record { state = run.end; phase = run.last })) end last × IsDrained th (net_at th run.net last) (at_phase th run.net last end)
  walk-drains run phases all more =
      let x = walk-phases (phases - run.last) run.last run (inl refl) (last-through run) (λ e. absurd (omega (arith, e, more))) in
      let run' = extended run (walk_phases th run.net (phases - run.last) run.last (here run)) x.end x.last x.legal in
      (x.end, x.last, x.legal, drained run' phases all x.quiet (subst (IsThrough (machine_at th run.net x.last) (at_phase th run.net x.last x.end)) (sum run.last phases more) x.through))
    where
      sum : (a b : ℕ) → a < b → a + (b - a) ≡ b
      sum a b l = omega (arith, l)
