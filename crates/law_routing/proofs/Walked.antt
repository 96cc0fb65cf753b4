-- The walk is a legal run that goes on from a legal run and ends drained.
use Rattle.std.proofs.Common.{◌≡◌, ℕ, zero, suc, ◌+◌, ◌*◌, ◌-◌, ◌≤◌, ◌<◌, true, List, [], ◌∷◌, ◌++◌, ◌⊎◌, inl, inr, length, map, slice_get, Option, Some, None, refl, sym, ap, subst, arith, mul-le-mul_right, le-leb}
use Rattle.base.specs.Sets.{Has}
use Rattle.base_tree.specs.Hops.{side_size}
use Rattle.law_machine.specs.Machine.{Act, Did, Received, act_phase}
use Rattle.law_machine.specs.Runs.{IsQuiet, IsThrough, IsRun, IsWithinPuts}
use Rattle.law_machine.specs.History.{Moment}
use Rattle.law_machine.specs.Load.{load, pending_count, receptions, commands}
use Rattle.law_machine.specs.Walk.{entries_by, moment_by, repeated, IsIdle, IsWalkable, IsPlan, work_left, walk_phases}
use Rattle.law_machine.proofs.Phases.{run-append}
use Rattle.law_machine.proofs.Runs.{counted, within-left}
use Rattle.law_machine.proofs.Walks.{walk-ends}
use Rattle.law_machine.proofs.Tried.{entries-run}
use Rattle.law_machine.proofs.Rounds.{moment-append, IsPhaseless, phaseless-rounds}
use Rattle.law_routing.specs.Theory.{Theory, TheoryLaws}
use Rattle.law_routing.specs.Net.{Net, PhasedCommand}
use Rattle.law_routing.specs.Clients.{commands_below}
use Rattle.law_routing.specs.Step.{Task, TableUpdate}
use Rattle.law_routing.specs.Routing.{routing_machine, Network, NetEntry, measure, all_commands, not_below, all_through}
use Rattle.law_routing.specs.Rest.{IsDrained}
use Rattle.law_routing.specs.LegalRun.{LegalRun, states, phases}
use Rattle.law_routing.specs.Walk.{round_at, walk_round, command_turns, enough_rounds, walk_turns, walk_of}
use Rattle.law_routing.proofs.Laws.{machine-laws}
use Rattle.law_routing.proofs.Along.{strict, tree}
use Rattle.law_routing.proofs.Spreading.{spreads}
use Rattle.law_routing.proofs.Started.{history, ends, last-phase, within-start, starts}
use Rattle.law_routing.proofs.Total.{no-load, none-pending, less-remain}
use Rattle.law_routing.proofs.Idle.{idle-quiet}
use Rattle.law_routing.proofs.Working.{within-all}
use Rattle.law_routing.proofs.Scripts.{upto-count, below-rises}
use Rattle.law_routing.proofs.Begins.{begun, phase-rises}
use Rattle.law_routing.proofs.Current.{done-rising}
use Rattle.law_routing.proofs.Drained.{drained-run}
use Rattle.law_routing.proofs.Commanded.{done-more, servers-done}
use Rattle.base.proofs.Sets.{has-append, has-map}
use Rattle.std.proofs.lemmas.Bool.{cases_lt}

-- a run that goes on
module _ (th : Theory) where
  abbrev pub extended : (run : LegalRun th) (es : List (NetEntry th run.net)) (end : Network th run.net) (last : ℕ) → IsRun (routing_machine th run.net) run.end run.last es end last → LegalRun th
  extended run es end last more = record {
    net = run.net;
    laws = run.laws;
    start = run.start;
    first = run.first;
    begins = run.begins;
    journal = run.journal ++ es;
    end = end;
    last = last;
    legal = run-append (routing_machine th run.net) run.start run.first run.journal run.end run.last es end last run.legal more;
  }

  -- rounds are no commands
  module _ (net : Net th) where
    round-phaseless : (ts : List ℕ) → IsPhaseless (routing_machine th net) (round_at th net ts)
    round-phaseless [] x h s = absurd h
    round-phaseless (t ∷ ts) x h s = go (has-append x (map (λ u. (t, Received u)) (net.links t)) ((t, Did TableUpdate) ∷ round_at th net ts) h) (λ i. round-phaseless ts x i s)
      where
        go : Has x (map (λ u. (t, Received u)) (net.links t)) ⊎ Has x ((t, Did TableUpdate) ∷ round_at th net ts) → (Has x (round_at th net ts) → act_phase (routing_machine th net) x.0 s x.1 ≡ None) → act_phase (routing_machine th net) x.0 s x.1 ≡ None
        go (inl i) ih = let y = has-map (λ u. (t, Received u)) (net.links t) x i in ap (λ (z : ℕ × Act Task). act_phase (routing_machine th net) z.0 s z.1) y.2
        go (inr (inl e)) ih = ap (λ (z : ℕ × Act Task). act_phase (routing_machine th net) z.0 s z.1) e
        go (inr (inr i)) ih = ih i

    plan-append : (size : ℕ → ℕ → ℕ) (xs ys : List (ℕ × Act Task)) → IsPlan (routing_machine th net) (measure th net size) xs → IsPlan (routing_machine th net) (measure th net size) ys → IsPlan (routing_machine th net) (measure th net size) (xs ++ ys)
    plan-append size [] ys p q = q
    plan-append size (x ∷ xs) ys p q = (p.0, plan-append size xs ys p.1 q)

    took-plan : (size : ℕ → ℕ → ℕ) (t : ℕ) (us : List ℕ) → IsPlan (routing_machine th net) (measure th net size) (map (λ u. (t, Received u)) us)
    took-plan size t [] = tt
    took-plan size t (u ∷ us) = (tt, took-plan size t us)

    round-plan : (size : ℕ → ℕ → ℕ) (ts : List ℕ) → IsPlan (routing_machine th net) (measure th net size) (round_at th net ts)
    round-plan size [] = tt
    round-plan size (t ∷ ts) = plan-append size (map (λ u. (t, Received u)) (net.links t)) ((t, Did TableUpdate) ∷ round_at th net ts) (took-plan size t (net.links t)) (refl, round-plan size ts)

module _ (th : Theory) (laws : TheoryLaws th) (run : LegalRun th) where
  abbrev m : Rattle.law_machine.specs.Machine.Machine
  m = routing_machine th run.net

  abbrev size : ℕ → ℕ → ℕ
  size = side_size run.net.hop run.net.servers

  -- the work that is left at a run's end is less than enough rounds
  pub few-left : work_left (routing_machine th run.net) (measure th run.net (side_size run.net.hop run.net.servers)) run.end < enough_rounds th run.net
  few-left =
      let k = measure th run.net size in
      let spread = spreads th (strict th laws run.net run.laws) run.net size run.laws.single (tree th laws run.net run.laws) in
      let within = within-start th run.net run.start run.first run.begins in
      let c = counted m k spread run.start run.first run.journal run.end run.last run.legal within in
      let r = within-left m k spread run.start run.first run.journal run.end run.last run.legal in
      let less : commands m k run.journal ≤ all_commands th run.net = omega (arith, r, less-remain th run.net size run.start run.first run.begins) in
      let most : commands m k run.journal * (length run.net.servers * length run.net.servers) ≤ all_commands th run.net * (length run.net.servers * length run.net.servers) = mul-le-mul_right (length run.net.servers * length run.net.servers) less in
      small (load m k run.end) (pending_count m k run.end) (receptions m k run.journal) (commands m k run.journal) (all_commands th run.net) (length run.net.servers * length run.net.servers) (commands m k run.journal * (length run.net.servers * length run.net.servers)) (all_commands th run.net * (length run.net.servers * length run.net.servers))
      (omega (arith, c.0, no-load th run.net size run.start run.first run.begins)) (omega (arith, c.1, none-pending th run.net size run.start run.first run.begins)) less most refl
    where
      small : (l s t c all n cn an : ℕ) → t + l ≤ cn → s ≤ t + c → c ≤ all → cn ≤ an → an ≡ all * n → 2 * l + s < suc (3 * (all * (n + 1)))
      small l s t c all n cn an a b d e f = let g : all * (n + 1) ≡ all * n + all = omega arith in omega (arith, a, b, d, e, f, g)

  -- after the rounds all is quiet
  pub rounds-quiet : (k : ℕ) → IsWalkable (routing_machine th run.net) k (record { network = run.end; phase = run.last })
      → IsQuiet (routing_machine th run.net) (moment_by (routing_machine th run.net) k (record { network = run.end; phase = run.last }) (repeated (routing_machine th run.net) (enough_rounds th run.net) (walk_round th run.net))).network
  rounds-quiet k walk = subst (IsQuiet m) (ends th laws more) (idle-quiet th laws more (length more.journal) (subst (λ z. IsIdle m z (walk_round th run.net)) (sym (ends th laws more)) idle))
    where
      s : Moment (routing_machine th run.net)
      s = record { network = run.end; phase = run.last }

      turns : List (ℕ × Act Task)
      turns = repeated (routing_machine th run.net) (enough_rounds th run.net) (walk_round th run.net)

      more : LegalRun th
      more = extended th run (entries_by m k s turns) (moment_by m k s turns).network (moment_by m k s turns).phase (entries-run m (machine-laws th run.net) k turns s walk).0

      within : IsWithinPuts m run.end
      within = subst (IsWithinPuts m) (ends th laws run) (within-all th run.net run.journal (states th run) (phases th run) (history th laws run) (within-start th run.net run.start run.first run.begins) (length run.journal))

      idle : IsIdle m (moment_by m k s turns).network (walk_round th run.net)
      idle = subst (λ (z : Moment m). IsIdle m z.network (walk_round th run.net)) (sym (phaseless-rounds m k (enough_rounds th run.net) (walk_round th run.net) s (round-phaseless th run.net run.net.servers)))
          (walk-ends m (measure th run.net size) (spreads th (strict th laws run.net run.laws) run.net size run.laws.single (tree th laws run.net run.laws)) (enough_rounds th run.net) run.end (walk_round th run.net) within (round-plan th run.net size run.net.servers) few-left)

-- phase by phase
module _ (th : Theory) (laws : TheoryLaws th) where
  abbrev here : (run : LegalRun th) → Moment (routing_machine th run.net)
  here run = record { network = run.end; phase = run.last }

  abbrev IsThroughBelow : (run : LegalRun th) → ℕ → Network th run.net → Type 0
  IsThroughBelow run k w = (t c : ℕ) → Has t run.net.servers → Has c (run.net.clients t) → commands_below th k (run.net.script c) ≤ (w.state t).done c

  -- counts as the machine asks
  through-of : (run : LegalRun th) (k : ℕ) (w : Network th run.net) → IsThroughBelow run k w → IsThrough (routing_machine th run.net) w k
  through-of run k w counts t h = all (run.net.clients t) (λ c i. i)
    where
      one : (c : ℕ) → Has c (run.net.clients t) → (o : Option (PhasedCommand th)) → slice_get (run.net.script c) ((w.state t).done c) ≡ o → not_below th run.net k o ≡ true
      one c lives None f = refl
      one c lives (Some y) f = le-leb k y.phase (go (cases_lt k (suc y.phase)))
        where
          go : (k < suc y.phase) ⊎ (suc y.phase ≤ k) → k ≤ y.phase
          go (inl l) = omega (arith, l)
          go (inr l) = absurd (omega (arith, counts t c h lives, low k l, upto-count th y.phase (run.net.script c) ((w.state t).done c) y (run.laws.phased c) f (omega arith)))
            where
              low : (k : ℕ) → suc y.phase ≤ k → commands_below th (suc y.phase) (run.net.script c) ≤ commands_below th k (run.net.script c)
              low k l = below-rises th (suc y.phase) k (run.net.script c) l

      all : (cs : List ℕ) → ((c : ℕ) → Has c cs → Has c (run.net.clients t)) → all_through th run.net (w.state t) k cs ≡ true
      all [] of = refl
      all (c ∷ cs) of = rw (one c (of c (inl refl)) (slice_get (run.net.script c) ((w.state t).done c)) refl) (all cs (λ z i. of z (inr i)))

  -- one phase
  pub record Phase (run : LegalRun th) (k : ℕ) : Type 0 where
    pub legal : IsRun (routing_machine th run.net) run.end run.last (entries_by (routing_machine th run.net) k (here run) (walk_turns th run.net)) (moment_by (routing_machine th run.net) k (here run) (walk_turns th run.net)).network (moment_by (routing_machine th run.net) k (here run) (walk_turns th run.net)).phase
    pub quiet : IsQuiet (routing_machine th run.net) (moment_by (routing_machine th run.net) k (here run) (walk_turns th run.net)).network
    pub through : IsThroughBelow run (suc k) (moment_by (routing_machine th run.net) k (here run) (walk_turns th run.net)).network
    pub walkable : IsWalkable (routing_machine th run.net) (suc k) (moment_by (routing_machine th run.net) k (here run) (walk_turns th run.net))

  pub phase-walked : (run : LegalRun th) (k : ℕ) → IsWalkable (routing_machine th run.net) k (here run) → IsThroughBelow run k run.end → Phase run k
  phase-walked run k walk counts = record { legal = whole.0; quiet = quiet; through = through; walkable = inr (later whole.1, through-of run (suc k) after.network through, quiet) }
    where
      after : Moment (routing_machine th run.net)
      after = moment_by (routing_machine th run.net) k (here run) (walk_turns th run.net)

      whole : IsRun (routing_machine th run.net) run.end run.last (entries_by (routing_machine th run.net) k (here run) (walk_turns th run.net)) (moment_by (routing_machine th run.net) k (here run) (walk_turns th run.net)).network (moment_by (routing_machine th run.net) k (here run) (walk_turns th run.net)).phase
          × IsWalkable (routing_machine th run.net) k (moment_by (routing_machine th run.net) k (here run) (walk_turns th run.net))
      whole = entries-run (routing_machine th run.net) (machine-laws th run.net) k (walk_turns th run.net) (here run) walk

      later : IsWalkable (routing_machine th run.net) k (moment_by (routing_machine th run.net) k (here run) (walk_turns th run.net)) → (moment_by (routing_machine th run.net) k (here run) (walk_turns th run.net)).phase < suc k
      later (inl e) = omega (arith, e)
      later (inr w) = omega (arith, w.0)

      asked : List (ℕ × Act Task)
      asked = command_turns th run.net run.net.servers

      turns : List (ℕ × Act Task)
      turns = repeated (routing_machine th run.net) (enough_rounds th run.net) (walk_round th run.net)

      middle : Moment (routing_machine th run.net)
      middle = moment_by (routing_machine th run.net) k (here run) (command_turns th run.net run.net.servers)

      middle-run : IsRun (routing_machine th run.net) run.end run.last (entries_by (routing_machine th run.net) k (here run) (command_turns th run.net run.net.servers)) (moment_by (routing_machine th run.net) k (here run) (command_turns th run.net run.net.servers)).network (moment_by (routing_machine th run.net) k (here run) (command_turns th run.net run.net.servers)).phase
          × IsWalkable (routing_machine th run.net) k (moment_by (routing_machine th run.net) k (here run) (command_turns th run.net run.net.servers))
      middle-run = entries-run (routing_machine th run.net) (machine-laws th run.net) k (command_turns th run.net run.net.servers) (here run) walk

      quiet : IsQuiet (routing_machine th run.net) (moment_by (routing_machine th run.net) k (here run) (walk_turns th run.net)).network
      quiet = subst (λ (z : Moment (routing_machine th run.net)). IsQuiet (routing_machine th run.net) z.network) (sym (moment-append (routing_machine th run.net) k (command_turns th run.net run.net.servers) (repeated (routing_machine th run.net) (enough_rounds th run.net) (walk_round th run.net)) (here run)))
          (rounds-quiet th laws (extended th run (entries_by (routing_machine th run.net) k (here run) (command_turns th run.net run.net.servers)) (moment_by (routing_machine th run.net) k (here run) (command_turns th run.net run.net.servers)).network (moment_by (routing_machine th run.net) k (here run) (command_turns th run.net run.net.servers)).phase middle-run.0) k middle-run.1)

      through : IsThroughBelow run (suc k) (moment_by (routing_machine th run.net) k (here run) (walk_turns th run.net)).network
      through t c h lives = subst (λ (z : Moment (routing_machine th run.net)). commands_below th (suc k) (run.net.script c) ≤ (z.network.state t).done c) (sym (moment-append (routing_machine th run.net) k (command_turns th run.net run.net.servers) (repeated (routing_machine th run.net) (enough_rounds th run.net) (walk_round th run.net)) (here run)))
          (omega (arith, servers-done th run.net run.laws k run.net.servers (here run) walk (λ z i. i) counts t c h lives, done-more th run.net run.laws k (repeated (routing_machine th run.net) (enough_rounds th run.net) (walk_round th run.net)) (moment_by (routing_machine th run.net) k (here run) (command_turns th run.net run.net.servers)) middle-run.1 t c))

  -- all phases
  pub record Ended (run : LegalRun th) (k n : ℕ) : Type 0 where
    pub end : Network th run.net
    pub last : ℕ
    pub legal : IsRun (routing_machine th run.net) run.end run.last (walk_phases (routing_machine th run.net) (walk_turns th run.net) n k (here run)) end last
    pub quiet : IsQuiet (routing_machine th run.net) end
    pub through : IsThroughBelow run (k + n) end

  pub phases-walked : (n k : ℕ) (run : LegalRun th) → IsWalkable (routing_machine th run.net) k (here run) → IsThroughBelow run k run.end → (n ≡ 0 → IsQuiet (routing_machine th run.net) run.end) → Ended run k n
  phases-walked zero k run walk counts quiet = record { end = run.end; last = run.last; legal = (refl, refl); quiet = quiet refl; through = λ t c h lives. subst (λ z. commands_below th z (run.net.script c) ≤ (run.end.state t).done c) (more k) (counts t c h lives) }
    where
      more : (k : ℕ) → k ≡ k + 0
      more k = omega arith
  phases-walked (suc n) k run walk counts quiet =
      let p = phase-walked run k walk counts in
      let after = moment_by (routing_machine th run.net) k (here run) (walk_turns th run.net) in
      let es = entries_by (routing_machine th run.net) k (here run) (walk_turns th run.net) in
      let ih = phases-walked n (suc k) (extended th run es after.network after.phase p.legal) p.walkable p.through (λ e. p.quiet) in
      record {
        end = ih.end;
        last = ih.last;
        legal = run-append (routing_machine th run.net) run.end run.last es after.network after.phase (walk_phases (routing_machine th run.net) (walk_turns th run.net) n (suc k) after) ih.end ih.last p.legal ih.legal;
        quiet = ih.quiet;
        through = λ t c h lives. subst (λ z. commands_below th z (run.net.script c) ≤ (ih.end.state t).done c) (next k n) (ih.through t c h lives);
      }
    where
      next : (k n : ℕ) → suc k + n ≡ k + suc n
      next k n = omega arith

  -- a run has executed all commands of the phases below its last
  last-through : (run : LegalRun th) → IsThroughBelow run run.last run.end
  last-through run t c h lives =
      let n = length run.journal in
      let b = begun th laws run.net run.laws run.journal (states th run) (phases th run) (history th laws run) run.begins.rest (starts th laws run) run.laws.phased n in
      let up = phase-rises th laws run.net run.laws run.journal (states th run) (phases th run) (history th laws run) run.begins.rest (starts th laws run) run.laws.phased n in
      let grows = done-rising th laws run.net run.laws run.journal (states th run) (phases th run) (history th laws run) run.begins.rest (starts th laws run) run.laws.phased t c b.at n b.before in
      omega (arith, b.through t c h lives, grows, below-rises th (phases th run n) (phases th run (suc n)) (run.net.script c) up, ap (λ (z : Network th run.net). (z.state t).done c) (ends th laws run), ap (λ z. commands_below th z (run.net.script c)) (last-phase th laws run))

  -- the walk goes on from a run as a legal run, and ends drained
  pub walk-drains : (run : LegalRun th) (phases : ℕ) → ((c : ℕ) (x : PhasedCommand th) → Has x (run.net.script c) → x.phase < phases) → run.last < phases
      → (end : Network th run.net) × (last : ℕ) × IsRun (routing_machine th run.net) run.end run.last (walk_of th run.net phases (record { network = run.end; phase = run.last })) end last × IsDrained th run.net end
  walk-drains run phases all more =
      let x = phases-walked (phases - run.last) run.last run (inl refl) (last-through run) (λ e. absurd (omega (arith, e, more))) in
      let run' = extended th run (walk_phases (routing_machine th run.net) (walk_turns th run.net) (phases - run.last) run.last (here run)) x.end x.last x.legal in
      let through : IsThroughBelow run phases x.end = λ t c h lives. subst (λ z. commands_below th z (run.net.script c) ≤ (x.end.state t).done c) (sum run.last phases more) (x.through t c h lives) in
      (x.end, x.last, x.legal, drained-run th laws run' phases all x.quiet (through-of run phases x.end through))
    where
      sum : (a b : ℕ) → a < b → a + (b - a) ≡ b
      sum a b l = omega (arith, l)
