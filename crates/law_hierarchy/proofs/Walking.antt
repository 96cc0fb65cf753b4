-- The walk goes on from every run of a hierarchy as a legal run, and ends drained.
use Rattle.std.proofs.Common.{◌≡◌, ℕ, zero, suc, ◌+◌, ◌*◌, ◌-◌, ◌≤◌, ◌<◌, ◌==◌, nat_lt, Bool, true, false, cond, List, [], ◌∷◌, ◌++◌, ◌⊎◌, inl, inr, length, map, slice_get, Option, Some, None, refl, sym, ap, subst, ◌∙◌, arith, mul-le-mul_right, le-leb, eq-eqb}
use Rattle.base.specs.Sets.{Has}
use Rattle.base_tree.specs.Hops.{side_size}
use Rattle.law_machine.specs.Machine.{Act, Did, Received, act_phase}
use Rattle.law_machine.specs.Runs.{IsQuiet, IsThrough, IsRun, IsWithinPuts}
use Rattle.law_machine.specs.History.{Moment}
use Rattle.law_machine.specs.Load.{load, pending_count, receptions, commands}
use Rattle.law_machine.specs.Walk.{entries_by, moment_by, repeated, IsIdle, IsWalkable, IsPlan, work_left, walk_phases}
use Rattle.law_machine.proofs.Phases.{run-append}
use Rattle.law_machine.proofs.Runs.{counted, within-left}
use Rattle.law_machine.proofs.Walks.{walk-ends}
use Rattle.law_machine.proofs.Tried.{entries-run}
use Rattle.law_machine.proofs.Rounds.{moment-append, IsPhaseless, phaseless-rounds}
use Rattle.law_routing.specs.Theory.{Theory, TheoryLaws}
use Rattle.law_routing.specs.Net.{Net, PhasedCommand}
use Rattle.law_routing.specs.Clients.{commands_below}
use Rattle.law_routing.specs.Step.{Task, NextCommand, TableUpdate}
use Rattle.law_routing.specs.Routing.{routing_machine, all_commands, not_below, all_through}
use Rattle.law_routing.specs.Rest.{IsDrained}
use Rattle.law_routing.specs.Walk.{round_at, walk_round, client_turns, command_turns, enough_rounds, walk_turns}
use Rattle.law_routing.specs.LegalRun.{states as peer_states, phases as peer_phases}
use Rattle.law_routing.proofs.Started.{history, ends, last-phase}
use Rattle.law_routing.proofs.Idle.{idle-quiet}
use Rattle.law_routing.proofs.Scripts.{upto-count, below-rises}
use Rattle.law_routing.proofs.Begins.{begun, phase-rises}
use Rattle.law_routing.proofs.Current.{done-rising}
use Rattle.law_routing.proofs.Started.{starts}
use Rattle.law_routing.proofs.Drained.{drained-run}
use Rattle.law_routing.proofs.Commanded.{done-more, clients-done}
use Rattle.law_hierarchy.specs.Masters.{HierarchyLaws}
use Rattle.law_hierarchy.specs.Step.{hierarchy_machine, Hierarchy, HierarchyEntry, opening, measure, as_peers}
use Rattle.law_hierarchy.specs.HierarchyRun.{HierarchyRun, IsDrainedRun}
use Rattle.law_hierarchy.specs.Walk.{walk_of}
use Rattle.law_hierarchy.proofs.Wide.{wide, wide-laws}
use Rattle.law_hierarchy.proofs.Listener.{listener, peers, peers-laws, wide-script, wide-length, wide-below, wide-has, listens, other, lives-in, in-lives}
use Rattle.law_hierarchy.proofs.Local.{machine-laws}
use Rattle.law_hierarchy.proofs.Networks.{quiet-on, quiet-off, through-on}
use Rattle.law_hierarchy.proofs.Listened.{peer-run, carried, h}
use Rattle.law_hierarchy.proofs.Spread.{measure-laws, no-load, none-pending, less-remain}
use Rattle.law_hierarchy.proofs.Told.{kept}
use Rattle.law_hierarchy.proofs.Turns.{outcome-none, AlikeTimes, turns-alike, walkable-on}
use Rattle.std.proofs.lemmas.Bool.{cases_lt}
use Rattle.base.proofs.Sets.{has-append, has-map}

module _ (th : Theory) (net : Net th) where
  -- rounds are no commands
  round-phaseless : (ts : List ℕ) → IsPhaseless (hierarchy_machine th net) (round_at th net ts)
  round-phaseless [] x h s = absurd h
  round-phaseless (t ∷ ts) x h s = go (has-append x (map (λ u. (t, Received u)) (net.links t)) ((t, Did TableUpdate) ∷ round_at th net ts) h) (λ i. round-phaseless ts x i s)
    where
      go : Has x (map (λ u. (t, Received u)) (net.links t)) ⊎ Has x ((t, Did TableUpdate) ∷ round_at th net ts) → (Has x (round_at th net ts) → act_phase (hierarchy_machine th net) x.0 s x.1 ≡ None) → act_phase (hierarchy_machine th net) x.0 s x.1 ≡ None
      go (inl i) ih = let y = has-map (λ u. (t, Received u)) (net.links t) x i in ap (λ (z : ℕ × Act Task). act_phase (hierarchy_machine th net) z.0 s z.1) y.2
      go (inr (inl e)) ih = ap (λ (z : ℕ × Act Task). act_phase (hierarchy_machine th net) z.0 s z.1) e
      go (inr (inr i)) ih = ih i

  plan-append : (size : ℕ → ℕ → ℕ) (xs ys : List (ℕ × Act Task)) → IsPlan (hierarchy_machine th net) (measure th net size) xs → IsPlan (hierarchy_machine th net) (measure th net size) ys → IsPlan (hierarchy_machine th net) (measure th net size) (xs ++ ys)
  plan-append size [] ys p q = q
  plan-append size (x ∷ xs) ys p q = (p.0, plan-append size xs ys p.1 q)

  took-plan : (size : ℕ → ℕ → ℕ) (t : ℕ) (us : List ℕ) → IsPlan (hierarchy_machine th net) (measure th net size) (map (λ u. (t, Received u)) us)
  took-plan size t [] = tt
  took-plan size t (u ∷ us) = (tt, took-plan size t us)

  round-plan : (size : ℕ → ℕ → ℕ) (ts : List ℕ) → IsPlan (hierarchy_machine th net) (measure th net size) (round_at th net ts)
  round-plan size [] = tt
  round-plan size (t ∷ ts) = plan-append size (map (λ u. (t, Received u)) (net.links t)) ((t, Did TableUpdate) ∷ round_at th net ts) (took-plan size t (net.links t)) (refl, round-plan size ts)

  -- the turns of the peers
  round-same : (ts : List ℕ) → round_at (wide th) (peers th net) ts ≡ round_at th net ts
  round-same [] = refl
  round-same (t ∷ ts) = ap (λ z. map (λ u. (t, Received u)) (net.links t) ++ ((t, Did TableUpdate) ∷ z)) (round-same ts)

  repeated-same : (n : ℕ) (turns : List (ℕ × Act Task)) → repeated (routing_machine (wide th) (peers th net)) n turns ≡ repeated (routing_machine th net) n turns
  repeated-same zero turns = refl
  repeated-same (suc n) turns = ap (λ z. turns ++ z) (repeated-same n turns)

  rounds-own : (n : ℕ) (turns : List (ℕ × Act Task)) → repeated (hierarchy_machine th net) n turns ≡ repeated (routing_machine th net) n turns
  rounds-own zero turns = refl
  rounds-own (suc n) turns = ap (λ z. turns ++ z) (rounds-own n turns)

  client-turns-same : (t : ℕ) (cs : List ℕ) → ((c : ℕ) → Has c cs → (c == listener th net) ≡ false) → client_turns (wide th) (peers th net) t cs ≡ client_turns th net t cs
  client-turns-same t [] own = refl
  client-turns-same t (c ∷ cs) own =
      (λ i. repeated (routing_machine (wide th) (peers th net)) (length (script i)) ((t, Did (NextCommand c)) ∷ []) ++ client-turns-same t cs (λ x h. own x (inr h)) i)
      ∙ ap (λ z. z ++ client_turns th net t cs) (ap (λ z. repeated (routing_machine (wide th) (peers th net)) z ((t, Did (NextCommand c)) ∷ [])) (wide-length th net [] (net.script c)) ∙ repeated-same (length (net.script c)) ((t, Did (NextCommand c)) ∷ []))
    where
      script : (peers th net).script c ≡ wide-script th net [] (net.script c)
      script = ap (λ z. cond z (listens th net) (wide-script th net [] (net.script c))) (own c (inl refl))

module _ (th : Theory) (laws : TheoryLaws th) (net : Net th) (good : HierarchyLaws th net) where
  abbrev At : Type 0
  At = Moment (hierarchy_machine th net)

  abbrev At' : Type 0
  At' = Moment (routing_machine (wide th) (peers th net))

  abbrev IsThroughBelow : ℕ → Hierarchy th net → Type 0
  IsThroughBelow k w = (t c : ℕ) → Has t net.servers → Has c (net.clients t) → commands_below th k (net.script c) ≤ (w.state t).done c

  done-is : (s : At) (s' : At') → AlikeTimes th laws net good s s' → (t c : ℕ) → Has c (net.clients t) → (s'.network.state t).done c ≡ (s.network.state t).done c
  done-is s s' a t c lives = (a.network.state t).done c ∙ ap (λ z. cond z 1 ((s.network.state t).done c)) (other th net good t c lives)

  script-is : (k t c : ℕ) → Has c (net.clients t) → commands_below (wide th) (suc k) ((peers th net).script c) ≡ commands_below th k (net.script c)
  script-is k t c lives = ap (λ z. commands_below (wide th) (suc k) (cond z (listens th net) (wide-script th net [] (net.script c)))) (other th net good t c lives) ∙ wide-below th net k [] (net.script c)

  module _ (k : ℕ) where
    walk-after : (turns : List (ℕ × Act Task)) (s : At) → IsWalkable (hierarchy_machine th net) k s → IsWalkable (hierarchy_machine th net) k (moment_by (hierarchy_machine th net) k s turns)
    walk-after turns s walk = (entries-run (hierarchy_machine th net) (machine-laws th net) k turns s walk).1

    more-done : (turns : List (ℕ × Act Task)) (s : At) (s' : At') → AlikeTimes th laws net good s s' → IsWalkable (hierarchy_machine th net) k s → (t c : ℕ) → Has c (net.clients t) → (s.network.state t).done c ≤ ((moment_by (hierarchy_machine th net) k s turns).network.state t).done c
    more-done turns s s' a walk t c lives =
        omega (
          arith,
          done-more (wide th) (peers th net) (peers-laws th net good) (suc k) turns s' (walkable-on th laws net good k s s' a walk) t c,
          done-is s s' a t c lives,
          done-is (moment_by (hierarchy_machine th net) k s turns) (moment_by (routing_machine (wide th) (peers th net)) (suc k) s' turns) (turns-alike th laws net good k turns s s' a) t c lives,
        )

    clients-through : (s : At) (s' : At') → AlikeTimes th laws net good s s' → IsWalkable (hierarchy_machine th net) k s → (t : ℕ) → Has t net.servers → ((c : ℕ) → Has c (net.clients t) → commands_below th k (net.script c) ≤ (s.network.state t).done c)
        → (c : ℕ) → Has c (net.clients t) → commands_below th (suc k) (net.script c) ≤ ((moment_by (hierarchy_machine th net) k s (client_turns th net t (net.clients t))).network.state t).done c
    clients-through s s' a walk t here low c lives =
        omega (
          arith,
          script-is (suc k) t c lives,
          done-is (moment_by (hierarchy_machine th net) k s (client_turns th net t (net.clients t))) (moment_by (routing_machine (wide th) (peers th net)) (suc k) s' (client_turns th net t (net.clients t))) (turns-alike th laws net good k (client_turns th net t (net.clients t)) s s' a) t c lives,
          subst (λ z. commands_below (wide th) (suc (suc k)) ((peers th net).script c) ≤ ((moment_by (routing_machine (wide th) (peers th net)) (suc k) s' z).network.state t).done c) (client-turns-same th net t (net.clients t) (λ x i. other th net good t x i))
              (clients-done (wide th) (peers th net) (peers-laws th net good) (suc k) (net.clients t) s' (walkable-on th laws net good k s s' a walk) t here (λ x i. in-lives th net good t x i) low' c lives),
        )
      where
        low' : (x : ℕ) → Has x ((peers th net).clients t) → commands_below (wide th) (suc k) ((peers th net).script x) ≤ (s'.network.state t).done x
        low' x i = elim (lives-in th net good t x i) [ inl j ↦ omega (arith, low x j, script-is k t x j, done-is s s' a t x j) | inr e ↦ listening x e.1 ]
          where
            listening : (x : ℕ) → x ≡ listener th net → commands_below (wide th) (suc k) ((peers th net).script x) ≤ (s'.network.state t).done x
            listening x e =
                let v : (x == listener th net) ≡ true = eq-eqb x (listener th net) e in
                omega (arith, ap (λ z. commands_below (wide th) (suc k) (cond z (listens th net) (wide-script th net [] (net.script x)))) v, one (nat_lt 0 (suc k)), (a.network.state t).done x, ap (λ z. cond z 1 ((s.network.state t).done x)) v)
              where
                one : (b : Bool) → cond b 1 0 ≤ 1
                one true = omega arith
                one false = omega arith

    servers-through : (ts : List ℕ) (s : At) (s' : At') → AlikeTimes th laws net good s s' → IsWalkable (hierarchy_machine th net) k s → ((t : ℕ) → Has t ts → Has t net.servers) → IsThroughBelow k s.network
        → (t c : ℕ) → Has t ts → Has c (net.clients t) → commands_below th (suc k) (net.script c) ≤ ((moment_by (hierarchy_machine th net) k s (command_turns th net ts)).network.state t).done c
    servers-through [] s s' a walk of low t c h lives = absurd h
    servers-through (x ∷ ts) s s' a walk of low t c h lives =
        let first = client_turns th net x (net.clients x) in
        let v = moment_by (hierarchy_machine th net) k s first in
        let v' = moment_by (routing_machine (wide th) (peers th net)) (suc k) s' first in
        let b = turns-alike th laws net good k first s s' a in
        let walk' = walk-after first s walk in
        subst (λ (z : At). commands_below th (suc k) (net.script c) ≤ (z.network.state t).done c) (sym (moment-append (hierarchy_machine th net) k first (command_turns th net ts) s))
        (elim h [
          | inl e ↦ subst (λ z. commands_below th (suc k) (net.script c) ≤ ((moment_by (hierarchy_machine th net) k v (command_turns th net ts)).network.state z).done c) (sym e)
              (omega (arith, clients-through s s' a walk x (of x (inl refl)) (λ z j. low x z (of x (inl refl)) j) c (subst (λ z. Has c (net.clients z)) e lives), more-done (command_turns th net ts) v v' b walk' x c (subst (λ z. Has c (net.clients z)) e lives)))
          | inr i ↦ servers-through ts v v' b walk' (λ z j. of z (inr j)) (λ z d j l. omega (arith, low z d j l, more-done first s s' a walk z d l)) t c i lives
        ])

  -- counts as the machine asks
  through-of : (k : ℕ) (w : Hierarchy th net) → IsThroughBelow k w → IsThrough (hierarchy_machine th net) w k
  through-of k w counts t here = all (net.clients t) (λ c i. i)
    where
      one : (c : ℕ) → Has c (net.clients t) → (o : Option (PhasedCommand th)) → slice_get (net.script c) ((w.state t).done c) ≡ o → not_below th net k o ≡ true
      one c lives None f = refl
      one c lives (Some y) f = le-leb k y.phase (go (cases_lt k (suc y.phase)))
        where
          go : (k < suc y.phase) ⊎ (suc y.phase ≤ k) → k ≤ y.phase
          go (inl l) = omega (arith, l)
          go (inr l) = absurd (omega (arith, counts t c here lives, below-rises th (suc y.phase) k (net.script c) l, upto-count th y.phase (net.script c) ((w.state t).done c) y (good.lawful.phased c) f (omega arith)))

      all : (cs : List ℕ) → ((c : ℕ) → Has c cs → Has c (net.clients t)) → all_through th net (w.state t) k cs ≡ true
      all [] of = refl
      all (c ∷ cs) of = rw (one c (of c (inl refl)) (slice_get (net.script c) ((w.state t).done c)) refl) (all cs (λ z i. of z (inr i)))

-- a run that goes on
abbrev pub extended : (th : Theory) (run : HierarchyRun th) (es : List (HierarchyEntry th run.net)) (end : Hierarchy th run.net) (last : ℕ) → IsRun (hierarchy_machine th run.net) run.end run.last es end last → HierarchyRun th
extended th run es end last more = record {
  net = run.net;
  laws = run.laws;
  journal = run.journal ++ es;
  end = end;
  last = last;
  legal = run-append (hierarchy_machine th run.net) (opening th run.net) 0 run.journal run.end run.last es end last run.legal more;
}

module _ (th : Theory) (laws : TheoryLaws th) (run : HierarchyRun th) where
  abbrev here : Moment (hierarchy_machine th run.net)
  here = record { network = run.end; phase = run.last }

  abbrev here' : Moment (routing_machine (wide th) (peers th run.net))
  here' = record { network = (carried th laws run).end'; phase = suc run.last }

  here-alike : AlikeTimes th laws run.net run.laws here here'
  here-alike = record { network = (carried th laws run).alike; phase = refl }

  idle-on : (plan : List (ℕ × Act Task)) → IsIdle (hierarchy_machine th run.net) run.end plan → IsIdle (routing_machine (wide th) (peers th run.net)) (carried th laws run).end' plan
  idle-on [] i = tt
  idle-on (x ∷ plan) i = (outcome-none th laws run.net run.laws run.end (carried th laws run).end' (carried th laws run).alike x.0 x.1 i.0, idle-on plan i.1)

  -- where no act of a round is possible all is quiet
  pub idle-end : IsIdle (hierarchy_machine th run.net) run.end (walk_round th run.net) → IsQuiet (hierarchy_machine th run.net) run.end
  idle-end i =
      quiet-off th laws run.net run.laws run.end (carried th laws run).end' (carried th laws run).alike
      (subst (IsQuiet (routing_machine (wide th) (peers th run.net))) (ends (wide th) (wide-laws th laws) (peer-run th laws run))
      (idle-quiet (wide th) (wide-laws th laws) (peer-run th laws run) (length (peer-run th laws run).journal)
      (subst (λ z. IsIdle (routing_machine (wide th) (peers th run.net)) z (walk_round (wide th) (peers th run.net))) (sym (ends (wide th) (wide-laws th laws) (peer-run th laws run)))
      (subst (IsIdle (routing_machine (wide th) (peers th run.net)) (carried th laws run).end') (sym (round-same th run.net run.net.servers)) (idle-on (walk_round th run.net) i)))))

  -- the work that is left at a run's end is less than enough rounds
  few-left : work_left (hierarchy_machine th run.net) (measure th run.net (side_size run.net.hop run.net.servers)) run.end < enough_rounds th run.net
  few-left =
      let m = hierarchy_machine th run.net in
      let k = measure th run.net (side_size run.net.hop run.net.servers) in
      let spread = measure-laws th laws run.net run.laws.lawful in
      let within : IsWithinPuts (hierarchy_machine th run.net) (opening th run.net) = λ a b. omega arith in
      let c = counted m k spread (opening th run.net) 0 run.journal run.end run.last run.legal within in
      let r = within-left m k spread (opening th run.net) 0 run.journal run.end run.last run.legal in
      let less : commands m k run.journal ≤ all_commands th run.net = omega (arith, r, less-remain th laws run) in
      let most : commands m k run.journal * (length run.net.servers * length run.net.servers) ≤ all_commands th run.net * (length run.net.servers * length run.net.servers) = mul-le-mul_right (length run.net.servers * length run.net.servers) less in
      small (load m k run.end) (pending_count m k run.end) (receptions m k run.journal) (commands m k run.journal) (all_commands th run.net) (length run.net.servers * length run.net.servers) (commands m k run.journal * (length run.net.servers * length run.net.servers)) (all_commands th run.net * (length run.net.servers * length run.net.servers))
      (omega (arith, c.0, no-load th laws run)) (omega (arith, c.1, none-pending th laws run)) less most refl
    where
      small : (l s t c all n cn an : ℕ) → t + l ≤ cn → s ≤ t + c → c ≤ all → cn ≤ an → an ≡ all * n → 2 * l + s < suc (3 * (all * (n + 1)))
      small l s t c all n cn an a b d e f = let g : all * (n + 1) ≡ all * n + all = omega arith in omega (arith, a, b, d, e, f, g)

  -- a run has executed all commands of the phases below its last
  last-through : IsThroughBelow th laws run.net run.laws run.last run.end
  last-through t c i lives =
      let x = peer-run th laws run in
      let n = length x.journal in
      let b = begun (wide th) (wide-laws th laws) x.net x.laws x.journal (peer_states (wide th) x) (peer_phases (wide th) x) (history (wide th) (wide-laws th laws) x) x.begins.rest (starts (wide th) (wide-laws th laws) x) x.laws.phased n in
      let up = phase-rises (wide th) (wide-laws th laws) x.net x.laws x.journal (peer_states (wide th) x) (peer_phases (wide th) x) (history (wide th) (wide-laws th laws) x) x.begins.rest (starts (wide th) (wide-laws th laws) x) x.laws.phased n in
      let grows = done-rising (wide th) (wide-laws th laws) x.net x.laws x.journal (peer_states (wide th) x) (peer_phases (wide th) x) (history (wide th) (wide-laws th laws) x) x.begins.rest (starts (wide th) (wide-laws th laws) x) x.laws.phased t c b.at n b.before in
      omega (
        arith,
        b.through t c i (in-lives th run.net run.laws t c lives),
        grows,
        below-rises (wide th) (peer_phases (wide th) x n) (peer_phases (wide th) x (suc n)) (x.net.script c) up,
        ap (λ (z : Rattle.law_routing.specs.Routing.Network (wide th) (peers th run.net)). (z.state t).done c) (ends (wide th) (wide-laws th laws) x),
        ap (λ z. commands_below (wide th) z (x.net.script c)) (last-phase (wide th) (wide-laws th laws) x),
        script-is th laws run.net run.laws run.last t c lives,
        done-is th laws run.net run.laws here here' here-alike t c lives,
      )

  -- a run that is quiet and through with all phases is drained
  pub drained-through : (phases : ℕ) → ((c : ℕ) (x : PhasedCommand th) → Has x (run.net.script c) → x.phase < phases) → IsQuiet (hierarchy_machine th run.net) run.end → IsThrough (hierarchy_machine th run.net) run.end phases → IsDrainedRun th run
  drained-through phases all quiet through =
      let x = peer-run th laws run in
      let d = drained-run (wide th) (wide-laws th laws) x (suc phases) all' (quiet-on th laws run.net run.laws run.end x.end (carried th laws run).alike quiet) (through-on th laws run.net run.laws run.end x.end (carried th laws run).alike phases through) in
      record {
        quiet = record { empty = quiet.empty; calm = quiet.calm };
        taken = λ t c lives. sym (done-is th laws run.net run.laws here here' here-alike t c lives) ∙ (d.taken t c (in-lives th run.net run.laws t c lives) ∙ (ap (λ z. length (cond z (listens th run.net) (wide-script th run.net [] (run.net.script c)))) (other th run.net run.laws t c lives) ∙ wide-length th run.net [] (run.net.script c)));
      }
    where
      all' : (c : ℕ) (x : PhasedCommand (wide th)) → Has x (cond (c == listener th run.net) (listens th run.net) (wide-script th run.net [] (run.net.script c))) → x.phase < suc phases
      all' c x = go (c == listener th run.net)
        where
          go : (b : Bool) → Has x (cond b (listens th run.net) (wide-script th run.net [] (run.net.script c))) → x.phase < suc phases
          go true (inl e) = omega (arith, ap (λ (z : PhasedCommand (wide th)). z.phase) e)
          go true (inr h) = absurd h
          go false h = let r = wide-has th run.net [] (run.net.script c) x h in omega (arith, r.2, all c r.0 r.1)

-- after the rounds all is quiet
module _ (th : Theory) (laws : TheoryLaws th) where
  abbrev At-end : (run : HierarchyRun th) → Moment (hierarchy_machine th run.net)
  At-end run = record { network = run.end; phase = run.last }

  abbrev quiet-turns : (net : Net th) → List (ℕ × Act Task)
  quiet-turns net = repeated (routing_machine th net) (enough_rounds th net) (walk_round th net)

  rounds-quiet : (run : HierarchyRun th) (k : ℕ) → IsWalkable (hierarchy_machine th run.net) k (At-end run) → IsQuiet (hierarchy_machine th run.net) (moment_by (hierarchy_machine th run.net) k (At-end run) (quiet-turns run.net)).network
  rounds-quiet run k walk = idle-end th laws more idle
    where
      more : HierarchyRun th
      more = extended th run (entries_by (hierarchy_machine th run.net) k (At-end run) (quiet-turns run.net)) (moment_by (hierarchy_machine th run.net) k (At-end run) (quiet-turns run.net)).network (moment_by (hierarchy_machine th run.net) k (At-end run) (quiet-turns run.net)).phase (entries-run (hierarchy_machine th run.net) (machine-laws th run.net) k (quiet-turns run.net) (At-end run) walk).0

      idle : IsIdle (hierarchy_machine th run.net) (moment_by (hierarchy_machine th run.net) k (At-end run) (repeated (routing_machine th run.net) (enough_rounds th run.net) (walk_round th run.net))).network (walk_round th run.net)
      idle = subst (λ (z : Moment (hierarchy_machine th run.net)). IsIdle (hierarchy_machine th run.net) z.network (walk_round th run.net))
          (sym (ap (moment_by (hierarchy_machine th run.net) k (At-end run)) (sym (rounds-own th run.net (enough_rounds th run.net) (walk_round th run.net))) ∙ phaseless-rounds (hierarchy_machine th run.net) k (enough_rounds th run.net) (walk_round th run.net) (At-end run) (round-phaseless th run.net run.net.servers)))
          (walk-ends (hierarchy_machine th run.net) (measure th run.net (side_size run.net.hop run.net.servers)) (measure-laws th laws run.net run.laws.lawful) (enough_rounds th run.net) run.end (walk_round th run.net) (kept th laws run).0 (round-plan th run.net (side_size run.net.hop run.net.servers) run.net.servers) (few-left th laws run))

  abbrev Through : (run : HierarchyRun th) → ℕ → Hierarchy th run.net → Type 0
  Through run k w = (t c : ℕ) → Has t run.net.servers → Has c (run.net.clients t) → commands_below th k (run.net.script c) ≤ (w.state t).done c

  -- one phase
  abbrev phase-end : (run : HierarchyRun th) → ℕ → Moment (hierarchy_machine th run.net)
  phase-end run k = moment_by (hierarchy_machine th run.net) k (At-end run) (walk_turns th run.net)

  record Phase (run : HierarchyRun th) (k : ℕ) : Type 0 where
    legal : IsRun (hierarchy_machine th run.net) run.end run.last (entries_by (hierarchy_machine th run.net) k (At-end run) (walk_turns th run.net)) (phase-end run k).network (phase-end run k).phase
    quiet : IsQuiet (hierarchy_machine th run.net) (phase-end run k).network
    through : Through run (suc k) (phase-end run k).network
    walkable : IsWalkable (hierarchy_machine th run.net) (suc k) (phase-end run k)

  phase-walked : (run : HierarchyRun th) (k : ℕ) → IsWalkable (hierarchy_machine th run.net) k (At-end run) → Through run k run.end → Phase run k
  phase-walked run k walk counts = record { legal = whole.0; quiet = quiet; through = through; walkable = inr (later whole.1, through-of th laws run.net run.laws (suc k) (phase-end run k).network through, quiet) }
    where
      asked : List (ℕ × Act Task)
      asked = command_turns th run.net run.net.servers

      whole : IsRun (hierarchy_machine th run.net) run.end run.last (entries_by (hierarchy_machine th run.net) k (At-end run) (walk_turns th run.net)) (phase-end run k).network (phase-end run k).phase × IsWalkable (hierarchy_machine th run.net) k (phase-end run k)
      whole = entries-run (hierarchy_machine th run.net) (machine-laws th run.net) k (walk_turns th run.net) (At-end run) walk

      later : IsWalkable (hierarchy_machine th run.net) k (phase-end run k) → (phase-end run k).phase < suc k
      later (inl e) = omega (arith, e)
      later (inr w) = omega (arith, w.0)

      middle-run : IsRun (hierarchy_machine th run.net) run.end run.last (entries_by (hierarchy_machine th run.net) k (At-end run) (command_turns th run.net run.net.servers)) (moment_by (hierarchy_machine th run.net) k (At-end run) (command_turns th run.net run.net.servers)).network (moment_by (hierarchy_machine th run.net) k (At-end run) (command_turns th run.net run.net.servers)).phase
          × IsWalkable (hierarchy_machine th run.net) k (moment_by (hierarchy_machine th run.net) k (At-end run) (command_turns th run.net run.net.servers))
      middle-run = entries-run (hierarchy_machine th run.net) (machine-laws th run.net) k (command_turns th run.net run.net.servers) (At-end run) walk

      joined : phase-end run k ≡ moment_by (hierarchy_machine th run.net) k (moment_by (hierarchy_machine th run.net) k (At-end run) (command_turns th run.net run.net.servers)) (quiet-turns run.net)
      joined = moment-append (hierarchy_machine th run.net) k (command_turns th run.net run.net.servers) (quiet-turns run.net) (At-end run)

      quiet : IsQuiet (hierarchy_machine th run.net) (phase-end run k).network
      quiet = subst (λ (z : Moment (hierarchy_machine th run.net)). IsQuiet (hierarchy_machine th run.net) z.network) (sym joined)
          (rounds-quiet (extended th run (entries_by (hierarchy_machine th run.net) k (At-end run) (command_turns th run.net run.net.servers)) (moment_by (hierarchy_machine th run.net) k (At-end run) (command_turns th run.net run.net.servers)).network (moment_by (hierarchy_machine th run.net) k (At-end run) (command_turns th run.net run.net.servers)).phase middle-run.0) k middle-run.1)

      alike : AlikeTimes th laws run.net run.laws (At-end run) (here' th laws run)
      alike = record { network = (carried th laws run).alike; phase = refl }

      through : Through run (suc k) (phase-end run k).network
      through t c h lives = subst (λ (z : Moment (hierarchy_machine th run.net)). commands_below th (suc k) (run.net.script c) ≤ (z.network.state t).done c) (sym joined)
          (omega (
            arith,
            servers-through th laws run.net run.laws k run.net.servers (At-end run) (here' th laws run) alike walk (λ z i. i) counts t c h lives,
            more-done th laws run.net run.laws k (quiet-turns run.net) (moment_by (hierarchy_machine th run.net) k (At-end run) (command_turns th run.net run.net.servers)) (moment_by (routing_machine (wide th) (peers th run.net)) (suc k) (here' th laws run) (command_turns th run.net run.net.servers)) (turns-alike th laws run.net run.laws k (command_turns th run.net run.net.servers) (At-end run) (here' th laws run) alike) middle-run.1 t c lives,
          ))

  -- all phases
  record Ended (run : HierarchyRun th) (k n : ℕ) : Type 0 where
    end : Hierarchy th run.net
    last : ℕ
    legal : IsRun (hierarchy_machine th run.net) run.end run.last (walk_phases (hierarchy_machine th run.net) (walk_turns th run.net) n k (At-end run)) end last
    quiet : IsQuiet (hierarchy_machine th run.net) end
    through : Through run (k + n) end

  phases-walked : (n k : ℕ) (run : HierarchyRun th) → IsWalkable (hierarchy_machine th run.net) k (At-end run) → Through run k run.end → (n ≡ 0 → IsQuiet (hierarchy_machine th run.net) run.end) → Ended run k n
  phases-walked zero k run walk counts quiet = record { end = run.end; last = run.last; legal = (refl, refl); quiet = quiet refl; through = λ t c h lives. subst (λ z. commands_below th z (run.net.script c) ≤ (run.end.state t).done c) (more k) (counts t c h lives) }
    where
      more : (k : ℕ) → k ≡ k + 0
      more k = omega arith
  phases-walked (suc n) k run walk counts quiet =
      let p = phase-walked run k walk counts in
      let after = phase-end run k in
      let es = entries_by (hierarchy_machine th run.net) k (At-end run) (walk_turns th run.net) in
      let ih = phases-walked n (suc k) (extended th run es after.network after.phase p.legal) p.walkable p.through (λ e. p.quiet) in
      record {
        end = ih.end;
        last = ih.last;
        legal = run-append (hierarchy_machine th run.net) run.end run.last es after.network after.phase (walk_phases (hierarchy_machine th run.net) (walk_turns th run.net) n (suc k) after) ih.end ih.last p.legal ih.legal;
        quiet = ih.quiet;
        through = λ t c h lives. subst (λ z. commands_below th z (run.net.script c) ≤ (ih.end.state t).done c) (next k n) (ih.through t c h lives);
      }
    where
      next : (k n : ℕ) → suc k + n ≡ k + suc n
      next k n = omega arith

  -- the walk goes on from a run as a legal run, and ends drained
  pub walk-drains : (run : HierarchyRun th) (phases : ℕ) → ((c : ℕ) (x : PhasedCommand th) → Has x (run.net.script c) → x.phase < phases) → run.last < phases
      → (end : Hierarchy th run.net) × (last : ℕ) × IsRun (hierarchy_machine th run.net) run.end run.last (walk_of th run.net phases (record { network = run.end; phase = run.last })) end last × IsDrained th run.net (as_peers th run.net end)
  walk-drains run phases all more =
      let x = phases-walked (phases - run.last) run.last run (inl refl) (last-through th laws run) (λ e. absurd (omega (arith, e, more))) in
      let run' = extended th run (walk_phases (hierarchy_machine th run.net) (walk_turns th run.net) (phases - run.last) run.last (At-end run)) x.end x.last x.legal in
      let through : Through run phases x.end = λ t c h lives. subst (λ z. commands_below th z (run.net.script c) ≤ (x.end.state t).done c) (sum run.last phases more) (x.through t c h lives) in
      (x.end, x.last, x.legal, drained-through th laws run' phases all x.quiet (through-of th laws run.net run.laws phases x.end through))
    where
      sum : (a b : ℕ) → a < b → a + (b - a) ≡ b
      sum a b l = omega (arith, l)

-- the run that has done nothing yet
abbrev pub opened : (th : Theory) (net : Net th) → HierarchyLaws th net → HierarchyRun th
opened th net good = record { net = net; laws = good; journal = []; end = opening th net; last = 0; legal = (refl, refl) }
