-- Counts the entries of a run over trees.
use Rattle.std.proofs.Common.{◌≡◌, ℕ, zero, suc, ◌+◌, ◌*◌, ◌-◌, ◌≤◌, false, cond, List, [], ◌∷◌, inl, inr, length, Option, Some, None, refl, sym, ap, subst, ◌∙◌, arith, mul-le-mul_right}
use Rattle.base.specs.Sets.{Has}
use Rattle.base.specs.Numbers.{sum_over, count}
use Rattle.base.proofs.Numbers.{Same, Is, Not, compare}
use Rattle.base_tree.specs.Hops.{side_size}
use Rattle.law_machine.specs.Machine.{Act, Did, Received, act_phase}
use Rattle.law_machine.specs.Network.{IsStep}
use Rattle.law_machine.specs.Runs.{raised, IsReady, IsRun, HasStampsUpTo, IsWithinPuts}
use Rattle.law_machine.specs.Load.{MeasureLaws, load, pending_count, remaining, is_reception as reception_one, is_update as version_one, is_command as command_one}
use Rattle.law_machine.proofs.Runs.{counted, counted-narrow, within-left, within-after}
use Rattle.law_machine.proofs.Stamps.{greatest-below, run-stamps}
use Rattle.law_routing.specs.Theory.{Theory, TheoryLaws}
use Rattle.law_routing.specs.Net.{Net}
use Rattle.law_routing.specs.Step.{Task, NextCommand, TableUpdate}
use Rattle.law_routing.specs.Routing.{routing_machine, measure, narrow_measure, all_commands}
use Rattle.law_routing.specs.Change.{on_tree}
use Rattle.law_routing.proofs.Along.{strict, tree}
use Rattle.law_routing.proofs.Spreading.{spreads, spreads-narrow}
use Rattle.law_routing.proofs.Total.{all-zero}
use Rattle.law_phases.specs.Trees.{JournalEntry, State, on, off, entry_on, trees_by, PhasedNet, PhasedNetLaws, tree_at, net_at, machine_at, at_phase}
use Rattle.law_phases.specs.Moments.{Moment, begun, opening_moment}
use Rattle.law_phases.specs.Runs.{ActFinds, IsPhasedRun, PhasedRun}
use Rattle.law_phases.specs.Bounds.{is_reception, is_update, is_command, receptions_in, updates_in, commands_in, KeepsBounds}
use Rattle.law_phases.proofs.Nets.{net-one, net-laws, phase-one}
use Rattle.law_phases.proofs.Moments.{now, ready-found}
use Rattle.law_phases.proofs.Entries.{found-keeps}

module _ (th : Theory) (laws : TheoryLaws th) where
  -- what is measured on the tree of a net
  abbrev load-on : Net th → State th → ℕ
  load-on z s = load (routing_machine th z) (measure th z (side_size z.hop z.servers)) (on th z s)

  abbrev narrow-on : Net th → State th → ℕ
  narrow-on z s = load (routing_machine th z) (narrow_measure th z (side_size z.hop z.servers)) (on th z s)

  abbrev pending-on : Net th → State th → ℕ
  pending-on z s = pending_count (routing_machine th z) (measure th z (side_size z.hop z.servers)) (on th z s)

  abbrev left-on : Net th → State th → ℕ
  left-on z s = remaining (routing_machine th z) (measure th z (side_size z.hop z.servers)) (on th z s)

  -- from one net and state to another nothing grows
  record Kept (n : ℕ) (z : Net th) (s : State th) (y : Net th) (x : State th) : Type 0 where
    load : load-on y x ≤ load-on z s
    narrow : narrow-on y x ≤ narrow-on z s
    pending : pending-on y x ≤ pending-on z s
    left : left-on y x ≤ left-on z s
    within : IsWithinPuts (routing_machine th y) (on th y x)
    stamps : HasStampsUpTo (routing_machine th y) n (on th y x)

  module _ (net : PhasedNet th) (good : PhasedNetLaws th net) where
    spread : (k : ℕ) → MeasureLaws (machine_at th net k) (measure th (net_at th net k) (side_size (net_at th net k).hop (net_at th net k).servers))
    spread k = spreads th (strict th laws (net_at th net k) (net-laws th net good k)) (net_at th net k) (side_size (net_at th net k).hop (net_at th net k).servers) good.single (tree th laws (net_at th net k) (net-laws th net good k))

    spread-narrow : net.adverts ≡ false → (k : ℕ) → MeasureLaws (machine_at th net k) (narrow_measure th (net_at th net k) (side_size (net_at th net k).hop (net_at th net k).servers))
    spread-narrow plain k = spreads-narrow th (strict th laws (net_at th net k) (net-laws th net good k)) (net_at th net k) plain (side_size (net_at th net k).hop (net_at th net k).servers) good.single (tree th laws (net_at th net k) (net-laws th net good k))

    -- the rule of phases
    kept : (n : ℕ) (s : State th) (p : ℕ) (o : Option ℕ) (x : State th) (q : ℕ) → ActFinds th net s p o x q → IsWithinPuts (machine_at th net p) (at_phase th net p s) → HasStampsUpTo (machine_at th net p) n (at_phase th net p s) → Kept n (net_at th net p) s (net_at th net q) x
    kept n s p o x q ready within stamps = go o ready
      where
        same : Kept n (net_at th net p) s (net_at th net p) s
        same = record { load = omega arith; narrow = omega arith; pending = omega arith; left = omega arith; within = within; stamps = stamps }

        up : State th
        up = off th (net_at th net p) (raised (machine_at th net p) (at_phase th net p s))

        moved : ℕ → State th
        moved k = off th (net_at th net k) (on_tree th (net_at th net p) (tree_at th net k).links (tree_at th net k).hop (at_phase th net p s))

        risen : Kept n (net_at th net p) s (net_at th net p) up
        risen = record { load = omega arith; narrow = omega arith; pending = omega arith; left = omega arith; within = within; stamps = record { clocks = λ t. greatest-below (machine_at th net p) n s.clock net.servers (λ u h. stamps.clocks u); puts = stamps.puts } }

        gone : (k : ℕ) → Kept n (net_at th net p) s (net_at th net k) (moved k)
        gone k = record {
          load = omega (arith, all-zero (λ u. sum_over (λ t. 0) ((net_at th net k).links u)) net.servers (λ u. all-zero (λ t. 0) ((net_at th net k).links u) (λ t. refl)));
          narrow = omega (arith, all-zero (λ u. sum_over (λ t. 0) ((net_at th net k).links u)) net.servers (λ u. all-zero (λ t. 0) ((net_at th net k).links u) (λ t. refl)));
          pending = omega (arith, all-zero (λ t. 0) net.servers (λ t. refl));
          left = omega arith;
          within = λ a b. omega arith;
          stamps = record { clocks = λ t. greatest-below (machine_at th net p) n s.clock net.servers (λ u h. stamps.clocks u); puts = λ a b y h. absurd h };
        }

        by : (k : ℕ) → Same (trees_by net.later p) (trees_by net.later k) → Kept n (net_at th net p) s (net_at th net k) (begun th net p k s)
        by k (Is e v) = subst (λ (z : State th). Kept n (net_at th net p) s (net_at th net k) z) (sym (ap (λ z. cond z up (moved k)) v)) (subst (λ (z : Net th). Kept n (net_at th net p) s z up) (net-one th net p k e) risen)
        by k (Not e v) = subst (λ (z : State th). Kept n (net_at th net p) s (net_at th net k) z) (sym (ap (λ z. cond z up (moved k)) v)) (gone k)

        go : (o : Option ℕ) → ActFinds th net s p o x q → Kept n (net_at th net p) s (net_at th net q) x
        go None (a, b) = subst (λ z. Kept n (net_at th net p) s (net_at th net z) x) b (subst (λ (z : State th). Kept n (net_at th net p) s (net_at th net p) z) a same)
        go (Some k) (h, inl (a, b)) = subst (λ z. Kept n (net_at th net p) s (net_at th net z) x) (a ∙ h) (subst (λ (z : State th). Kept n (net_at th net p) s (net_at th net p) z) b same)
        go (Some k) (h, inr (l, t, c, g)) = subst (λ z. Kept n (net_at th net p) s (net_at th net z) x) h (subst (λ (z : State th). Kept n (net_at th net p) s (net_at th net k) z) g (by k (compare (trees_by net.later p) (trees_by net.later k))))

    -- one entry, as a run on the tree of its phase
    one-run : (s : State th) (p : ℕ) (e : JournalEntry) (x v : State th) (q : ℕ) → ActFinds th net s p (act_phase (machine_at th net p) e.server (s.state e.server) e.act) x q
        → IsStep (machine_at th net q) (at_phase th net q x) (entry_on th (net_at th net q) e) (at_phase th net q v) → IsRun (machine_at th net q) (at_phase th net q x) q (entry_on th (net_at th net q) e ∷ []) (at_phase th net q v) q
    one-run s p e x v q ready step = (at_phase th net q x, at_phase th net q v, q, subst (λ z. IsReady (machine_at th net q) (at_phase th net q x) q z (at_phase th net q x) q) (sym own) (go (act_phase (machine_at th net p) e.server (s.state e.server) e.act) ready), step, (refl, refl))
      where
        done : (x.state e.server).done ≡ (s.state e.server).done
        done = sym (ap (λ (z : Moment th net). (z.state.state e.server).done) (ready-found th net s p (act_phase (machine_at th net p) e.server (s.state e.server) e.act) x q ready)) ∙ (found-keeps th net (now th net s p) (act_phase (machine_at th net p) e.server (s.state e.server) e.act) e.server).0

        own : act_phase (machine_at th net q) e.server (x.state e.server) e.act ≡ act_phase (machine_at th net p) e.server (s.state e.server) e.act
        own = phase-one th net q p e.server (x.state e.server) (s.state e.server) e.act done

        go : (o : Option ℕ) → ActFinds th net s p o x q → IsReady (machine_at th net q) (at_phase th net q x) q o (at_phase th net q x) q
        go None r = (refl, refl)
        go (Some k) (h, r) = (h, inl (sym h, refl))

    reception-same : (q : ℕ) (a : Act Task) → count (reception_one (machine_at th net q) (measure th (net_at th net q) (side_size (net_at th net q).hop (net_at th net q).servers)) a) ≡ count (is_reception a)
    reception-same q (Did b) = refl
    reception-same q (Received u) = refl

    table_update-same : (q : ℕ) (a : Act Task) → count (version_one (machine_at th net q) (measure th (net_at th net q) (side_size (net_at th net q).hop (net_at th net q).servers)) a) ≡ count (is_update a)
    table_update-same q (Did (NextCommand c)) = refl
    table_update-same q (Did TableUpdate) = refl
    table_update-same q (Received u) = refl

    command-same : (q : ℕ) (a : Act Task) → count (command_one (machine_at th net q) (measure th (net_at th net q) (side_size (net_at th net q).hop (net_at th net q).servers)) a) ≡ count (is_command a)
    command-same q (Did (NextCommand c)) = refl
    command-same q (Did TableUpdate) = refl
    command-same q (Received u) = refl

    reception-narrow : (q : ℕ) (a : Act Task) → count (reception_one (machine_at th net q) (narrow_measure th (net_at th net q) (side_size (net_at th net q).hop (net_at th net q).servers)) a) ≡ count (is_reception a)
    reception-narrow q (Did b) = refl
    reception-narrow q (Received u) = refl

    command-narrow : (q : ℕ) (a : Act Task) → count (command_one (machine_at th net q) (narrow_measure th (net_at th net q) (side_size (net_at th net q).hop (net_at th net q).servers)) a) ≡ count (is_command a)
    command-narrow q (Did (NextCommand c)) = refl
    command-narrow q (Did TableUpdate) = refl
    command-narrow q (Received u) = refl

    narrow-nums : (t t' c c' l l' n : ℕ) → t ≡ t' → c ≡ c' → (t + 0) + (c + 0) + l ≤ l' + (c + 0) * n → t' + c' + l ≤ l' + c' * n
    narrow-nums t t' c c' l l' n e f h = let g : (t' + 0) + (c' + 0) + l ≤ l' + (c' + 0) * n = subst (λ z. (z + 0) + (c' + 0) + l ≤ l' + (c' + 0) * n) e (subst (λ z. (t + 0) + (z + 0) + l ≤ l' + (z + 0) * n) f h) in omega (arith, g)

    abbrev square : ℕ
    square = length net.servers * length net.servers

    load-nums : (t t' c c' l l' n : ℕ) → t ≡ t' → c ≡ c' → (t + 0) + l ≤ l' + (c + 0) * n → t' + l ≤ l' + c' * n
    load-nums t t' c c' l l' n e f h = let g : (t' + 0) + l ≤ l' + (c' + 0) * n = subst (λ z. (z + 0) + l ≤ l' + (c' + 0) * n) e (subst (λ z. (t + 0) + l ≤ l' + (z + 0) * n) f h) in omega (arith, g)

    pending-nums : (v v' t t' c c' l l' : ℕ) → v ≡ v' → t ≡ t' → c ≡ c' → (v + 0) + l ≤ l' + ((t + 0) + (c + 0)) → v' + l ≤ l' + (t' + c')
    pending-nums v v' t t' c c' l l' e f g h = omega (arith, e, f, g, h)

    all-nums : (v v' t t' c c' : ℕ) → v ≡ v' → t ≡ t' → c ≡ c' → (t + 0) + (v + 0) + (c + 0) ≡ 1 → t' + v' + c' ≡ 1
    all-nums v v' t t' c c' e f g h = omega (arith, e, f, g, h)

    left-nums : (c c' l l' : ℕ) → c ≡ c' → (c + 0) + l ≤ l' → c' + l ≤ l'
    left-nums c c' l l' e h = omega (arith, e, h)

    record Counted (n : ℕ) (s : State th) (p : ℕ) (es : List JournalEntry) (s' : State th) (p' : ℕ) : Type 0 where
      receptions : receptions_in es + load-on (net_at th net p') s' ≤ load-on (net_at th net p) s + commands_in es * square
      narrow : net.adverts ≡ false → receptions_in es + commands_in es + narrow-on (net_at th net p') s' ≤ narrow-on (net_at th net p) s + commands_in es * length net.servers
      updates : updates_in es + pending-on (net_at th net p') s' ≤ pending-on (net_at th net p) s + (receptions_in es + commands_in es)
      all : receptions_in es + updates_in es + commands_in es ≡ length es
      left : commands_in es + left-on (net_at th net p') s' ≤ left-on (net_at th net p) s
      stamps : (e : JournalEntry) → Has e es → e.stamp ≤ n + length es
      ends : HasStampsUpTo (machine_at th net p') (n + length es) (at_phase th net p' s')

    more-by : (a b c : ℕ) → (a + b) * c ≡ a * c + b * c
    more-by a b c = omega arith

    count-all : (n : ℕ) (s : State th) (p : ℕ) (es : List JournalEntry) (s' : State th) (p' : ℕ) → IsPhasedRun th net s p es s' p' → IsWithinPuts (machine_at th net p) (at_phase th net p s) → HasStampsUpTo (machine_at th net p) n (at_phase th net p s) → Counted n s p es s' p'
    count-all n s p [] s' p' (a, b) within stamps =
        subst (λ z. Counted n s p [] s' z) b (subst (λ (z : State th). Counted n s p [] z p) a (record { receptions = omega arith; narrow = λ plain. omega arith; updates = omega arith; all = refl; left = omega arith; stamps = λ e h. absurd h; ends = subst (λ z. HasStampsUpTo (machine_at th net p) z (at_phase th net p s)) (none n) stamps }))
      where
        none : (a : ℕ) → a ≡ a + 0
        none a = omega arith
    count-all n s p (e ∷ es) s' p' (x, v, q, ready, step, rest) within stamps =
        let k = kept n s p (act_phase (machine_at th net p) e.server (s.state e.server) e.act) x q ready within stamps in
        let m = measure th (net_at th net q) (side_size (net_at th net q).hop (net_at th net q).servers) in
        let one = one-run s p e x v q ready step in
        let c = counted (machine_at th net q) m (spread q) (at_phase th net q x) q (entry_on th (net_at th net q) e ∷ []) (at_phase th net q v) q one k.within in
        let l = within-left (machine_at th net q) m (spread q) (at_phase th net q x) q (entry_on th (net_at th net q) e ∷ []) (at_phase th net q v) q one in
        let st = run-stamps (machine_at th net q) n (at_phase th net q x) q (entry_on th (net_at th net q) e ∷ []) (at_phase th net q v) q one k.stamps in
        let within-v : IsWithinPuts (machine_at th net q) (at_phase th net q v) = subst (IsWithinPuts (machine_at th net q)) step.5 (within-after (machine_at th net q) m (spread q) (at_phase th net q x) e.server step.0 step.1 k.within step.4) in
        let stamps-v : HasStampsUpTo (machine_at th net q) (suc n) (at_phase th net q v) = subst (λ z. HasStampsUpTo (machine_at th net q) z (at_phase th net q v)) (one-more n) st.0 in
        let ih = count-all (suc n) v q es s' p' rest within-v stamps-v in
        let m-reception = count (reception_one (machine_at th net q) m e.act) in
        let m-table_update = count (version_one (machine_at th net q) m e.act) in
        let m-command = count (command_one (machine_at th net q) m e.act) in
        let t = count (is_reception e.act) in
        let w = count (is_update e.act) in
        let d = count (is_command e.act) in
        let one-load : count (is_reception e.act) + load-on (net_at th net q) v ≤ load-on (net_at th net q) x + count (is_command e.act) * square = load-nums m-reception t m-command d (load-on (net_at th net q) v) (load-on (net_at th net q) x) square (reception-same q e.act) (command-same q e.act) c.0 in
        let one-pending : count (is_update e.act) + pending-on (net_at th net q) v ≤ pending-on (net_at th net q) x + (count (is_reception e.act) + count (is_command e.act)) =
        pending-nums m-table_update w m-reception t m-command d (pending-on (net_at th net q) v) (pending-on (net_at th net q) x) (table_update-same q e.act) (reception-same q e.act) (command-same q e.act) c.1 in
        let one-all : count (is_reception e.act) + count (is_update e.act) + count (is_command e.act) ≡ 1 = all-nums m-table_update w m-reception t m-command d (table_update-same q e.act) (reception-same q e.act) (command-same q e.act) c.2 in
        let one-left : count (is_command e.act) + left-on (net_at th net q) v ≤ left-on (net_at th net q) x = left-nums m-command d (left-on (net_at th net q) v) (left-on (net_at th net q) x) (command-same q e.act) l in
        record {
          receptions = omega (arith, one-load, k.load, ih.receptions, more-by (count (is_command e.act)) (commands_in es) square);
          narrow = λ plain.
              (let n = narrow_measure th (net_at th net q) (side_size (net_at th net q).hop (net_at th net q).servers) in
              let some = counted-narrow (machine_at th net q) n (spread-narrow plain q) (λ y. refl) (at_phase th net q x) q (entry_on th (net_at th net q) e ∷ []) (at_phase th net q v) q one k.within in
              let one-narrow : count (is_reception e.act) + count (is_command e.act) + narrow-on (net_at th net q) v ≤ narrow-on (net_at th net q) x + count (is_command e.act) * length net.servers =
              narrow-nums (count (reception_one (machine_at th net q) n e.act)) (count (is_reception e.act)) (count (command_one (machine_at th net q) n e.act)) (count (is_command e.act)) (narrow-on (net_at th net q) v) (narrow-on (net_at th net q) x) (length net.servers) (reception-narrow q e.act) (command-narrow q e.act) some in
              omega (arith, one-narrow, k.narrow, ih.narrow plain, more-by (count (is_command e.act)) (commands_in es) (length net.servers)));
          updates = omega (arith, one-pending, k.pending, ih.updates);
          all = omega (arith, ih.all, one-all);
          left = omega (arith, one-left, k.left, ih.left);
          ends = subst (λ z. HasStampsUpTo (machine_at th net p') z (at_phase th net p' s')) (later n (length es)) ih.ends;
          stamps = λ f h. elim h [ inl g ↦ omega (arith, ap (λ (z : JournalEntry). z.stamp) g, st.1 (entry_on th (net_at th net q) e) (inl refl)) | inr g ↦ omega (arith, ih.stamps f g) ];
        }
      where
        later : (a b : ℕ) → suc a + b ≡ a + suc b
        later a b = omega arith

        one-more : (n : ℕ) → n + 1 ≡ suc n
        one-more n = omega arith

  times : (a b c : ℕ) → a ≤ b → a * c ≤ b * c
  times a b c l = mul-le-mul_right c l

  pub bounded : (run : PhasedRun th) → KeepsBounds th run
  bounded run =
      let net = run.net in
      let z = net_at th run.net 0 in
      let s = (opening_moment th run.net).state in
      let c = count-all run.net run.laws 0 (opening_moment th run.net).state 0 run.journal run.end run.last run.legal (λ a b. omega arith) (record { clocks = λ t. omega arith; puts = λ a b y h. absurd h }) in
      let no-load : load-on (net_at th run.net 0) (opening_moment th run.net).state ≡ 0 = all-zero (λ u. sum_over (λ t. 0) ((net_at th run.net 0).links u)) run.net.servers (λ u. all-zero (λ t. 0) ((net_at th run.net 0).links u) (λ t. refl)) in
      let no-narrow : narrow-on (net_at th run.net 0) (opening_moment th run.net).state ≡ 0 = all-zero (λ u. sum_over (λ t. 0) ((net_at th run.net 0).links u)) run.net.servers (λ u. all-zero (λ t. 0) ((net_at th run.net 0).links u) (λ t. refl)) in
      let none : pending-on (net_at th run.net 0) (opening_moment th run.net).state ≡ 0 = all-zero (λ t. 0) run.net.servers (λ t. refl) in
      let less : commands_in run.journal ≤ all_commands th (net_at th run.net 0) = omega (arith, c.left) in
      let few : length run.journal ≤ 2 * (commands_in run.journal * (length run.net.servers * length run.net.servers + 1)) = entries (receptions_in run.journal) (updates_in run.journal) (commands_in run.journal) (length run.journal) (length run.net.servers * length run.net.servers) (omega (arith, c.receptions, no-load)) (omega (arith, c.updates, none)) c.all in
      record {
        receptions = omega (arith, c.receptions, no-load);
        fewer = λ plain. one-less (receptions_in run.journal) (commands_in run.journal) (length run.net.servers) (omega (arith, c.narrow plain, no-narrow));
        updates = omega (arith, c.updates, none);
        entries = few;
        commands = less;
        within = omega (arith, few, times (commands_in run.journal) (all_commands th (net_at th run.net 0)) (length run.net.servers * length run.net.servers + 1) less);
        stamps = λ e h. omega (arith, c.stamps e h);
        clocks = λ t. omega (arith, c.ends.clocks t);
        puts = λ a b y h. omega (arith, c.ends.puts a b y h);
      }
    where
      before : (n : ℕ) → suc n - 1 ≡ n
      before n = omega arith

      one-less : (r c n : ℕ) → r + c ≤ c * n → r ≤ c * (n - 1)
      one-less r c zero l = omega (arith, l)
      one-less r c (suc n) l = let g : c * suc n ≡ c * n + c = omega arith in let h : r ≤ c * n = omega (arith, g, l) in subst (λ z. r ≤ c * z) (sym (before n)) h

      entries : (t v c l n : ℕ) → t ≤ c * n → v ≤ t + c → t + v + c ≡ l → l ≤ 2 * (c * (n + 1))
      entries t v c l n a b d = let g : c * (n + 1) ≡ c * n + c = omega arith in omega (arith, a, b, d, g)
