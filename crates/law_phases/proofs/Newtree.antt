-- The turns of a phase on another tree make nothing, or begin it.
use Rattle.std.proofs.Common.{◌≡◌, ℕ, ◌≤◌, ◌<◌, ◌==◌, true, ◌&&◌, cond, List, [], ◌∷◌, inl, inr, map, slice_get, Option, Some, None, refl, sym, ap, subst, ◌∙◌, arith, eq-eqb, ne_eqb}
use Rattle.base.proofs.Numbers.{Same, Is, Not, compare}
use Rattle.law_machine.specs.Machine.{Machine, Input, Does, Receives, Outcome, Stamped, Act, Entry, unstamped, act_of, act_phase}
use Rattle.law_machine.specs.Network.{NetworkState, IsAvailable, IsStep, entry_at}
use Rattle.law_machine.specs.Runs.{IsReady, IsQuiet, IsThrough, MachineLaws}
use Rattle.law_machine.specs.History.{Moment as OneMoment, network_step}
use Rattle.law_machine.specs.Walk.{with_default, entry_of_phase as of_phase_one, entry_in as in_one, entries_by as entries_one, moment_by as moment_one}
use Rattle.law_machine.proofs.Phases.{get-end}
use Rattle.law_machine.proofs.Tried.{Entered, entry-step, Goes, entry-goes, entries-run}
use Rattle.law_routing.specs.Theory.{Theory}
use Rattle.law_routing.specs.Net.{PhasedCommand}
use Rattle.law_routing.specs.Server.{ServerState}
use Rattle.law_routing.specs.Routing.{Network, NetEntry, not_below, all_through}
use Rattle.law_routing.specs.Change.{on_tree}
use Rattle.law_routing.proofs.Laws.{machine-laws}
use Rattle.law_phases.specs.Trees.{State, off, entry_on, entry_off, trees_by, PhasedNet, tree_at, net_at, machine_at, at_phase}
use Rattle.law_phases.specs.Moments.{Moment, begun, as_found, acted}
use Rattle.law_phases.specs.Runs.{ActFinds, IsPhasedRun, Turn}
use Rattle.law_phases.specs.Turns.{off_maybe, entry_made}
use Rattle.law_phases.specs.Walk.{entry_of_phase, entry_in, moment_next, entries_by, moment_by}
use Rattle.law_phases.proofs.Nets.{phase-one}
use Rattle.law_phases.proofs.Moments.{now}
use Rattle.law_phases.proofs.Onetree.{up, run-here, Tried, tried}

-- where all is quiet no entry is possible but a command
pub none-quiet : (m : Machine) → MachineLaws m → (w : NetworkState m) (t : ℕ) (a : Act m.Task) (e : Entry m) → IsQuiet m w → act_phase m t (w.state t) a ≡ None → entry_at m w t a ≡ Some e → ⊥
none-quiet m laws w t a e quiet f g = go (entry-step m w t a e g)
  where
    task : (b : m.Task) (r : Outcome m.State m.Message) → m.step e.server (w.state e.server) (Does b) ≡ Some r → m.phase e.server (w.state e.server) b ≡ None → ⊥
    task b r f g = absurd (grind (arith, laws.table_update e.server (w.state e.server) b r f g, quiet.calm e.server (laws.among e.server (w.state e.server) (Does b) r f)))

    by : (d : Input m.Task (Stamped m.Message)) (r : Outcome m.State m.Message) → IsAvailable m w e.server d → m.step e.server (w.state e.server) (unstamped m d) ≡ Some r → act_phase m e.server (w.state e.server) (act_of m d) ≡ None → ⊥
    by (Does b) r given made n = task b r made n
    by (Receives u x) r given made n = get-end (w.put u e.server) x (subst (λ z. slice_get (w.put u e.server) z ≡ Some x) (quiet.empty u e.server) given)

    go : Entered m w t a e → ⊥
    go x = by x.step.0 x.step.1 x.step.4 x.step.2 (ap (act_phase m e.server (w.state e.server)) (sym (ap (λ (z : Entry m). z.act) x.step.3)) ∙ (ap (λ z. act_phase m z (w.state z) e.act) x.server ∙ (ap (act_phase m t (w.state t)) x.act ∙ f)))

never : (m : Machine) → MachineLaws m → (w : NetworkState m) (t : ℕ) (a : Act m.Task) → IsQuiet m w → act_phase m t (w.state t) a ≡ None → entry_at m w t a ≡ None
never m laws w t a quiet f = go (entry_at m w t a) refl
  where
    go : (o : Option (Entry m)) → entry_at m w t a ≡ o → entry_at m w t a ≡ None
    go None e = e
    go (Some x) e = absurd (none-quiet m laws w t a x quiet f e)

-- counts of commands make a server through, whatever the tree
pub through-one : (th : Theory) (net : PhasedNet th) (a b : ℕ) (s s' : ServerState th) (k : ℕ) (cs : List ℕ) → s.done ≡ s'.done → all_through th (net_at th net a) s k cs ≡ all_through th (net_at th net b) s' k cs
through-one th net a b s s' k [] e = refl
through-one th net a b s s' k (c ∷ cs) e = (λ i. one i && through-one th net a b s s' k cs e i)
  where
    same : (o : Option (PhasedCommand th)) → not_below th (net_at th net a) k o ≡ not_below th (net_at th net b) k o
    same None = refl
    same (Some x) = refl

    one : not_below th (net_at th net a) k (slice_get (net.script c) (s.done c)) ≡ not_below th (net_at th net b) k (slice_get (net.script c) (s'.done c))
    one = same (slice_get (net.script c) (s.done c)) ∙ ap (λ z. not_below th (net_at th net b) k (slice_get (net.script c) (z c))) e

-- a phase on another tree, from a quiet moment that has come through the lower ones
module _ (th : Theory) (net : PhasedNet th) (s : State th) (p k : ℕ) (apart : trees_by net.later p ≡ trees_by net.later k → ⊥) (less : p < k) (through : IsThrough (machine_at th net p) (at_phase th net p s) k) (quiet : IsQuiet (machine_at th net p) (at_phase th net p s)) where
  abbrev pub moved : Network th (net_at th net k)
  moved = on_tree th (net_at th net p) (tree_at th net k).links (tree_at th net k).hop (at_phase th net p s)

  abbrev w : OneMoment (machine_at th net k)
  w = record { network = moved; phase = k }

  begun-is : begun th net p k s ≡ off th (net_at th net k) moved
  begun-is = ap (λ z. cond z (off th (net_at th net p) (Rattle.law_machine.specs.Runs.raised (machine_at th net p) (at_phase th net p s))) (off th (net_at th net k) moved)) (ne_eqb (trees_by net.later p) (trees_by net.later k) apart)

  found-is : as_found th net (now th net s p) (Some k) ≡ up th net k w
  found-is = ap (λ z. cond z (now th net s p) (now th net (begun th net p k s) k)) (ne_eqb p k (λ e. omega (arith, e, less))) ∙ ap (λ z. now th net z k) begun-is

  moved-quiet : IsQuiet (machine_at th net k) moved
  moved-quiet = record { empty = λ a b. refl; calm = λ t h. refl }

  own-is : (t : Turn) → act_phase (machine_at th net p) t.0 (s.state t.0) t.1 ≡ act_phase (machine_at th net k) t.0 (moved.state t.0) t.1
  own-is t = phase-one th net p k t.0 (s.state t.0) (moved.state t.0) t.1 refl

  in-new : (t : Turn) → entry_in th net k (now th net s p) t ≡ off_maybe th (net_at th net k) (in_one (machine_at th net k) k w t)
  in-new t = go (act_phase (machine_at th net k) t.0 (moved.state t.0) t.1) refl (own-is t)
    where
      at-k : entry_of_phase th net k (now th net s p) t (Some k) ≡ off_maybe th (net_at th net k) (of_phase_one (machine_at th net k) k w t.0 t.1 (Some k))
      at-k =
          let yes : (k == k) ≡ true = eq-eqb k k refl in
          let here : Rattle.law_machine.specs.History.as_found (machine_at th net k) w (Some k) ≡ w = ap (λ z. cond z w (record { network = Rattle.law_machine.specs.Runs.raised (machine_at th net k) moved; phase = k })) yes in
          ap (λ z. cond z (entry_made th net (as_found th net (now th net s p) (Some k)) t) None) yes
          ∙ (ap (λ (z : Moment th net). entry_made th net z t) found-is
          ∙ (ap (λ (z : OneMoment (machine_at th net k)). off_maybe th (net_at th net k) (entry_at (machine_at th net k) z.network t.0 t.1)) (sym here)
          ∙ sym (ap (λ z. off_maybe th (net_at th net k) (cond z (entry_at (machine_at th net k) (Rattle.law_machine.specs.History.as_found (machine_at th net k) w (Some k)).network t.0 t.1) None)) yes)))

      some : (j : ℕ) → Same j k → entry_of_phase th net k (now th net s p) t (Some j) ≡ off_maybe th (net_at th net k) (of_phase_one (machine_at th net k) k w t.0 t.1 (Some j))
      some j (Is q v) = subst (λ z. entry_of_phase th net k (now th net s p) t (Some z) ≡ off_maybe th (net_at th net k) (of_phase_one (machine_at th net k) k w t.0 t.1 (Some z))) (sym q) at-k
      some j (Not n v) =
          ap (λ z. cond z (entry_made th net (as_found th net (now th net s p) (Some j)) t) None) v
          ∙ sym (ap (λ z. off_maybe th (net_at th net k) (cond z (entry_at (machine_at th net k) (Rattle.law_machine.specs.History.as_found (machine_at th net k) w (Some j)).network t.0 t.1) None)) v)

      none : act_phase (machine_at th net k) t.0 (moved.state t.0) t.1 ≡ None → act_phase (machine_at th net p) t.0 (s.state t.0) t.1 ≡ act_phase (machine_at th net k) t.0 (moved.state t.0) t.1
          → entry_of_phase th net k (now th net s p) t None ≡ off_maybe th (net_at th net k) (of_phase_one (machine_at th net k) k w t.0 t.1 None)
      none e g =
          ap (off_maybe th (net_at th net p)) (never (machine_at th net p) (machine-laws th (net_at th net p)) (at_phase th net p s) t.0 t.1 quiet (g ∙ e))
          ∙ sym (ap (off_maybe th (net_at th net k)) (never (machine_at th net k) (machine-laws th (net_at th net k)) moved t.0 t.1 moved-quiet e))

      go : (o : Option ℕ) → act_phase (machine_at th net k) t.0 (moved.state t.0) t.1 ≡ o → act_phase (machine_at th net p) t.0 (s.state t.0) t.1 ≡ act_phase (machine_at th net k) t.0 (moved.state t.0) t.1
          → entry_in th net k (now th net s p) t ≡ off_maybe th (net_at th net k) (in_one (machine_at th net k) k w t)
      go None e g = ap (entry_of_phase th net k (now th net s p) t) (g ∙ e) ∙ (none e g ∙ sym (ap (λ z. off_maybe th (net_at th net k) (of_phase_one (machine_at th net k) k w t.0 t.1 z)) e))
      go (Some j) e g = ap (entry_of_phase th net k (now th net s p) t) (g ∙ e) ∙ (some j (compare j k) ∙ sym (ap (λ z. off_maybe th (net_at th net k) (of_phase_one (machine_at th net k) k w t.0 t.1 z)) e))

  -- an entry of a turn is a command of the phase
  own-command : (t : Turn) (x : NetEntry th (net_at th net k)) → in_one (machine_at th net k) k w t ≡ Some x → act_phase (machine_at th net k) x.server (moved.state x.server) x.act ≡ Some k
  own-command t x q = go (act_phase (machine_at th net k) t.0 (moved.state t.0) t.1) refl
    where
      told : (o : Option ℕ) → act_phase (machine_at th net k) t.0 (moved.state t.0) t.1 ≡ o → (x.server ≡ t.0) × (x.act ≡ t.1) → act_phase (machine_at th net k) x.server (moved.state x.server) x.act ≡ o
      told o e y = ap (λ z. act_phase (machine_at th net k) z (moved.state z) x.act) y.0 ∙ (ap (act_phase (machine_at th net k) t.0 (moved.state t.0)) y.1 ∙ e)

      nothing : None ≡ Some x → ⊥
      nothing e = cc

      go : (o : Option ℕ) → act_phase (machine_at th net k) t.0 (moved.state t.0) t.1 ≡ o → act_phase (machine_at th net k) x.server (moved.state x.server) x.act ≡ Some k
      go None e = absurd (nothing (sym (never (machine_at th net k) (machine-laws th (net_at th net k)) moved t.0 t.1 moved-quiet e) ∙ (ap (of_phase_one (machine_at th net k) k w t.0 t.1) (sym e) ∙ q)))
      go (Some j) e = by (compare j k)
        where
          is : of_phase_one (machine_at th net k) k w t.0 t.1 (Some j) ≡ Some x
          is = ap (of_phase_one (machine_at th net k) k w t.0 t.1) (sym e) ∙ q

          by : Same j k → act_phase (machine_at th net k) x.server (moved.state x.server) x.act ≡ Some k
          by (Not n v) = absurd (nothing (sym (ap (λ z. cond z (entry_at (machine_at th net k) (Rattle.law_machine.specs.History.as_found (machine_at th net k) w (Some j)).network t.0 t.1) None) v) ∙ is))
          by (Is a v) =
              let e' = entry-step (machine_at th net k) (Rattle.law_machine.specs.History.as_found (machine_at th net k) w (Some j)).network t.0 t.1 x (sym (ap (λ z. cond z (entry_at (machine_at th net k) (Rattle.law_machine.specs.History.as_found (machine_at th net k) w (Some j)).network t.0 t.1) None) v) ∙ is) in
              told (Some j) e (e'.server, e'.act) ∙ ap Some a

  -- the turns of the phase make nothing, or begin it
  pub data New (turns : List Turn) : Type 0 where
    Nothing_made : entries_by th net k (now th net s p) turns ≡ [] → moment_by th net k (now th net s p) turns ≡ now th net s p → moment_one (machine_at th net k) k w turns ≡ w → New turns
    Begun_by : IsPhasedRun th net s p (entries_by th net k (now th net s p) turns) (up th net k (moment_one (machine_at th net k) k w turns)).state (moment_one (machine_at th net k) k w turns).phase
        → moment_by th net k (now th net s p) turns ≡ up th net k (moment_one (machine_at th net k) k w turns) → trees_by net.later k ≡ trees_by net.later (moment_one (machine_at th net k) k w turns).phase → (moment_one (machine_at th net k) k w turns).phase ≤ k → New turns

  pub new-turns : (turns : List Turn) → New turns
  new-turns [] = Nothing_made refl refl refl
  new-turns (t ∷ turns) = go (in_one (machine_at th net k) k w t) refl (new-turns turns)
    where
      M : Moment th net
      M = now th net s p

      go : (o : Option (NetEntry th (net_at th net k))) → in_one (machine_at th net k) k w t ≡ o → New turns → New (t ∷ turns)
      go None q ih = by ih
        where
          none : entry_in th net k (now th net s p) t ≡ None
          none = in-new t ∙ ap (off_maybe th (net_at th net k)) q

          entries : entries_by th net k (now th net s p) (t ∷ turns) ≡ entries_by th net k (now th net s p) turns
          entries = ap (λ z. with_default z (λ y. y ∷ entries_by th net k (moment_next th net (now th net s p) y) turns) (entries_by th net k (now th net s p) turns)) none

          moment : moment_by th net k (now th net s p) (t ∷ turns) ≡ moment_by th net k (now th net s p) turns
          moment = ap (λ z. with_default z (λ y. moment_by th net k (moment_next th net (now th net s p) y) turns) (moment_by th net k (now th net s p) turns)) none

          one : moment_one (machine_at th net k) k w (t ∷ turns) ≡ moment_one (machine_at th net k) k w turns
          one = ap (λ z. with_default z (λ y. moment_one (machine_at th net k) k (network_step (machine_at th net k) w y) turns) (moment_one (machine_at th net k) k w turns)) q

          by : New turns → New (t ∷ turns)
          by (Nothing_made a b c) = Nothing_made (entries ∙ a) (moment ∙ b) (one ∙ c)
          by (Begun_by r b c d) =
              Begun_by (subst (λ z. IsPhasedRun th net s p z (up th net k (moment_one (machine_at th net k) k w (t ∷ turns))).state (moment_one (machine_at th net k) k w (t ∷ turns)).phase) (sym entries) (subst (λ z. IsPhasedRun th net s p (entries_by th net k (now th net s p) turns) (up th net k z).state z.phase) (sym one) r))
              (moment ∙ (b ∙ ap (up th net k) (sym one))) (c ∙ ap (λ (z : OneMoment (machine_at th net k)). trees_by net.later z.phase) (sym one)) (omega (arith, d, ap (λ (z : OneMoment (machine_at th net k)). z.phase) one))
      go (Some x) q ih =
          Begun_by (subst (λ z. IsPhasedRun th net s p z (up th net k (moment_one (machine_at th net k) k w (t ∷ turns))).state (moment_one (machine_at th net k) k w (t ∷ turns)).phase) (sym entries) (subst (λ z. IsPhasedRun th net s p (entry_off th (net_at th net k) x ∷ map (entry_off th (net_at th net k)) (entries_one (machine_at th net k) k v turns)) (up th net k z).state z.phase) (sym one) whole))
          moment (ts.here ∙ ap (λ (z : OneMoment (machine_at th net k)). trees_by net.later z.phase) (sym one)) (omega (arith, ts.low, ap (λ (z : OneMoment (machine_at th net k)). z.phase) one))
        where
          v : OneMoment (machine_at th net k)
          v = network_step (machine_at th net k) w x

          own : act_phase (machine_at th net k) x.server (moved.state x.server) x.act ≡ Some k
          own = own-command t x q

          goes : Goes (machine_at th net k) k w x
          goes = entry-goes (machine_at th net k) (machine-laws th (net_at th net k)) k w t.0 t.1 x (inl refl) q

          ready : (goes.found ≡ moved) × (k ≡ v.phase)
          ready = by (subst (λ z. IsReady (machine_at th net k) moved k z goes.found v.phase) own goes.ready)
            where
              by : IsReady (machine_at th net k) moved k (Some k) goes.found (network_step (machine_at th net k) w x).phase → (goes.found ≡ moved) × (k ≡ v.phase)
              by (a, inl b) = (sym b.1, a)
              by (a, inr b) = absurd (omega (arith, b.0))

          ts : Tried th net k k v turns
          ts = tried th net k k turns v goes.walkable (ap (trees_by net.later) ready.1) refl

          after : moment_next th net (now th net s p) (entry_off th (net_at th net k) x) ≡ up th net k v
          after =
              ap (λ z. acted th net (as_found th net (now th net s p) z) (entry_off th (net_at th net k) x)) (phase-one th net p k x.server (s.state x.server) (moved.state x.server) x.act refl ∙ own)
              ∙ (ap (λ (z : Moment th net). acted th net z (entry_off th (net_at th net k) x)) found-is
              ∙ (ap (λ z. up th net k (Rattle.law_machine.specs.History.acted (machine_at th net k) z x)) (sym (ap (λ z. cond z w (record { network = Rattle.law_machine.specs.Runs.raised (machine_at th net k) moved; phase = k })) (eq-eqb k k refl)))
              ∙ ap (λ z. up th net k (Rattle.law_machine.specs.History.acted (machine_at th net k) (Rattle.law_machine.specs.History.as_found (machine_at th net k) w z) x)) (sym own)))

          some : entry_in th net k (now th net s p) t ≡ Some (entry_off th (net_at th net k) x)
          some = in-new t ∙ ap (off_maybe th (net_at th net k)) q

          entries : entries_by th net k (now th net s p) (t ∷ turns) ≡ entry_off th (net_at th net k) x ∷ map (entry_off th (net_at th net k)) (entries_one (machine_at th net k) k v turns)
          entries = ap (λ z. with_default z (λ y. y ∷ entries_by th net k (moment_next th net (now th net s p) y) turns) (entries_by th net k (now th net s p) turns)) some
              ∙ (ap (λ (z : Moment th net). entry_off th (net_at th net k) x ∷ entries_by th net k z turns) after ∙ ap (λ z. entry_off th (net_at th net k) x ∷ z) ts.entries)

          one : moment_one (machine_at th net k) k w (t ∷ turns) ≡ moment_one (machine_at th net k) k v turns
          one = ap (λ z. with_default z (λ y. moment_one (machine_at th net k) k (network_step (machine_at th net k) w y) turns) (moment_one (machine_at th net k) k w turns)) q

          moment : moment_by th net k (now th net s p) (t ∷ turns) ≡ up th net k (moment_one (machine_at th net k) k w (t ∷ turns))
          moment = ap (λ z. with_default z (λ y. moment_by th net k (moment_next th net (now th net s p) y) turns) (moment_by th net k (now th net s p) turns)) some
              ∙ (ap (λ (z : Moment th net). moment_by th net k z turns) after ∙ (ts.moment ∙ ap (up th net k) (sym one)))

          whole : IsPhasedRun th net s p (entry_off th (net_at th net k) x ∷ map (entry_off th (net_at th net k)) (entries_one (machine_at th net k) k v turns)) (up th net k (moment_one (machine_at th net k) k v turns)).state (moment_one (machine_at th net k) k v turns).phase
          whole = (
            off th (net_at th net k) moved,
            off th (net_at th net k) v.network,
            v.phase,
            subst (λ z. ActFinds th net s p z (off th (net_at th net k) moved) v.phase) (sym (phase-one th net p k x.server (s.state x.server) (moved.state x.server) x.act refl ∙ own)) (ready.1, inr (less, through, quiet, begun-is)),
            subst (λ z. IsStep (machine_at th net z) (at_phase th net z (off th (net_at th net k) moved)) (entry_on th (net_at th net z) (entry_off th (net_at th net k) x)) (at_phase th net z (off th (net_at th net k) v.network))) ready.1 (subst (λ z. IsStep (machine_at th net k) z x v.network) ready.0 goes.step),
            run-here th net k v.network v.phase (entries_one (machine_at th net k) k v turns) (moment_one (machine_at th net k) k v turns).network (moment_one (machine_at th net k) k v turns).phase (entries-run (machine_at th net k) (machine-laws th (net_at th net k)) k turns v goes.walkable).0 (ap (trees_by net.later) ready.1) ts.here,
          )
