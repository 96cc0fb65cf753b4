-- On one tree the moments, the runs and the turns over trees are those of that tree.
use Rattle.std.proofs.Common.{◌≡◌, ℕ, ◌≤◌, ◌==◌, Bool, true, false, cond, List, [], ◌∷◌, inl, inr, map, Option, Some, None, refl, sym, ap, subst, ◌∙◌, arith, eq-eqb, ◌-◌, zero, suc, ◌++◌}
use Rattle.std.proofs.lemmas.Option.{same_Some}
use Rattle.base.proofs.Numbers.{Same, Is, Not, compare}
use Rattle.law_machine.specs.Machine.{act_phase}
use Rattle.law_machine.specs.Network.{IsStep, turn, entry_at}
use Rattle.law_machine.specs.Runs.{raised, IsReady, IsQuiet, IsThrough, IsRun}
use Rattle.law_machine.specs.History.{Moment as OneMoment, moment_after as one_after, as_found as found_one, acted as acted_one, network_step}
use Rattle.law_machine.specs.Walk.{with_default, entry_of_phase as of_phase_one, entry_in as in_one, entries_by as entries_one, moment_by as moment_one, IsWalkable, walk_phases as phases_one}
use Rattle.law_machine.proofs.Tried.{Goes, entry-goes}
use Rattle.law_routing.specs.Theory.{Theory}
use Rattle.law_routing.specs.Net.{Net}
use Rattle.law_routing.specs.Routing.{routing_machine, Network, NetEntry}
use Rattle.law_routing.specs.Walk.{walk_turns, walk_of as walk_one}
use Rattle.law_routing.proofs.Laws.{machine-laws}
use Rattle.law_phases.specs.Trees.{JournalEntry, State, on, off, entry_on, entry_off, entries_on, trees_by, PhasedNet, net_at, machine_at, at_phase}
use Rattle.law_phases.specs.Moments.{Moment, begun, as_found, acted, moment_after}
use Rattle.law_phases.specs.Runs.{ActFinds, IsPhasedRun, Turn}
use Rattle.law_phases.specs.Turns.{off_maybe, entry_made}
use Rattle.law_phases.specs.Walk.{entry_of_phase, entry_in, moment_next, entries_by, moment_by, walk_phases, walk_of}
use Rattle.law_phases.proofs.Nets.{between, net-one, phase-one}
use Rattle.law_phases.proofs.Moments.{now}

module _ (th : Theory) (net : PhasedNet th) (f : ℕ) where
  -- a phase has this tree
  abbrev Here : ℕ → Type 0
  Here k = trees_by net.later f ≡ trees_by net.later k

  abbrev pub up : OneMoment (machine_at th net f) → Moment th net
  up w = record { state = off th (net_at th net f) w.network; phase = w.phase }

  begun-here : (p k : ℕ) (w : Network th (net_at th net f)) → Here p → Here k → begun th net p k (off th (net_at th net f) w) ≡ off th (net_at th net f) (raised (machine_at th net f) w)
  begun-here p k w e g =
      ap (λ z. cond z (off th (net_at th net p) (raised (machine_at th net p) (on th (net_at th net p) (off th (net_at th net f) w)))) moved) (eq-eqb (trees_by net.later p) (trees_by net.later k) (sym e ∙ g))
      ∙ ap (λ (z : Net th). off th z (raised (routing_machine th z) (on th z (off th (net_at th net f) w)))) (net-one th net p f (sym e))
    where
      moved : State th
      moved = off th (net_at th net k) (Rattle.law_routing.specs.Change.on_tree th (net_at th net p) (Rattle.law_phases.specs.Trees.tree_at th net k).links (Rattle.law_phases.specs.Trees.tree_at th net k).hop (on th (net_at th net p) (off th (net_at th net f) w)))

  found-here : (w : OneMoment (machine_at th net f)) (o : Option ℕ) → Here w.phase → ((k : ℕ) → o ≡ Some k → Here k) → as_found th net (up w) o ≡ up (found_one (machine_at th net f) w o)
  found-here w None e g = refl
  found-here w (Some k) e g = go (w.phase == k)
    where
      go : (b : Bool) → cond b (up w) (record { state = begun th net w.phase k (off th (net_at th net f) w.network); phase = k }) ≡ up (cond b w (record { network = raised (machine_at th net f) w.network; phase = k }))
      go true = refl
      go false = ap (λ z. now th net z k) (begun-here w.phase k w.network e (g k refl))

  made-here : (w : OneMoment (machine_at th net f)) (t : Turn) → Here w.phase → entry_made th net (up w) t ≡ off_maybe th (net_at th net f) (entry_at (machine_at th net f) w.network t.0 t.1)
  made-here w t e = ap (λ (z : Net th). off_maybe th z (entry_at (routing_machine th z) (on th z (off th (net_at th net f) w.network)) t.0 t.1)) (net-one th net w.phase f (sym e))

  acted-here : (w : OneMoment (machine_at th net f)) (x : NetEntry th (net_at th net f)) → Here w.phase → acted th net (up w) (entry_off th (net_at th net f) x) ≡ up (acted_one (machine_at th net f) w x)
  acted-here w x e = ap (λ (z : Net th). now th net (off th z (turn (routing_machine th z) (on th z (off th (net_at th net f) w.network)) x.server x.act)) w.phase) (net-one th net w.phase f (sym e))

  -- the entry of a turn
  pub in-here : (k : ℕ) (w : OneMoment (machine_at th net f)) (t : Turn) → Here w.phase → Here k → entry_in th net k (up w) t ≡ off_maybe th (net_at th net f) (in_one (machine_at th net f) k w t)
  in-here k w t e g = ap (entry_of_phase th net k (up w) t) (phase-one th net w.phase f t.0 (w.network.state t.0) (w.network.state t.0) t.1 refl) ∙ go (act_phase (machine_at th net f) t.0 (w.network.state t.0) t.1)
    where
      go : (o : Option ℕ) → entry_of_phase th net k (up w) t o ≡ off_maybe th (net_at th net f) (of_phase_one (machine_at th net f) k w t.0 t.1 o)
      go None = made-here w t e
      go (Some j) = by (compare j k)
        where
          phase-found : (b : Bool) → Here j → Here (cond b w (record { network = raised (machine_at th net f) w.network; phase = j })).phase
          phase-found true h = e
          phase-found false h = h

          by : Same j k → cond (j == k) (entry_made th net (as_found th net (up w) (Some j)) t) None ≡ off_maybe th (net_at th net f) (cond (j == k) (entry_at (machine_at th net f) (found_one (machine_at th net f) w (Some j)).network t.0 t.1) None)
          by (Not n v) = rw v refl
          by (Is p v) =
              let h : Here j = g ∙ ap (trees_by net.later) (sym p) in
              rw v (ap (λ (z : Moment th net). entry_made th net z t) (found-here w (Some j) e (λ i q. g ∙ ap (trees_by net.later) (sym p ∙ same_Some _ _ q))) ∙ made-here (found_one (machine_at th net f) w (Some j)) t (phase-found (w.phase == j) h))

  -- the moment after an entry
  pub next-here : (w : OneMoment (machine_at th net f)) (x : NetEntry th (net_at th net f)) (found : Network th (net_at th net f)) → Here w.phase → IsReady (machine_at th net f) w.network w.phase (act_phase (machine_at th net f) x.server (w.network.state x.server) x.act) found (network_step (machine_at th net f) w x).phase → Here (network_step (machine_at th net f) w x).phase
      → moment_next th net (up w) (entry_off th (net_at th net f) x) ≡ up (network_step (machine_at th net f) w x)
  next-here w x found e ready g =
      ap (λ z. acted th net (as_found th net (up w) z) (entry_off th (net_at th net f) x)) (phase-one th net w.phase f x.server (w.network.state x.server) (w.network.state x.server) x.act refl)
      ∙ ap (λ z. acted th net z (entry_off th (net_at th net f) x)) (found-here w own e (λ k q. own-here own ready k q)) ∙ acted-here (found_one (machine_at th net f) w own) x g
    where
      own : Option ℕ
      own = act_phase (machine_at th net f) x.server (w.network.state x.server) x.act

      own-here : (o : Option ℕ) → IsReady (machine_at th net f) w.network w.phase o found (network_step (machine_at th net f) w x).phase → (k : ℕ) → o ≡ Some k → Here k
      own-here None r k q = absurd cc
      own-here (Some j) (a, b) k q = g ∙ ap (trees_by net.later) (sym a ∙ same_Some _ _ q)

  ready-rises : (w : Network th (net_at th net f)) (p : ℕ) (o : Option ℕ) (x : Network th (net_at th net f)) (q : ℕ) → IsReady (machine_at th net f) w p o x q → p ≤ q
  ready-rises w p None x q (a, b) = omega (arith, b)
  ready-rises w p (Some k) x q (a, inl (b, c)) = omega (arith, a, b)
  ready-rises w p (Some k) x q (a, inr (b, c, d, e)) = omega (arith, a, b)

  run-rises : (w : Network th (net_at th net f)) (p : ℕ) (es : List (NetEntry th (net_at th net f))) (w' : Network th (net_at th net f)) (p' : ℕ) → IsRun (machine_at th net f) w p es w' p' → p ≤ p'
  run-rises w p [] w' p' (a, b) = omega (arith, b)
  run-rises w p (x ∷ es) w' p' (y, v, q, ready, step, rest) = omega (arith, ready-rises w p (act_phase (machine_at th net f) x.server (w.state x.server) x.act) y q ready, run-rises v q es w' p' rest)

  ready-off : (w : Network th (net_at th net f)) (p : ℕ) (o : Option ℕ) (x : Network th (net_at th net f)) (q : ℕ) → Here p → Here q → IsReady (machine_at th net f) w p o x q → ActFinds th net (off th (net_at th net f) w) p o (off th (net_at th net f) x) q
  ready-off w p None x q e g (a, b) = (ap (off th (net_at th net f)) a, b)
  ready-off w p (Some k) x q e g (a, inl (b, c)) = (a, inl (b, ap (off th (net_at th net f)) c))
  ready-off w p (Some k) x q e g (a, inr (b, t, c, d)) =
      (a, inr (b, subst (λ (z : Net th). IsThrough (routing_machine th z) (on th z (off th (net_at th net f) w)) k) same t, subst (λ (z : Net th). IsQuiet (routing_machine th z) (on th z (off th (net_at th net f) w))) same c, begun-here p k w e (g ∙ ap (trees_by net.later) (sym a)) ∙ ap (off th (net_at th net f)) d))
    where
      same : net_at th net f ≡ net_at th net p
      same = net-one th net f p e

  -- a run on one tree is a run over trees
  pub run-here : (w : Network th (net_at th net f)) (p : ℕ) (es : List (NetEntry th (net_at th net f))) (w' : Network th (net_at th net f)) (p' : ℕ) → IsRun (machine_at th net f) w p es w' p' → Here p → Here p'
      → IsPhasedRun th net (off th (net_at th net f) w) p (map (entry_off th (net_at th net f)) es) (off th (net_at th net f) w') p'
  run-here w p [] w' p' (a, b) e g = (ap (off th (net_at th net f)) a, b)
  run-here w p (x ∷ es) w' p' (y, v, q, ready, step, rest) e g =
      let own = act_phase (machine_at th net f) x.server (w.state x.server) x.act in
      let h : Here q = e ∙ between net.later p q p' (ready-rises w p own y q ready) (run-rises v q es w' p' rest) (sym e ∙ g) in (
        off th (net_at th net f) y,
        off th (net_at th net f) v,
        q,
        subst (λ z. ActFinds th net (off th (net_at th net f) w) p z (off th (net_at th net f) y) q) (phase-one th net f p x.server (w.state x.server) (w.state x.server) x.act refl) (ready-off w p own y q e h ready),
        subst (λ (z : Net th). IsStep (routing_machine th z) (on th z (off th (net_at th net f) y)) (entry_on th z (entry_off th (net_at th net f) x)) (on th z (off th (net_at th net f) v))) (net-one th net f q h) step,
        run-here v q es w' p' rest h g,
      )

  -- the entries of turns, and the moment after them
  pub record Tried (k : ℕ) (w : OneMoment (machine_at th net f)) (turns : List Turn) : Type 0 where
    pub entries : entries_by th net k (up w) turns ≡ map (entry_off th (net_at th net f)) (entries_one (machine_at th net f) k w turns)
    pub moment : moment_by th net k (up w) turns ≡ up (moment_one (machine_at th net f) k w turns)
    pub here : Here (moment_one (machine_at th net f) k w turns).phase
    pub low : (moment_one (machine_at th net f) k w turns).phase ≤ k

  pub tried : (k : ℕ) (turns : List Turn) (w : OneMoment (machine_at th net f)) → IsWalkable (machine_at th net f) k w → Here w.phase → Here k → Tried k w turns
  tried k [] w walk e g = record { entries = refl; moment = refl; here = e; low = low walk }
    where
      low : IsWalkable (machine_at th net f) k w → w.phase ≤ k
      low (inl a) = omega (arith, a)
      low (inr a) = omega (arith, a.0)
  tried k (t ∷ turns) w walk e g = go (in_one (machine_at th net f) k w t) refl (λ v x h. tried k turns v x h g)
    where
      go : (o : Option (NetEntry th (net_at th net f))) → in_one (machine_at th net f) k w t ≡ o → ((v : OneMoment (machine_at th net f)) → IsWalkable (machine_at th net f) k v → Here v.phase → Tried k v turns) → Tried k w (t ∷ turns)
      go None q ih =
          let r = ih w walk e in
          let none : entry_in th net k (up w) t ≡ None = in-here k w t e g ∙ ap (off_maybe th (net_at th net f)) q in
          record {
            entries = ap (λ z. with_default z (λ y. y ∷ entries_by th net k (moment_next th net (up w) y) turns) (entries_by th net k (up w) turns)) none ∙ (r.entries ∙ sym (ap (λ z. map (entry_off th (net_at th net f)) (with_default z (λ y. y ∷ entries_one (machine_at th net f) k (network_step (machine_at th net f) w y) turns) (entries_one (machine_at th net f) k w turns))) q));
            moment = ap (λ z. with_default z (λ y. moment_by th net k (moment_next th net (up w) y) turns) (moment_by th net k (up w) turns)) none ∙ (r.moment ∙ sym (ap (λ z. up (with_default z (λ y. moment_one (machine_at th net f) k (network_step (machine_at th net f) w y) turns) (moment_one (machine_at th net f) k w turns))) q));
            here = subst (λ z. Here (with_default z (λ y. moment_one (machine_at th net f) k (network_step (machine_at th net f) w y) turns) (moment_one (machine_at th net f) k w turns)).phase) (sym q) r.here;
            low = subst (λ z. (with_default z (λ y. moment_one (machine_at th net f) k (network_step (machine_at th net f) w y) turns) (moment_one (machine_at th net f) k w turns)).phase ≤ k) (sym q) r.low;
          }
      go (Some x) q ih =
          let o : Goes (machine_at th net f) k w x = entry-goes (machine_at th net f) (machine-laws th (net_at th net f)) k w t.0 t.1 x walk q in
          let v = network_step (machine_at th net f) w x in
          let h : Here v.phase = at-next o.walkable (ready-rises w.network w.phase (act_phase (machine_at th net f) x.server (w.network.state x.server) x.act) o.found v.phase o.ready) in
          let r = ih v o.walkable h in
          let some : entry_in th net k (up w) t ≡ Some (entry_off th (net_at th net f) x) = in-here k w t e g ∙ ap (off_maybe th (net_at th net f)) q in
          let after : moment_next th net (up w) (entry_off th (net_at th net f) x) ≡ up v = next-here w x o.found e o.ready h in
          record {
            entries = ap (λ z. with_default z (λ y. y ∷ entries_by th net k (moment_next th net (up w) y) turns) (entries_by th net k (up w) turns)) some ∙ (ap (λ (z : Moment th net). entry_off th (net_at th net f) x ∷ entries_by th net k z turns) after ∙ (ap (λ z. entry_off th (net_at th net f) x ∷ z) r.entries
                ∙ sym (ap (λ z. map (entry_off th (net_at th net f)) (with_default z (λ y. y ∷ entries_one (machine_at th net f) k (network_step (machine_at th net f) w y) turns) (entries_one (machine_at th net f) k w turns))) q)));
            moment = ap (λ z. with_default z (λ y. moment_by th net k (moment_next th net (up w) y) turns) (moment_by th net k (up w) turns)) some ∙ (ap (λ (z : Moment th net). moment_by th net k z turns) after ∙ (r.moment
                ∙ sym (ap (λ z. up (with_default z (λ y. moment_one (machine_at th net f) k (network_step (machine_at th net f) w y) turns) (moment_one (machine_at th net f) k w turns))) q)));
            here = subst (λ z. Here (with_default z (λ y. moment_one (machine_at th net f) k (network_step (machine_at th net f) w y) turns) (moment_one (machine_at th net f) k w turns)).phase) (sym q) r.here;
            low = subst (λ z. (with_default z (λ y. moment_one (machine_at th net f) k (network_step (machine_at th net f) w y) turns) (moment_one (machine_at th net f) k w turns)).phase ≤ k) (sym q) r.low;
          }
        where
          at-next : IsWalkable (machine_at th net f) k (network_step (machine_at th net f) w x) → w.phase ≤ (network_step (machine_at th net f) w x).phase → Here (network_step (machine_at th net f) w x).phase
          at-next (inl a) l = g ∙ ap (trees_by net.later) (sym a)
          at-next (inr a) l = e ∙ between net.later w.phase (network_step (machine_at th net f) w x).phase k l (omega (arith, a.0)) (sym e ∙ g)

  -- where all phases have one tree, a run over trees is a run on it
  module _ (all : (k : ℕ) → trees_by net.later f ≡ trees_by net.later k) where
    ready-on : (s : State th) (p : ℕ) (o : Option ℕ) (x : State th) (q : ℕ) → ActFinds th net s p o x q → IsReady (machine_at th net f) (at_phase th net f s) p o (at_phase th net f x) q
    ready-on s p None x q (a, b) = (ap (at_phase th net f) a, b)
    ready-on s p (Some k) x q (a, inl (b, c)) = (a, inl (b, ap (at_phase th net f) c))
    ready-on s p (Some k) x q (a, inr (b, t, c, g)) =
        (a, inr (b, subst (λ (z : Net th). IsThrough (routing_machine th z) (on th z s) k) same t, subst (λ (z : Net th). IsQuiet (routing_machine th z) (on th z s)) same c, ap (at_phase th net f) (sym (begun-here p k (at_phase th net f s) (all p) (all k)) ∙ g)))
      where
        same : net_at th net p ≡ net_at th net f
        same = net-one th net p f (sym (all p))

    pub run-on : (s : State th) (p : ℕ) (es : List JournalEntry) (s' : State th) (p' : ℕ) → IsPhasedRun th net s p es s' p' → IsRun (machine_at th net f) (at_phase th net f s) p (entries_on th (net_at th net f) es) (at_phase th net f s') p'
    run-on s p [] s' p' (a, b) = (ap (at_phase th net f) a, b)
    run-on s p (e ∷ es) s' p' (x, v, q, ready, step, rest) = (
      at_phase th net f x,
      at_phase th net f v,
      q,
      subst (λ z. IsReady (machine_at th net f) (at_phase th net f s) p z (at_phase th net f x) q) (phase-one th net p f e.server (s.state e.server) (s.state e.server) e.act refl) (ready-on s p (act_phase (machine_at th net p) e.server (s.state e.server) e.act) x q ready),
      subst (λ (z : Net th). IsStep (routing_machine th z) (on th z x) (entry_on th z e) (on th z v)) (net-one th net q f (sym (all q))) step,
      run-on v q es s' p' rest,
    )

    off-on : (es : List JournalEntry) → map (entry_off th (net_at th net f)) (entries_on th (net_at th net f) es) ≡ es
    off-on [] = refl
    off-on (e ∷ es) = ap (λ z. e ∷ z) (off-on es)

    pub run-off : (s : State th) (p : ℕ) (es : List JournalEntry) (s' : State th) (p' : ℕ) → IsRun (machine_at th net f) (at_phase th net f s) p (entries_on th (net_at th net f) es) (at_phase th net f s') p' → IsPhasedRun th net s p es s' p'
    run-off s p es s' p' run = subst (λ z. IsPhasedRun th net s p z s' p') (off-on es) (run-here (at_phase th net f s) p (entries_on th (net_at th net f) es) (at_phase th net f s') p' run (all p) (all p'))

    -- its moments are those of the net on it
    next-all : (w : OneMoment (machine_at th net f)) (e : JournalEntry) → moment_next th net (up w) e ≡ up (network_step (machine_at th net f) w (entry_on th (net_at th net f) e))
    next-all w e =
        let own = act_phase (machine_at th net f) e.server (w.network.state e.server) e.act in
        ap (λ z. acted th net (as_found th net (up w) z) e) (phase-one th net w.phase f e.server (w.network.state e.server) (w.network.state e.server) e.act refl)
        ∙ (ap (λ z. acted th net z e) (found-here w own (all w.phase) (λ k q. all k)) ∙ acted-here (found_one (machine_at th net f) w own) (entry_on th (net_at th net f) e) (all (found_one (machine_at th net f) w own).phase))

    pub moments-all : (w : OneMoment (machine_at th net f)) (es : List JournalEntry) (n : ℕ) → moment_after th net (up w) es n ≡ up (one_after (machine_at th net f) w (entries_on th (net_at th net f) es) n)
    moments-all w [] zero = refl
    moments-all w [] (suc n) = refl
    moments-all w (e ∷ es) zero = refl
    moments-all w (e ∷ es) (suc n) = ap (λ z. moment_after th net z es n) (next-all w e) ∙ moments-all (network_step (machine_at th net f) w (entry_on th (net_at th net f) e)) es n

    -- and so are the entries of turns
    tried-all : (k : ℕ) (turns : List Turn) (w : OneMoment (machine_at th net f)) → (entries_by th net k (up w) turns ≡ map (entry_off th (net_at th net f)) (entries_one (machine_at th net f) k w turns)) × (moment_by th net k (up w) turns ≡ up (moment_one (machine_at th net f) k w turns))
    tried-all k [] w = (refl, refl)
    tried-all k (t ∷ turns) w = go (in_one (machine_at th net f) k w t) (in-here k w t (all w.phase) (all k)) refl (λ v. tried-all k turns v)
      where
        Goal : Option JournalEntry → Option (NetEntry th (net_at th net f)) → Type 0
        Goal p o = (with_default p (λ y. y ∷ entries_by th net k (moment_next th net (up w) y) turns) (entries_by th net k (up w) turns) ≡ map (entry_off th (net_at th net f)) (with_default o (λ y. y ∷ entries_one (machine_at th net f) k (network_step (machine_at th net f) w y) turns) (entries_one (machine_at th net f) k w turns)))
            × (with_default p (λ y. moment_by th net k (moment_next th net (up w) y) turns) (moment_by th net k (up w) turns) ≡ up (with_default o (λ y. moment_one (machine_at th net f) k (network_step (machine_at th net f) w y) turns) (moment_one (machine_at th net f) k w turns)))

        go : (o : Option (NetEntry th (net_at th net f))) → entry_in th net k (up w) t ≡ off_maybe th (net_at th net f) (in_one (machine_at th net f) k w t) → in_one (machine_at th net f) k w t ≡ o
            → ((v : OneMoment (machine_at th net f)) → (entries_by th net k (up v) turns ≡ map (entry_off th (net_at th net f)) (entries_one (machine_at th net f) k v turns)) × (moment_by th net k (up v) turns ≡ up (moment_one (machine_at th net f) k v turns)))
            → Goal (entry_in th net k (up w) t) (in_one (machine_at th net f) k w t)
        go None e q ih = subst (λ z. Goal z (in_one (machine_at th net f) k w t)) (sym (e ∙ ap (off_maybe th (net_at th net f)) q)) (subst (Goal None) (sym q) (ih w))
        go (Some x) e q ih =
            let v = network_step (machine_at th net f) w x in
            let r = ih v in
            subst (λ z. Goal z (in_one (machine_at th net f) k w t)) (sym (e ∙ ap (off_maybe th (net_at th net f)) q)) (subst (Goal (Some (entry_off th (net_at th net f) x))) (sym q) (
              ap (λ (z : Moment th net). entry_off th (net_at th net f) x ∷ entries_by th net k z turns) (next-all w (entry_off th (net_at th net f) x)) ∙ ap (λ z. entry_off th (net_at th net f) x ∷ z) r.0,
              ap (λ (z : Moment th net). moment_by th net k z turns) (next-all w (entry_off th (net_at th net f) x)) ∙ r.1,
            ))

    append-off : (xs ys : List (NetEntry th (net_at th net f))) → map (entry_off th (net_at th net f)) (xs ++ ys) ≡ map (entry_off th (net_at th net f)) xs ++ map (entry_off th (net_at th net f)) ys
    append-off [] ys = refl
    append-off (x ∷ xs) ys = ap (λ z. entry_off th (net_at th net f) x ∷ z) (append-off xs ys)

    -- and the walk
    phases-all : (n k : ℕ) (w : OneMoment (machine_at th net f)) → walk_phases th net n k (up w) ≡ map (entry_off th (net_at th net f)) (phases_one (machine_at th net f) (walk_turns th (net_at th net f)) n k w)
    phases-all zero k w = refl
    phases-all (suc n) k w =
        let turns = walk_turns th (net_at th net f) in
        let t = tried-all k (walk_turns th (net_at th net f)) w in
        ap (λ (z : Net th). entries_by th net k (up w) (walk_turns th z) ++ walk_phases th net n (suc k) (moment_by th net k (up w) (walk_turns th z))) (net-one th net k f (sym (all k)))
        ∙ (ap (λ z. z ++ walk_phases th net n (suc k) (moment_by th net k (up w) turns)) t.0
        ∙ (ap (λ (z : Moment th net). map (entry_off th (net_at th net f)) (entries_one (machine_at th net f) k w turns) ++ walk_phases th net n (suc k) z) t.1
        ∙ (ap (λ z. map (entry_off th (net_at th net f)) (entries_one (machine_at th net f) k w turns) ++ z) (phases-all n (suc k) (moment_one (machine_at th net f) k w turns))
        ∙ sym (append-off (entries_one (machine_at th net f) k w turns) (phases_one (machine_at th net f) turns n (suc k) (moment_one (machine_at th net f) k w turns))))))

    pub walk-all : (phases : ℕ) (w : OneMoment (machine_at th net f)) → walk_of th net phases (up w) ≡ map (entry_off th (net_at th net f)) (walk_one th (net_at th net f) phases w)
    walk-all phases w = phases-all (phases - w.phase) w.phase w
