-- A phase with all cells in hand goes on from the run so far, on its own tree.
use Rattle.std.proofs.Common.{◌≡◌, ℕ, suc, ◌≤◌, ◌<◌, ◌==◌, Bool, true, false, cond, List, [], ◌∷◌, ◌++◌, ◌⊎◌, inl, inr, map, slice_get, Option, Some, None, refl, sym, ap, subst, ◌∙◌, arith, eq-eqb, ne_eqb}
use Rattle.std.proofs.lemmas.List.{map-append}
use Rattle.base.specs.Sets.{Has}
use Rattle.base.proofs.Numbers.{Same, Is, Not, compare}
use Rattle.law_machine.specs.Machine.{Machine, Entry, act_phase}
use Rattle.law_machine.specs.Runs.{raised, greatest, IsQuiet, IsThrough}
use Rattle.law_machine.specs.Journals.{Cell, IsInPhase, IsReplay, IsPhaseRun, network_of, entries_of, IsInOrder, IsMerge, IsPhaseInHand, IsPhaseEnded}
use Rattle.law_machine.proofs.Merge.{merged-parts}
use Rattle.law_machine.proofs.Order.{merge-join}
use Rattle.law_machine.proofs.Stamps.{greatest-above, greatest-below}
use Rattle.law_machine.proofs.Phases.{part-run, tells-between, has-own}
use Rattle.law_machine.proofs.Tried.{step-entry}
use Rattle.law_routing.specs.Theory.{Theory}
use Rattle.law_routing.specs.Net.{Net, PhasedCommand}
use Rattle.law_routing.specs.Routing.{not_below, all_through, routing_machine, Network, NetEntry, empty_server}
use Rattle.law_routing.specs.Change.{on_tree}
use Rattle.law_routing.proofs.Laws.{machine-laws}
use Rattle.law_phases.specs.Trees.{JournalEntry, State, on, off, entry_on, entry_off, entries_on, trees_by, PhasedNet, tree_at, net_at, machine_at, at_phase}
use Rattle.law_phases.specs.Moments.{begun, opening_moment}
use Rattle.law_phases.specs.Runs.{ActFinds, IsPhasedRun}
use Rattle.law_phases.specs.Cells.{entries_off, entered, MergesJournals, IsBetween}
use Rattle.law_phases.proofs.Nets.{net-one, phase-one}
use Rattle.law_phases.proofs.Moments.{run-append}
use Rattle.law_phases.proofs.Onetree.{run-here}
use Rattle.law_phases.proofs.Newtree.{none-quiet}
use Rattle.base.proofs.Sets.{has-append, has-map}

-- a merge, with entries of another machine for those of this one
module _ (m k : Machine) (g : Entry m → Entry k) (stamp : (e : Entry m) → (g e).stamp ≡ e.stamp) (server : (e : Entry m) → (g e).server ≡ e.server) where
  parts-map : (t : ℕ) (es : List (Entry m)) → entries_of k t (map g es) ≡ map g (entries_of m t es)
  parts-map t [] = refl
  parts-map t (e ∷ es) = ap (λ z. cond (z == t) (g e ∷ entries_of k t (map g es)) (entries_of k t (map g es))) (server e) ∙ go (e.server == t) (parts-map t es)
    where
      go : (b : Bool) → entries_of k t (map g es) ≡ map g (entries_of m t es) → cond b (g e ∷ entries_of k t (map g es)) (entries_of k t (map g es)) ≡ map g (cond b (e ∷ entries_of m t es) (entries_of m t es))
      go true ih = ap (λ z. g e ∷ z) ih
      go false ih = ih

  order-map : (es : List (Entry m)) → IsInOrder m es → IsInOrder k (map g es)
  order-map [] o = tt
  order-map (e ∷ es) o = ((λ f h. (let y = has-map g es f h in subst (λ z. Rattle.law_machine.specs.Journals.IsEarlier k (g e) z) (sym y.2) (earlier y.0 (o.0 y.0 y.1)))), order-map es o.1)
    where
      earlier : (f : Entry m) → Rattle.law_machine.specs.Journals.IsEarlier m e f → Rattle.law_machine.specs.Journals.IsEarlier k (g e) (g f)
      earlier f (inl l) = inl (omega (arith, l, stamp e, stamp f))
      earlier f (inr (a, l)) = inr (stamp e ∙ (a ∙ sym (stamp f)), omega (arith, l, server e, server f))

  merge-map : (js : ℕ → List (Entry m)) (es : List (Entry m)) → IsMerge m js es → IsMerge k (λ t. map g (js t)) (map g es)
  merge-map js es x = record { order = order-map es x.order; parts = λ t. parts-map t es ∙ ap (map g) (x.parts t) }

module _ (th : Theory) (net : PhasedNet th) where
  on-append : (k : ℕ) (xs ys : List JournalEntry) → entries_on th (net_at th net k) (xs ++ ys) ≡ entries_on th (net_at th net k) xs ++ entries_on th (net_at th net k) ys
  on-append k xs ys = map-append (entry_on th (net_at th net k)) xs ys

  retreed : (k : ℕ) (es : List (NetEntry th (net_at th net k))) → map (λ e. entry_on th (net_at th net 0) (entry_off th (net_at th net k) e)) es ≡ entries_on th (net_at th net 0) (entries_off th net k es)
  retreed k [] = refl
  retreed k (e ∷ es) = ap (λ z. entry_on th (net_at th net 0) (entry_off th (net_at th net k) e) ∷ z) (retreed k es)

  -- the first entry begins the phase
  module _ (s : State th) (p k : ℕ) (less : p < k) (through : IsThrough (machine_at th net p) (at_phase th net p s) k) (quiet : IsQuiet (machine_at th net p) (at_phase th net p s)) where
    abbrev w : Network th (net_at th net k)
    w = at_phase th net k (begun th net p k s)

    begun-done : (t : ℕ) → ((begun th net p k s).state t).done ≡ (s.state t).done
    begun-done t = go (Rattle.law_phases.specs.Trees.is_one_tree th net p k)
      where
        go : (b : Bool) → ((cond b (off th (net_at th net p) (raised (machine_at th net p) (at_phase th net p s))) (off th (net_at th net k) (on_tree th (net_at th net p) (tree_at th net k).links (tree_at th net k).hop (at_phase th net p s)))).state t).done ≡ (s.state t).done
        go true = refl
        go false = refl

    begun-quiet : IsQuiet (machine_at th net k) w
    begun-quiet = go (compare (trees_by net.later p) (trees_by net.later k))
      where
        up : State th
        up = off th (net_at th net p) (raised (machine_at th net p) (at_phase th net p s))

        moved : State th
        moved = off th (net_at th net k) (on_tree th (net_at th net p) (tree_at th net k).links (tree_at th net k).hop (at_phase th net p s))

        risen : IsQuiet (machine_at th net p) (at_phase th net p up)
        risen = record { empty = quiet.empty; calm = quiet.calm }

        gone : IsQuiet (machine_at th net k) (at_phase th net k moved)
        gone = record { empty = λ a b. refl; calm = λ t h. refl }

        go : Same (trees_by net.later p) (trees_by net.later k) → IsQuiet (machine_at th net k) (at_phase th net k (begun th net p k s))
        go (Is e v) = subst (λ (z : State th). IsQuiet (machine_at th net k) (at_phase th net k z)) (sym (ap (λ z. cond z up moved) v)) (subst (λ (z : Net th). IsQuiet (routing_machine th z) (on th z up)) (net-one th net p k e) risen)
        go (Not e v) = subst (λ (z : State th). IsQuiet (machine_at th net k) (at_phase th net k z)) (sym (ap (λ z. cond z up moved) v)) gone

    begun-clock : (t : ℕ) → (begun th net p k s).clock t ≡ greatest (machine_at th net p) s.clock net.servers
    begun-clock t = go (Rattle.law_phases.specs.Trees.is_one_tree th net p k)
      where
        go : (b : Bool) → (cond b (off th (net_at th net p) (raised (machine_at th net p) (at_phase th net p s))) (off th (net_at th net k) (on_tree th (net_at th net p) (tree_at th net k).links (tree_at th net k).hop (at_phase th net p s)))).clock t ≡ greatest (machine_at th net p) s.clock net.servers
        go true = refl
        go false = refl

    begins : (es : List (NetEntry th (net_at th net k))) → (es ≡ [] → ⊥) → (w' : Network th (net_at th net k)) → IsPhaseRun (machine_at th net k) k w es w' → IsPhasedRun th net s p (entries_off th net k es) (off th (net_at th net k) w') k
    begins [] some w' run = absurd (some refl)
    begins (e ∷ es) some w' (v, own, step, rest) = (
      begun th net p k s,
      off th (net_at th net k) v,
      k,
      go (act_phase (machine_at th net p) e.server (s.state e.server) e.act) refl,
      step,
      run-here th net k v k es w' k (part-run (machine_at th net k) k v es w' rest) refl refl,
    )
      where
        same : act_phase (machine_at th net p) e.server (s.state e.server) e.act ≡ act_phase (machine_at th net k) e.server (w.state e.server) e.act
        same = phase-one th net p k e.server (s.state e.server) (w.state e.server) e.act (sym (begun-done e.server))

        in-phase : (j : ℕ) → act_phase (machine_at th net k) e.server (w.state e.server) e.act ≡ Some j → j ≡ k
        in-phase j f = subst (IsInPhase (machine_at th net k) k) f own

        go : (o : Option ℕ) → act_phase (machine_at th net p) e.server (s.state e.server) e.act ≡ o → ActFinds th net s p (act_phase (machine_at th net p) e.server (s.state e.server) e.act) (begun th net p k s) k
        go None f = absurd (none-quiet (machine_at th net k) (machine-laws th (net_at th net k)) w e.server e.act e begun-quiet (sym same ∙ f) (step-entry (machine_at th net k) w e v step))
        go (Some j) f =
            let is : j ≡ k = in-phase j (sym same ∙ f) in
            subst (λ z. ActFinds th net s p z (begun th net p k s) k) (sym (f ∙ ap Some is)) (refl, inr (less, through, quiet, refl))

  -- a phase that has a command, with all its cells in hand
  pub goes-on : (end : State th) (last phase : ℕ) (sofar : List JournalEntry) (journals : ℕ → List JournalEntry) → IsBetween th net end last phase sofar journals
      → (cells ends : ℕ → Cell (machine_at th net phase)) → at_phase th net phase (entered th net last phase end) ≡ network_of (machine_at th net phase) cells → (fresh : ℕ → List (NetEntry th (net_at th net phase))) (merged : List (NetEntry th (net_at th net phase))) → (merged ≡ [] → ⊥)
      → IsPhaseInHand (machine_at th net phase) phase cells fresh merged ends → IsPhaseEnded (machine_at th net phase) phase ends
      → IsBetween th net (off th (net_at th net phase) (network_of (machine_at th net phase) ends)) phase (suc phase) (sofar ++ entries_off th net phase merged) (λ t. journals t ++ entries_off th net phase (fresh t))
  goes-on end last phase sofar journals between cells ends stand fresh merged some hand ended = record {
    run = run-append th net (opening_moment th net).state 0 sofar end last (entries_off th net phase merged) (off th (net_at th net phase) (network_of m ends)) phase between.run (runs between.phase);
    merge = merge;
    low = low;
    quiet = ended.quiet;
    through = ended.through;
    phase = inl (omega arith);
  }
    where
      m : Machine
      m = machine_at th net phase

      zero : ℕ
      zero = 0

      part : IsPhaseRun (machine_at th net phase) phase (at_phase th net phase (entered th net last phase end)) merged (network_of (machine_at th net phase) ends)
      part = subst (λ z. IsPhaseRun (machine_at th net phase) phase z merged (network_of (machine_at th net phase) ends)) (sym stand)
          (merged-parts (machine_at th net phase) phase merged hand.merge.order cells ends (λ t. subst (λ z. IsReplay (machine_at th net phase) phase t (cells t) z (ends t)) (sym (hand.merge.parts t)) (hand.replay t)) hand.took)

      entered-is : (b : Bool) → (last == phase) ≡ b → entered th net last phase end ≡ cond b end (begun th net last phase end)
      entered-is b e = ap (λ z. cond z end (begun th net last phase end)) e

      later : last < phase → entered th net last phase end ≡ begun th net last phase end
      later l = entered-is false (ne_eqb last phase (λ e. omega (arith, l, e)))

      stays : last ≡ phase → entered th net last phase end ≡ end
      stays e = entered-is true (eq-eqb last phase e)

      runs : (last < phase) ⊎ ((last ≡ phase) × (off th (net_at th net last) (raised (machine_at th net last) (at_phase th net last end)) ≡ end)) → IsPhasedRun th net end last (entries_off th net phase merged) (off th (net_at th net phase) (network_of (machine_at th net phase) ends)) phase
      runs (inl l) = begins end last phase l between.through between.quiet merged some (network_of (machine_at th net phase) ends) (subst (λ (z : State th). IsPhaseRun (machine_at th net phase) phase (at_phase th net phase z) merged (network_of (machine_at th net phase) ends)) (later l) part)
      runs (inr (e, f)) = subst (λ z. IsPhasedRun th net end z (entries_off th net phase merged) (off th (net_at th net phase) (network_of (machine_at th net phase) ends)) phase) (sym e)
          (run-here th net phase (at_phase th net phase end) phase merged (network_of (machine_at th net phase) ends) phase (part-run (machine_at th net phase) phase (at_phase th net phase end) merged (network_of (machine_at th net phase) ends)
          (subst (λ (z : State th). IsPhaseRun (machine_at th net phase) phase (at_phase th net phase z) merged (network_of (machine_at th net phase) ends)) (stays e) part)) refl refl)

      clock : (last < phase) ⊎ ((last ≡ phase) × (off th (net_at th net last) (raised (machine_at th net last) (at_phase th net last end)) ≡ end)) → (t : ℕ) → greatest (machine_at th net last) end.clock net.servers ≡ (cells t).clock
      clock (inl l) t = sym (begun-clock end last phase l between.through between.quiet t) ∙ (ap (λ (z : State th). z.clock t) (sym (later l)) ∙ ap (λ (z : Network th (net_at th net phase)). z.clock t) stand)
      clock (inr (e, f)) t = ap (λ (z : State th). z.clock t) f ∙ (ap (λ (z : State th). z.clock t) (sym (stays e)) ∙ ap (λ (z : Network th (net_at th net phase)). z.clock t) stand)

      clocks : (t : ℕ) → greatest (machine_at th net last) end.clock net.servers ≡ (cells t).clock
      clocks = clock between.phase

      within : (e : NetEntry th (net_at th net phase)) → Has e merged → ((cells e.server).clock < e.stamp) × (e.stamp ≤ (ends e.server).clock) × Has e.server net.servers
      within e h = (tells-between (machine_at th net phase) (machine-laws th (net_at th net phase)) phase e.server (cells e.server) (fresh e.server) (ends e.server) (hand.replay e.server)).1 e (has-own (machine_at th net phase) fresh merged hand.merge e h)

      above : (t : ℕ) → Has t net.servers → (ends t).clock ≤ greatest (machine_at th net phase) (λ u. (ends u).clock) net.servers
      above t h = greatest-above (machine_at th net phase) (λ u. (ends u).clock) net.servers t h

      risen : greatest (machine_at th net last) end.clock net.servers ≤ greatest (machine_at th net phase) (λ u. (ends u).clock) net.servers
      risen = greatest-below (machine_at th net last) (greatest (machine_at th net phase) (λ u. (ends u).clock) net.servers) end.clock net.servers
          (λ t h. omega (arith, greatest-above (machine_at th net last) end.clock net.servers t h, clocks t, (tells-between (machine_at th net phase) (machine-laws th (net_at th net phase)) phase t (cells t) (fresh t) (ends t) (hand.replay t)).0, above t h))

      low : (e : JournalEntry) → Has e (sofar ++ entries_off th net phase merged) → e.stamp ≤ greatest (machine_at th net phase) (λ u. (ends u).clock) net.servers
      low e h = go (has-append e sofar (entries_off th net phase merged) h)
        where
          go : Has e sofar ⊎ Has e (entries_off th net phase merged) → e.stamp ≤ greatest (machine_at th net phase) (λ u. (ends u).clock) net.servers
          go (inl x) = omega (arith, between.low e x, risen)
          go (inr x) = let y = has-map (entry_off th (net_at th net phase)) merged e x in omega (arith, ap (λ (z : JournalEntry). z.stamp) y.2, (within y.0 y.1).1, above y.0.server (within y.0 y.1).2)

      merge-fresh : IsMerge (machine_at th net 0) (λ t. entries_on th (net_at th net 0) (entries_off th net phase (fresh t))) (entries_on th (net_at th net 0) (entries_off th net phase merged))
      merge-fresh =
          let g = λ (e : NetEntry th (net_at th net phase)). entry_on th (net_at th net 0) (entry_off th (net_at th net phase) e) in
          let x = merge-map (machine_at th net phase) (machine_at th net 0) (λ e. entry_on th (net_at th net 0) (entry_off th (net_at th net phase) e)) (λ e. refl) (λ e. refl) fresh merged hand.merge in
          record { order = subst (IsInOrder (machine_at th net 0)) (retreed phase merged) x.order; parts = λ t. ap (entries_of (machine_at th net 0) t) (sym (retreed phase merged)) ∙ (x.parts t ∙ retreed phase (fresh t)) }

      apart : (e f : NetEntry th (net_at th net 0)) → Has e (entries_on th (net_at th net 0) sofar) → Has f (entries_on th (net_at th net 0) (entries_off th net phase merged)) → e.stamp < f.stamp
      apart e f h g =
          let x = has-map (entry_on th (net_at th net 0)) sofar e h in
          let y = has-map (entry_on th (net_at th net 0)) (entries_off th net phase merged) f g in
          let z = has-map (entry_off th (net_at th net phase)) merged y.0 y.1 in
          omega (arith, ap (λ (z : NetEntry th (net_at th net 0)). z.stamp) x.2, between.low x.0 x.1, ap (λ (z : NetEntry th (net_at th net 0)). z.stamp) y.2, ap (λ (z : JournalEntry). z.stamp) z.2, clocks z.0.server, (within z.0 z.1).0)

      merge : MergesJournals th net (λ t. journals t ++ entries_off th net phase (fresh t)) (sofar ++ entries_off th net phase merged)
      merge =
          let x = merge-join (machine_at th net 0) (λ t. entries_on th (net_at th net 0) (journals t)) (λ t. entries_on th (net_at th net 0) (entries_off th net phase (fresh t))) (entries_on th (net_at th net 0) sofar) (entries_on th (net_at th net 0) (entries_off th net phase merged)) between.merge merge-fresh apart in
          record {
            order = subst (IsInOrder (machine_at th net 0)) (sym (on-append 0 sofar (entries_off th net phase merged))) x.order;
            parts = λ t. ap (entries_of (machine_at th net 0) t) (on-append 0 sofar (entries_off th net phase merged)) ∙ (x.parts t ∙ sym (on-append 0 (journals t) (entries_off th net phase (fresh t))));
          }

  -- at the opening nothing has been done
  none-below : (cs : List ℕ) → all_through th (net_at th net 0) (empty_server th (net_at th net 0)) 0 cs ≡ true
  none-below [] = refl
  none-below (c ∷ cs) = rw (one (slice_get (net.script c) 0)) (none-below cs)
    where
      one : (o : Option (PhasedCommand th)) → not_below th (net_at th net 0) 0 o ≡ true
      one None = refl
      one (Some x) = grind arith

  pub opens : IsBetween th net (opening_moment th net).state 0 0 [] (λ t. [])
  opens = record {
    run = (refl, refl);
    merge = record { order = tt; parts = λ t. refl };
    low = λ e h. absurd h;
    quiet = record { empty = λ a b. refl; calm = λ t h. refl };
    through = λ t h. none-below (net.clients t);
    phase = inr (refl, λ i. record { state = λ t. empty_server th (net_at th net 0); clock = λ t. low i; put = λ a b. []; taken = λ a b. 0 });
  }
    where
      low : greatest (machine_at th net 0) (λ t. 0) net.servers ≡ 0
      low = omega (arith, greatest-below (machine_at th net 0) 0 (λ t. 0) net.servers (λ t h. omega arith))
