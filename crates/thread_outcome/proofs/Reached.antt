-- Within a phase, with all cells in hand, the entries so far are a run: so no clock and no message has the last stamp.
use Rattle.std.proofs.Common.{◌≡◌, ℕ, suc, ◌<◌, ◌==◌, Bool, true, false, cond, List, [], ◌∷◌, ◌++◌, map, ◌⊎◌, inl, inr, Option, Some, None, refl, sym, ap, subst, ◌∙◌, arith, eq-eqb, ne_eqb}
use Rattle.base.specs.Sets.{Has}
use Rattle.base.proofs.Numbers.{Same, Is, Not, compare}
use Rattle.law_machine.specs.Machine.{Stamped, act_phase}
use Rattle.law_machine.specs.Runs.{greatest, IsQuiet, IsThrough}
use Rattle.law_machine.specs.Journals.{Cell, IsInPhase, IsReplay, IsPhaseRun, network_of}
use Rattle.law_machine.proofs.Merge.{merged-parts}
use Rattle.law_machine.proofs.Phases.{part-run}
use Rattle.law_machine.proofs.Stamps.{greatest-below}
use Rattle.law_machine.proofs.Tried.{step-entry}
use Rattle.law_routing.specs.Net.{Net}
use Rattle.law_routing.specs.Server.{Message}
use Rattle.law_routing.specs.Routing.{routing_machine, Network, NetEntry}
use Rattle.law_routing.proofs.Laws.{machine-laws}
use Rattle.law_phases.specs.Trees.{JournalEntry, State, on, off, trees_by, PhasedNet, net_at, machine_at, at_phase, is_one_tree}
use Rattle.law_phases.specs.Moments.{begun, opening_moment, with_clocks_raised, with_tree_changed}
use Rattle.law_phases.specs.Runs.{ActFinds, IsPhasedRun, PhasedRun}
use Rattle.law_phases.specs.Cells.{entries_off, entered}
use Rattle.law_phases.proofs.Nets.{net-one, phase-one}
use Rattle.law_phases.proofs.Moments.{run-append}
use Rattle.law_phases.proofs.Onetree.{run-here}
use Rattle.law_phases.proofs.Newtree.{none-quiet}
use Rattle.net_model.specs.Real.{real}
use Rattle.server_message.specs.declared.stamped.StampedLoad.{StampedLoad}
use Rattle.thread_cell.specs.Heard.{heard_stamped}
use Rattle.net_model.specs.Parts.{NetParts}
use Rattle.net_model.specs.Nets.{phased_net}
use Rattle.net_model.specs.Sound.{IsSound}
use Rattle.net_model.proofs.SoundNets.{net-laws}
use Rattle.net_model.proofs.Counted.{stays-low}
use Rattle.server_core.specs.Step.{last_stamp}
use Rattle.thread_lane.specs.Lane.{put_list}
use Rattle.thread_cell.specs.declared.link.Link.{Link}
use Rattle.thread_cell.specs.Acted.{Represented}
use Rattle.thread_cell.specs.LaneMessages.{put_for}
use Rattle.thread_cell.specs.Cell.{CellParts, machine_in}
use Rattle.thread_cell.specs.Entered.{state_of}
use Rattle.thread_cell.specs.InHand.{AreAllInHand}
use Rattle.thread_cell.specs.Together.{HasLast, IsWornSomewhere, sight, sights}
use Rattle.thread_cell.proofs.Gathered.{found-map}
use Rattle.thread_outcome.specs.Outcome.{IsPhaseBegun}
use Rattle.thread_outcome.proofs.Going.{are-begun}

-- what a lane carries has its stamps in each net
said-stamp : (a b : NetParts) (items : List StampedLoad) (m : Represented) → Has m (map (heard_stamped a) items) → (n : Represented) × Has n (map (heard_stamped b) items) × (n.stamp ≡ m.stamp)
said-stamp a b [] m h = absurd h
said-stamp a b (item ∷ items) m (inl e) = (heard_stamped b item, inl refl, ap (λ (x : Represented). x.stamp) (sym e))
said-stamp a b (item ∷ items) m (inr h) = let n = said-stamp a b items m h in (n.0, inr n.1, n.2)

put-stamp : (a b : NetParts) (links : List Link) (to : ℕ) (m : Represented) → Has m (put_for a links to) → (n : Represented) × Has n (put_for b links to) × (n.stamp ≡ m.stamp)
put-stamp a b [] to m h = absurd h
put-stamp a b (link ∷ links) to m h = go (put-stamp a b links to m) (link.neighbour == to) h
  where
    go : (Has m (put_for a links to) → (n : Represented) × Has n (put_for b links to) × (n.stamp ≡ m.stamp)) → (here : Bool)
        → Has m (cond here (map (heard_stamped a) (put_list link.enter)) (put_for a links to)) → (n : Represented) × Has n (cond here (map (heard_stamped b) (put_list link.enter)) (put_for b links to)) × (n.stamp ≡ m.stamp)
    go rest true h = said-stamp a b (put_list link.enter) m h
    go rest false h = rest h

module _ (net : PhasedNet real) where
  -- the first entry begins the phase
  module _ (s : State real) (p k : ℕ) (less : p < k) (through : IsThrough (machine_at real net p) (at_phase real net p s) k) (quiet : IsQuiet (machine_at real net p) (at_phase real net p s)) where
    abbrev w : Network real (net_at real net k)
    w = at_phase real net k (begun real net p k s)

    begun-done : (t : ℕ) → ((begun real net p k s).state t).done ≡ (s.state t).done
    begun-done t = go (is_one_tree real net p k)
      where
        go : (b : Bool) → ((cond b (with_clocks_raised real net p s) (with_tree_changed real net p k s)).state t).done ≡ (s.state t).done
        go true = refl
        go false = refl

    begun-quiet : IsQuiet (machine_at real net k) w
    begun-quiet = go (compare (trees_by net.later p) (trees_by net.later k))
      where
        risen : IsQuiet (machine_at real net p) (at_phase real net p (with_clocks_raised real net p s))
        risen = record { empty = quiet.empty; calm = quiet.calm }

        gone : IsQuiet (machine_at real net k) (at_phase real net k (with_tree_changed real net p k s))
        gone = record { empty = λ a b. refl; calm = λ t h. refl }

        go : Same (trees_by net.later p) (trees_by net.later k) → IsQuiet (machine_at real net k) (at_phase real net k (begun real net p k s))
        go (Is e v) = subst (λ (z : State real). IsQuiet (machine_at real net k) (at_phase real net k z)) (sym (ap (λ z. cond z (with_clocks_raised real net p s) (with_tree_changed real net p k s)) v)) (subst (λ (z : Net real). IsQuiet (routing_machine real z) (on real z (with_clocks_raised real net p s))) (net-one real net p k e) risen)
        go (Not e v) = subst (λ (z : State real). IsQuiet (machine_at real net k) (at_phase real net k z)) (sym (ap (λ z. cond z (with_clocks_raised real net p s) (with_tree_changed real net p k s)) v)) gone

    begins : (es : List (NetEntry real (net_at real net k))) → (es ≡ [] → ⊥) → (w' : Network real (net_at real net k)) → IsPhaseRun (machine_at real net k) k w es w' → IsPhasedRun real net s p (entries_off real net k es) (off real (net_at real net k) w') k
    begins [] some w' run = absurd (some refl)
    begins (e ∷ es) some w' (v, own, step, rest) = (
      begun real net p k s,
      off real (net_at real net k) v,
      k,
      go (act_phase (machine_at real net p) e.server (s.state e.server) e.act) refl,
      step,
      run-here real net k v k es w' k (part-run (machine_at real net k) k v es w' rest) refl refl,
    )
      where
        same : act_phase (machine_at real net p) e.server (s.state e.server) e.act ≡ act_phase (machine_at real net k) e.server (w.state e.server) e.act
        same = phase-one real net p k e.server (s.state e.server) (w.state e.server) e.act (sym (begun-done e.server))

        in-phase : (j : ℕ) → act_phase (machine_at real net k) e.server (w.state e.server) e.act ≡ Some j → j ≡ k
        in-phase j f = subst (IsInPhase (machine_at real net k) k) f own

        go : (o : Option ℕ) → act_phase (machine_at real net p) e.server (s.state e.server) e.act ≡ o → ActFinds real net s p (act_phase (machine_at real net p) e.server (s.state e.server) e.act) (begun real net p k s) k
        go None f = absurd (none-quiet (machine_at real net k) (machine-laws real (net_at real net k)) w e.server e.act e begun-quiet (sym same ∙ f) (step-entry (machine_at real net k) w e v step))
        go (Some j) f =
            let is : j ≡ k = in-phase j (sym same ∙ f) in
            subst (λ z. ActFinds real net s p z (begun real net p k s) k) (sym (f ∙ ap Some is)) (refl, inr (less, through, quiet, refl))

  -- the entries of a phase go on from the state before it
  module _ (end : State real) (last phase : ℕ) (through : IsThrough (machine_at real net last) (at_phase real net last end) phase) (quiet : IsQuiet (machine_at real net last) (at_phase real net last end))
      (es : List (NetEntry real (net_at real net phase))) (some : es ≡ [] → ⊥) (w' : Network real (net_at real net phase))
      (part : IsPhaseRun (machine_at real net phase) phase (at_phase real net phase (entered real net last phase end)) es w') where
    entered-is : (b : Bool) → (last == phase) ≡ b → entered real net last phase end ≡ cond b end (begun real net last phase end)
    entered-is b e = ap (λ z. cond z end (begun real net last phase end)) e

    from : (z : State real) → entered real net last phase end ≡ z → IsPhaseRun (machine_at real net phase) phase (at_phase real net phase z) es w'
    from z e = subst (λ (z : State real). IsPhaseRun (machine_at real net phase) phase (at_phase real net phase z) es w') e part

    phase-goes-on : (last < phase) ⊎ ((last ≡ phase) × (with_clocks_raised real net last end ≡ end)) → IsPhasedRun real net end last (entries_off real net phase es) (off real (net_at real net phase) w') phase
    phase-goes-on (inl l) = begins end last phase l through quiet es some w' (from (begun real net last phase end) (entered-is false (ne_eqb last phase (λ e. omega (arith, l, e)))))
    phase-goes-on (inr (e, f)) = subst (λ z. IsPhasedRun real net end z (entries_off real net phase es) (off real (net_at real net phase) w') phase) (sym e)
        (run-here real net phase (at_phase real net phase end) phase es w' phase (part-run (machine_at real net phase) phase (at_phase real net phase end) es w' (from end (entered-is true (eq-eqb last phase e)))) refl refl)

  -- clocks and stamps on links are below a thousand million
  record IsLow (state : State real) : Type 0 where
    clocks : (server : ℕ) → state.clock server < 1000000000
    puts : (from to : ℕ) (message : Stamped (Message real)) → Has message (state.put from to) → message.stamp < 1000000000

  -- to enter a phase makes no stamp
  entered-low : (end : State real) (last phase : ℕ) → IsLow end → IsLow (entered real net last phase end)
  entered-low end last phase low = go (last == phase) (is_one_tree real net last phase)
    where
      top : greatest (machine_at real net last) end.clock net.servers < 1000000000
      top = let le = greatest-below (machine_at real net last) 999999999 end.clock net.servers (λ t h. let c = low.clocks t in omega (arith, c)) in omega (arith, le)

      go : (same one : Bool) → IsLow (cond same end (cond one (with_clocks_raised real net last end) (with_tree_changed real net last phase end)))
      go true one = low
      go false true = record { clocks = λ server. top; puts = low.puts }
      go false false = record { clocks = λ server. top; puts = λ a b m h. absurd h }

-- at the end of each run
run-low : (net : NetParts) → IsSound net → (journal : List JournalEntry) (end : State real) (last : ℕ) → IsPhasedRun real (phased_net net) (opening_moment real (phased_net net)).state 0 journal end last → IsLow (phased_net net) end
run-low net sound journal end last legal =
    let run : PhasedRun real = record { net = phased_net net; laws = net-laws net sound; journal = journal; end = end; last = last; legal = legal } in
    let low = stays-low net sound run refl in
    record { clocks = low.clocks; puts = low.puts }

module _ (net : NetParts) (last phase : ℕ) (old started now : List CellParts) (is : IsPhaseBegun net last phase old started now) where
  abbrev begun-cells : ℕ → Cell (machine_in net phase)
  begun-cells = is.enters.begun

  abbrev hand : AreAllInHand net phase now begun-cells
  hand = is.reached begun-cells (are-begun net last phase (state_of net last is.stood.ends) started now is.enters is.roots_stay)

  abbrev before : State real
  before = state_of net last is.stood.ends

  before-low : IsLow (phased_net net) before
  before-low = run-low net is.hand.sound is.stood.sofar before last is.stood.between.run

  part : IsPhaseRun (machine_in net phase) phase (at_phase real (phased_net net) phase (entered real (phased_net net) last phase before)) hand.merged (network_of (machine_in net phase) hand.ends)
  part = subst (λ z. IsPhaseRun (machine_in net phase) phase z hand.merged (network_of (machine_in net phase) hand.ends)) (sym is.enters.enters)
      (merged-parts (machine_in net phase) phase hand.merged hand.in_hand.merge.order begun-cells hand.ends (λ t. subst (λ z. IsReplay (machine_in net phase) phase t (begun-cells t) z (hand.ends t)) (sym (hand.in_hand.merge.parts t)) (hand.in_hand.replay t)) hand.in_hand.took)

  -- the state with all cells in hand is low: nothing was done since the phase was entered, or it is the end of a run
  reached-low : IsLow (phased_net net) (state_of net phase hand.ends)
  reached-low = go hand.merged refl
    where
      go : (merged : List (NetEntry real (net_at real (phased_net net) phase))) → hand.merged ≡ merged → IsLow (phased_net net) (state_of net phase hand.ends)
      go [] none =
          let same : at_phase real (phased_net net) phase (entered real (phased_net net) last phase before) ≡ network_of (machine_in net phase) hand.ends = subst (λ es. IsPhaseRun (machine_in net phase) phase (at_phase real (phased_net net) phase (entered real (phased_net net) last phase before)) es (network_of (machine_in net phase) hand.ends)) none part in
          let low = entered-low (phased_net net) before last phase before-low in
          subst (λ (n : Network real (net_at real (phased_net net) phase)). IsLow (phased_net net) (off real (net_at real (phased_net net) phase) n)) same (record { clocks = low.clocks; puts = low.puts })
      go (e ∷ es) there =
          run-low net is.hand.sound (is.stood.sofar ++ entries_off real (phased_net net) phase hand.merged) (state_of net phase hand.ends) phase
          (run-append real (phased_net net) (opening_moment real (phased_net net)).state 0 is.stood.sofar before last (entries_off real (phased_net net) phase hand.merged) (state_of net phase hand.ends) phase is.stood.between.run
          (phase-goes-on (phased_net net) before last phase is.stood.between.through is.stood.between.quiet hand.merged (λ none. let q : e ∷ es ≡ [] = sym there ∙ none in cc) (network_of (machine_in net phase) hand.ends) part is.stood.between.phase))

  pub never-worn : (stamp : ℕ) → IsWornSomewhere stamp (sights now) → ⊥
  never-worn stamp worn =
      let k = worn.1.0 in
      let f = found-map sight k now worn.1.1 worn.1.2 in
      let stands = hand.stand k f.0 f.1 in
      elim (subst HasLast (sym f.2) worn.1.3) [
        | inl c ↦ (
            let low : (hand.ends (suc k)).clock < 1000000000 = reached-low.clocks (suc k) in
            let same : f.0.held.core.clock ≡ (hand.ends (suc k)).clock = stands.clock in
            let last-one : f.0.held.core.clock ≡ last_stamp = c in
            omega (arith, low, same, last-one))
        | inr put ↦ (
            let m = put-stamp f.0.root.net.value net f.0.held.links.items put.0 put.1 put.2 in
            let low : m.0.stamp < 1000000000 = reached-low.puts (suc k) put.0 m.0 (subst (λ l. Has m.0 l) (stands.put put.0) m.1) in
            let same : m.0.stamp ≡ put.1.stamp = m.2 in
            let last-one : put.1.stamp ≡ last_stamp = put.3 in
            omega (arith, low, same, last-one))
      ]
