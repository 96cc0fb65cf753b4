-- A net on one tree as a net with trees by phase: its runs, its walk and its traces are the same; and a line that becomes a star.
use Rattle.std.proofs.Common.{◌≡◌, ℕ, ◌==◌, ◌<◌, Bool, true, false, cond, List, [], ◌∷◌, ◌++◌, map, Option, Some, None, refl, sym, ap, ap₂, subst, ◌∙◌, arith, inl, inr}
use Rattle.base.specs.Sets.{Has}
use Rattle.law_machine.specs.Machine.{act_phase}
use Rattle.law_machine.specs.Network.{messages_of}
use Rattle.law_machine.specs.Runs.{raised, IsRun}
use Rattle.law_machine.specs.History.{Moment as TreeMoment, as_found as found_on_tree, network_step}
use Rattle.law_routing.specs.Theory.{Theory}
use Rattle.law_routing.specs.Net.{Net, NetLaws, NeverFalls, PhasedCommand, Subscribe, Publish}
use Rattle.law_routing.specs.Routing.{routing_machine, Network, NetEntry, opening}
use Rattle.law_phases.specs.Trees.{off, entry_off, entries_on, PhasedNetLaws}
use Rattle.law_phases.specs.Moments.{Moment, opening_moment, as_found, acted}
use Rattle.law_phases.specs.Runs.{IsRunTo, PhasedRun}
use Rattle.law_phases.specs.AtMoments.{DrainsBy, AllBelow}
use Rattle.law_phases.proofs.Onetree.{run-off, walk-all}
use Rattle.law_phases.proofs.Walks.{walk-drains}
use Rattle.law_phases.proofs.Star.{star-laws}
use Rattle.law_examples.specs.Ranges.{Any, ranges}
use Rattle.law_examples.specs.Trace.{Line, line, outs_to, lines_from, trace, beginning, walk}
use Rattle.law_examples.specs.SmallNets.{in_phase}
use Rattle.law_examples.specs.Phased.{on_one_tree, outs_found, line_of, lines_after, phased_trace, phased_walk, line_becomes_star, subscriber_publishes}
use Rattle.law_examples.proofs.Lawful.{ranges-laws}
use Rattle.law_examples.proofs.LawfulNets.{rises}
use Rattle.base.proofs.Numbers.{each-of-three}

module _ (th : Theory) (net : Net th) where
  pub single-laws : NetLaws th net → PhasedNetLaws th (on_one_tree th net)
  single-laws laws = record {
    first = record { hops = laws.tree; small = laws.small };
    later = λ next h. absurd h;
    rising = tt;
    counted = laws.counted;
    housed = laws.housed;
    lives = laws.lives;
    single = laws.single;
    phased = laws.phased;
  }

  -- a moment of the net as one of the net with trees by phase
  abbrev lift : TreeMoment (routing_machine th net) → Moment th (on_one_tree th net)
  lift moment = record { state = off th net moment.network; phase = moment.phase }

  on-off : (entries : List (NetEntry th net)) → entries_on th net (map (entry_off th net) entries) ≡ entries
  on-off [] = refl
  on-off (entry ∷ entries) = ap (λ z. entry ∷ z) (on-off entries)

  pub single-runs : (entries : List (NetEntry th net)) (end : Network th net) (last : ℕ) → IsRun (routing_machine th net) (opening th net) 0 entries end last
      → IsRunTo th (on_one_tree th net) (opening_moment th (on_one_tree th net)) (map (entry_off th net) entries) (record { state = off th net end; phase = last })
  single-runs entries end last run =
      run-off th (on_one_tree th net) 0 (λ j. refl) (opening_moment th (on_one_tree th net)).state 0 (map (entry_off th net) entries) (off th net end) last
      (subst (λ (z : List (NetEntry th net)). IsRun (routing_machine th net) (opening th net) 0 z end last) (sym (on-off entries)) run)

  pub single-walk : (phases : ℕ) → phased_walk th (on_one_tree th net) phases ≡ map (entry_off th net) (walk th net phases)
  single-walk phases = walk-all th (on_one_tree th net) 0 (λ j. refl) phases (beginning th net)

  cond-lift : (b : Bool) (x y : TreeMoment (routing_machine th net)) → cond b (lift x) (lift y) ≡ lift (cond b x y)
  cond-lift true x y = refl
  cond-lift false x y = refl

  same-found : (moment : TreeMoment (routing_machine th net)) (own : Option ℕ) → as_found th (on_one_tree th net) (lift moment) own ≡ lift (found_on_tree (routing_machine th net) moment own)
  same-found moment None = refl
  same-found moment (Some phase) = cond-lift (moment.phase == phase) moment (record { network = raised (routing_machine th net) moment.network; phase = phase })

  same-outs : (found : TreeMoment (routing_machine th net)) (entry : NetEntry th net) (links : List ℕ) → outs_found th (on_one_tree th net) (lift found) (entry_off th net entry) links ≡ outs_to th net found.network entry links
  same-outs found entry [] = refl
  same-outs found entry (link ∷ links) = ap (λ z. map (λ message. (link, message)) (messages_of (routing_machine th net) found.network entry link) ++ z) (same-outs found entry links)

  -- raised clocks change no message
  raised-outs : (network : Network th net) (entry : NetEntry th net) (links : List ℕ) → outs_to th net (raised (routing_machine th net) network) entry links ≡ outs_to th net network entry links
  raised-outs network entry [] = refl
  raised-outs network entry (link ∷ links) = ap (λ z. map (λ message. (link, message)) (messages_of (routing_machine th net) network entry link) ++ z) (raised-outs network entry links)

  found-outs : (moment : TreeMoment (routing_machine th net)) (own : Option ℕ) (entry : NetEntry th net) (links : List ℕ) → outs_to th net (found_on_tree (routing_machine th net) moment own).network entry links ≡ outs_to th net moment.network entry links
  found-outs moment None entry links = refl
  found-outs moment (Some phase) entry links = go (moment.phase == phase)
    where
      go : (b : Bool) → outs_to th net (cond {A = TreeMoment (routing_machine th net)} b moment (record { network = raised (routing_machine th net) moment.network; phase = phase })).network entry links ≡ outs_to th net moment.network entry links
      go true = refl
      go false = raised-outs moment.network entry links

  same-lines : (moment : TreeMoment (routing_machine th net)) (entries : List (NetEntry th net)) → lines_after th (on_one_tree th net) (lift moment) (map (entry_off th net) entries) ≡ lines_from th net moment entries
  same-lines moment [] = refl
  same-lines moment (entry ∷ entries) =
      let own = act_phase (routing_machine th net) entry.server (moment.network.state entry.server) entry.act in
      let found = found_on_tree (routing_machine th net) moment own in
      let outs = same-outs found entry (net.links entry.server) ∙ found-outs moment own entry (net.links entry.server) in
      ap (λ (z : Moment th (on_one_tree th net)). line_of th (on_one_tree th net) z (entry_off th net entry) ∷ lines_after th (on_one_tree th net) (acted th (on_one_tree th net) z (entry_off th net entry)) (map (entry_off th net) entries)) (same-found moment own) ∙
      ap₂ (λ (x : Line th) (xs : List (Line th)). x ∷ xs) (ap (λ z. line th entry.stamp entry.server entry.act z) outs) (same-lines (network_step (routing_machine th net) moment entry) entries)

  pub single-trace : (entries : List (NetEntry th net)) → phased_trace th (on_one_tree th net) (map (entry_off th net) entries) ≡ trace th net entries
  single-trace entries = same-lines (beginning th net) entries

-- the line that becomes a star keeps the laws, and its walk ends drained
pub star-lawful : PhasedNetLaws ranges line_becomes_star
star-lawful = record {
  first = star-laws.first;
  later = star-laws.later;
  rising = star-laws.rising;
  counted = star-laws.counted;
  housed = star-laws.housed;
  lives = star-laws.lives;
  single = star-laws.single;
  phased = each-of-three (λ c. NeverFalls ranges (line_becomes_star.script c)) (rises (in_phase 0 (Subscribe Any) ∷ []) tt) (rises (in_phase 1 (Publish 1) ∷ []) tt) tt (λ c x y z. rw (x, y) tt);
}

low : AllBelow ranges line_becomes_star 2
low = each-of-three (λ c. (x : PhasedCommand ranges) → Has x (line_becomes_star.script c) → x.phase < 2) (one (in_phase 0 (Subscribe Any)) (omega arith)) (one (in_phase 1 (Publish 1)) (omega arith)) (λ x h. absurd h) (λ c y z w x h. absurd (rw (y, z) at h))
  where
    one : (y : PhasedCommand ranges) → y.phase < 2 → (x : PhasedCommand ranges) → Has x (y ∷ []) → x.phase < 2
    one y l x (inl e) = subst (λ (z : PhasedCommand ranges). z.phase < 2) (sym e) l
    one y l x (inr h) = absurd h

abbrev none : PhasedRun ranges
none = record { net = line_becomes_star; laws = star-lawful; journal = []; end = (opening_moment ranges line_becomes_star).state; last = 0; legal = (refl, refl) }

pub star-drains : DrainsBy ranges line_becomes_star (phased_walk ranges line_becomes_star 2)
star-drains = let x = walk-drains ranges ranges-laws none 2 low (omega arith) in record { end = record { state = x.0; phase = x.1 }; run = x.2; drained = x.3 }

-- its walk as a run
abbrev pub star-run : PhasedRun ranges
star-run = record {
  net = line_becomes_star;
  laws = star-lawful;
  journal = phased_walk ranges line_becomes_star 2;
  end = star-drains.end.state;
  last = star-drains.end.phase;
  legal = star-drains.run;
}

pub publishes-lawful : PhasedNetLaws ranges subscriber_publishes
publishes-lawful = record {
  first = star-laws.first;
  later = star-laws.later;
  rising = star-laws.rising;
  counted = star-laws.counted;
  housed = star-laws.housed;
  lives = star-laws.lives;
  single = star-laws.single;
  phased = each-of-three (λ c. NeverFalls ranges (subscriber_publishes.script c)) (rises (in_phase 0 (Subscribe Any) ∷ in_phase 1 (Publish 1) ∷ []) (omega arith, tt)) tt tt (λ c x y z. rw x tt);
}
