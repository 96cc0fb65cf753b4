use Rattle.std.proofs.Common.{◌≡◌, ℕ, ap, eqb-true}
use Rattle.law_routing.specs.Theory.{Theory}
use Rattle.law_phases.specs.Trees.{PhasedNet, trees_by, at_phase}
use Rattle.law_phases.specs.Moments.{Moment}
use Rattle.law_phases.specs.OneTree.{HasOneTree}
use Rattle.law_phases.proofs.Onetree.{run-on, run-off, moments-all, walk-all}
use Rattle.law_phases.proofs.one_tree.Goals as goal

each : (th : Theory) (net : PhasedNet th) (k : ℕ) → HasOneTree th net k → (j : ℕ) → trees_by net.later k ≡ trees_by net.later j
each th net k all j = eqb-true (trees_by net.later k) (trees_by net.later j) (all j)

pub returns : goal.returns
returns hold c = record {
  runs = λ net k all before after es. (run-on hold.M.Matching.theory net k (each hold.M.Matching.theory net k all) before.state before.phase es after.state after.phase, run-off hold.M.Matching.theory net k (each hold.M.Matching.theory net k all) before.state before.phase es after.state after.phase);
  states = λ net k all before es n. ap (λ (z : Moment hold.M.Matching.theory net). at_phase hold.M.Matching.theory net k z.state) (moments-all hold.M.Matching.theory net k (each hold.M.Matching.theory net k all) (record { network = at_phase hold.M.Matching.theory net k before.state; phase = before.phase }) es n);
  walk = λ net k all phases moment. walk-all hold.M.Matching.theory net k (each hold.M.Matching.theory net k all) phases (record { network = at_phase hold.M.Matching.theory net k moment.state; phase = moment.phase });
}
