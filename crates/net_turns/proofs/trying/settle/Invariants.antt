use Rattle.std.proofs.Common.{◌≡◌, ◌-◌, ℕ, length}
use Rattle.law_routing.specs.Walk.{enough_rounds}
use Rattle.law_phases.specs.Trees.{net_at}
use Rattle.net_model.specs.Real.{real}
use Rattle.net_model.specs.Nets.{phased_net, topology_at}
use Rattle.net_turns.specs.Network.{IsLater}
use Rattle.net_turns.proofs.WalkRounds.{Settling}
use Rattle.net_turns.proofs.trying.settle.Given as goal

abbrev pub invariant-loop : goal.invariant-loop
invariant-loop g l =
    let t = g.N.Turning.trying in
    let at = g.N.Turning.seen in
    record {
      later : IsLater (at l.fn.network) (at l.network);
      way : (phase : ℕ) → l.tree ≡ topology_at (at l.fn.network).net (t.tree_phase phase) → Settling t phase (t.tree_phase phase) (at l.fn.network) (at l.network);
    }

abbrev pub decreases-loop : goal.decreases-loop
decreases-loop g l =
    let t = g.N.Turning.trying in
    let at = g.N.Turning.seen in
    enough_rounds real (net_at real (phased_net (at l.fn.network).net) (t.tree_phase 0)) - length (at l.network).journal
