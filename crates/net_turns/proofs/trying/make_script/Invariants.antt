use Rattle.std.proofs.Common.{◌-◌, [], ◌∷◌, length}
use Rattle.law_machine.specs.Walk.{repeated}
use Rattle.law_phases.specs.Trees.{machine_at}
use Rattle.net_model.specs.Real.{real}
use Rattle.net_model.specs.Nets.{phased_net, script_of}
use Rattle.net_turns.specs.Network.{IsLater}
use Rattle.net_turns.specs.Trying.{command_turn, script_turns}
use Rattle.net_turns.proofs.trying.make_script.Given as goal

abbrev pub invariant-loop : goal.invariant-loop
invariant-loop g l =
    let t = g.N.Turning.trying in
    let at = g.N.Turning.seen in
    record {
      later : IsLater (at l.fn.network) (at l.network);
      way : t.Going l.phase (script_turns (at l.fn.network).net (t.tree_phase l.phase) l.client) (repeated (machine_at real (phased_net (at l.fn.network).net) (t.tree_phase l.phase)) (length (script_of (at l.fn.network).net l.client) - l.counter) (command_turn (at l.fn.network).net l.client ∷ [])) (at l.fn.network) (at l.network);
    }
