use Rattle.std.proofs.Common.{◌-◌, drop}
use Rattle.law_routing.specs.Walk.{command_turns}
use Rattle.law_phases.specs.Trees.{net_at}
use Rattle.net_model.specs.Real.{real}
use Rattle.net_model.specs.Nets.{phased_net, servers_in}
use Rattle.net_turns.specs.Network.{IsLater}
use Rattle.net_turns.specs.Trying.{commands_turns}
use Rattle.net_turns.proofs.trying.make_commands.Given as goal

abbrev pub invariant-loop-server : goal.invariant-loop-server
invariant-loop-server g l =
    let t = g.N.Turning.trying in
    let at = g.N.Turning.seen in
    record {
      later : IsLater (at l.fn.network) (at l.network);
      way : t.Going l.phase (commands_turns (at l.fn.network).net (t.tree_phase l.phase)) (command_turns real (net_at real (phased_net (at l.fn.network).net) (t.tree_phase l.phase)) (drop (l.server - 1) (servers_in (at l.fn.network).net))) (at l.fn.network) (at l.network);
    }
