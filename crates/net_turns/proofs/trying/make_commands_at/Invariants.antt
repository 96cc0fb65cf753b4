use Rattle.std.proofs.Common.{drop}
use Rattle.law_routing.specs.Walk.{client_turns}
use Rattle.law_phases.specs.Trees.{net_at}
use Rattle.net_model.specs.Real.{real}
use Rattle.net_model.specs.Nets.{phased_net, clients_of}
use Rattle.net_turns.specs.Network.{IsLater}
use Rattle.net_turns.specs.Trying.{server_turns}
use Rattle.net_turns.proofs.trying.make_commands_at.Given as goal

abbrev pub invariant-loop-place : goal.invariant-loop-place
invariant-loop-place g l =
    let t = g.N.Turning.trying in
    let at = g.N.Turning.seen in
    record {
      later : IsLater (at l.fn.network) (at l.network);
      way : t.Going l.phase (server_turns (at l.fn.network).net (t.tree_phase l.phase) l.server) (client_turns real (net_at real (phased_net (at l.fn.network).net) (t.tree_phase l.phase)) l.server (drop l.place (clients_of (at l.fn.network).net l.server))) (at l.fn.network) (at l.network);
    }
