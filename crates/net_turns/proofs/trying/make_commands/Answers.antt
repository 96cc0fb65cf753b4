use Rattle.std.proofs.Common.{◌+◌, ◌-◌, drop, refl, sym, ap, subst, ◌∙◌, arith}
use Rattle.law_routing.specs.Walk.{command_turns}
use Rattle.law_phases.specs.Trees.{net_at}
use Rattle.net_model.specs.Real.{real}
use Rattle.net_model.specs.Nets.{phased_net, first_tree, servers_in}
use Rattle.net_turns.specs.Trying.{server_turns, commands_turns}
use Rattle.net_turns.proofs.Later.{later-same, later-on, later-net}
use Rattle.net_turns.proofs.Ranges.{servers-past}
use Rattle.net_turns.proofs.Homes.{servers-left, server-there}
use Rattle.net_turns.proofs.trying.make_commands.Goals as goal
use Rattle.base.proofs.Results.{on-err}

pub loop-server-init : goal.loop-server-init
loop-server-init g c =
    let t = g.N.Turning.trying in
    let at = g.N.Turning.seen in
    record {
      later = later-same (at c.args.network.now) (at c.args.network.now) refl;
      way = t.going_starts c.args.phase (commands_turns (at c.args.network.now).net (t.tree_phase c.args.phase)) (at c.args.network.now);
    }

pub make_commands_at-requires-clause-net : goal.make_commands_at-requires-clause-net
make_commands_at-requires-clause-net g c =
    let at = g.N.Turning.seen in
    c.requires.net ∙ sym (later-net (at c.args.network.now) (at c.loop-server.network) c.loop-server.invariant.later)

pub make_commands_at-requires-clause-server : goal.make_commands_at-requires-clause-server
make_commands_at-requires-clause-server g c =
    let at = g.N.Turning.seen in
    let net-same = later-net (at c.args.network.now) (at c.loop-server.network) c.loop-server.invariant.later in
    server-there (at c.loop-server.network).net c.args.servers c.loop-server.server (c.requires.servers ∙ ap (λ n. (first_tree n.trees).count) (sym net-same)) (omega arith) (omega arith)

pub loop-server-preserved : goal.loop-server-preserved
loop-server-preserved g c =
    let t = g.N.Turning.trying in
    let at = g.N.Turning.seen in
    let net = (at c.args.network.now).net in
    let net-same = later-net (at c.args.network.now) (at c.loop-server.network) c.loop-server.invariant.later in
    record {
      later = later-on (at c.args.network.now) (at c.loop-server.network) (at c.make_commands_at.new.network) c.loop-server.invariant.later c.in_ok-make_commands_at.ensures.later;
      way = t.going_on c.args.phase (commands_turns net (t.tree_phase c.args.phase)) (command_turns real (net_at real (phased_net net) (t.tree_phase c.args.phase)) (drop (c.loop-server.server - 1) (servers_in net)))
          (server_turns net (t.tree_phase c.args.phase) c.loop-server.server) (command_turns real (net_at real (phased_net net) (t.tree_phase c.args.phase)) (drop (c.loop-server.server + 1 - 1) (servers_in net))) (at c.args.network.now) (at c.loop-server.network) (at c.make_commands_at.new.network)
          (servers-left net (t.tree_phase c.args.phase) c.args.servers c.loop-server.server c.requires.servers (omega arith) (omega arith)) c.loop-server.invariant.way
          (subst (λ n. t.Tries c.args.phase (server_turns n (t.tree_phase c.args.phase) c.loop-server.server) (at c.loop-server.network) (at c.make_commands_at.new.network)) net-same c.in_ok-make_commands_at.ensures.tried);
    }

pub returns-clause-tried : goal.returns-clause-tried
returns-clause-tried g c =
    let t = g.N.Turning.trying in
    let at = g.N.Turning.seen in
    let net = (at c.args.network.now).net in
    t.going_ends c.args.phase (commands_turns net (t.tree_phase c.args.phase)) (command_turns real (net_at real (phased_net net) (t.tree_phase c.args.phase)) (drop (c.loop-server.server - 1) (servers_in net))) (at c.args.network.now) (at c.loop-server.network)
    (ap (command_turns real (net_at real (phased_net net) (t.tree_phase c.args.phase))) (servers-past (first_tree net.trees).count (c.loop-server.server - 1) (omega (arith, c.requires.servers, c.loop-server-test.false)))) c.loop-server.invariant.way

pub returns-in_ok-make_commands_at-clause-tried : goal.returns-in_ok-make_commands_at-clause-tried
returns-in_ok-make_commands_at-clause-tried g c =
    let t = g.N.Turning.trying in
    let at = g.N.Turning.seen in
    let net = (at c.args.network.now).net in
    let net-same = later-net (at c.args.network.now) (at c.loop-server.network) c.loop-server.invariant.later in
    t.going_ends c.args.phase (commands_turns net (t.tree_phase c.args.phase)) (command_turns real (net_at real (phased_net net) (t.tree_phase c.args.phase)) (drop (c.loop-server.server + 1 - 1) (servers_in net))) (at c.args.network.now) (at c.make_commands_at.new.network)
    (ap (command_turns real (net_at real (phased_net net) (t.tree_phase c.args.phase))) (servers-past (first_tree net.trees).count (c.loop-server.server + 1 - 1) (omega (arith, c.requires.servers))))
    (t.going_on c.args.phase (commands_turns net (t.tree_phase c.args.phase)) (command_turns real (net_at real (phased_net net) (t.tree_phase c.args.phase)) (drop (c.loop-server.server - 1) (servers_in net)))
    (server_turns net (t.tree_phase c.args.phase) c.loop-server.server) (command_turns real (net_at real (phased_net net) (t.tree_phase c.args.phase)) (drop (c.loop-server.server + 1 - 1) (servers_in net))) (at c.args.network.now) (at c.loop-server.network) (at c.make_commands_at.new.network)
    (servers-left net (t.tree_phase c.args.phase) c.args.servers c.loop-server.server c.requires.servers (omega arith) (omega arith)) c.loop-server.invariant.way
    (subst (λ n. t.Tries c.args.phase (server_turns n (t.tree_phase c.args.phase) c.loop-server.server) (at c.loop-server.network) (at c.make_commands_at.new.network)) net-same c.in_ok-make_commands_at.ensures.tried))

pub returns-in_err-make_commands_at-clause-begun : goal.returns-in_err-make_commands_at-clause-begun
returns-in_err-make_commands_at-clause-begun g c =
    let t = g.N.Turning.trying in
    let at = g.N.Turning.seen in
    let net = (at c.args.network.now).net in
    let net-same = later-net (at c.args.network.now) (at c.loop-server.network) c.loop-server.invariant.later in
    on-err c.from_residual.result
    (t.going_breaks c.args.phase (commands_turns net (t.tree_phase c.args.phase)) (command_turns real (net_at real (phased_net net) (t.tree_phase c.args.phase)) (drop (c.loop-server.server - 1) (servers_in net)))
    (server_turns net (t.tree_phase c.args.phase) c.loop-server.server) (command_turns real (net_at real (phased_net net) (t.tree_phase c.args.phase)) (drop (c.loop-server.server + 1 - 1) (servers_in net))) (at c.args.network.now) (at c.loop-server.network) (at c.make_commands_at.new.network)
    (servers-left net (t.tree_phase c.args.phase) c.args.servers c.loop-server.server c.requires.servers (omega arith) (omega arith)) c.loop-server.invariant.way
    (subst (λ n. t.Begins c.args.phase (server_turns n (t.tree_phase c.args.phase) c.loop-server.server) (at c.loop-server.network) (at c.make_commands_at.new.network)) net-same c.in_err-make_commands_at.ensures.begun))
