use Rattle.std.proofs.Common.{◌≡◌, ◌+◌, ◌<◌, length, get_or, drop, refl, sym, ap, subst, ◌∙◌, arith}
use Rattle.net_model.proofs.Walking.{drop-end}
use Rattle.law_routing.specs.Walk.{client_turns}
use Rattle.law_phases.specs.Trees.{net_at}
use Rattle.net_model.specs.Real.{real}
use Rattle.net_model.specs.Nets.{phased_net, clients_of}
use Rattle.net_turns.specs.Trying.{script_turns, server_turns}
use Rattle.net_turns.proofs.Later.{later-same, later-on, later-net}
use Rattle.net_turns.proofs.Homes.{client-lives, clients-left}
use Rattle.net_turns.proofs.trying.make_commands_at.Goals as goal
use Rattle.base.proofs.Results.{on-err}

pub loop-place-init : goal.loop-place-init
loop-place-init g c =
    let t = g.N.Turning.trying in
    let at = g.N.Turning.seen in
    record {
      later = later-same (at c.args.network.now) (at c.args.network.now) refl;
      way = t.going_starts c.args.phase (server_turns (at c.args.network.now).net (t.tree_phase c.args.phase) c.args.server) (at c.args.network.now);
    }

pub make_script-requires-clause-net : goal.make_script-requires-clause-net
make_script-requires-clause-net g c =
    let at = g.N.Turning.seen in
    c.requires.net ∙ sym (later-net (at c.args.network.now) (at c.loop-place.network) c.loop-place.invariant.later)

pub make_script-requires-clause-client : goal.make_script-requires-clause-client
make_script-requires-clause-client g c =
    let t = g.N.Turning.trying in
    let at = g.N.Turning.seen in
    let net-same = later-net (at c.args.network.now) (at c.loop-place.network) c.loop-place.invariant.later in
    let less : c.loop-place.place < length c.clients.result.now = omega (arith, c.loop-place-test.true, ap length (c.clients.ensures ∙ (ap (λ n. clients_of n c.args.server) net-same ∙ sym c.clients-place-end.ensures))) in
    let x = client-lives (at c.loop-place.network).net c.args.server c.clients.result.now c.loop-place.place c.clients.ensures less in
    (x.some, x.most)

pub loop-place-preserved : goal.loop-place-preserved
loop-place-preserved g c =
    let t = g.N.Turning.trying in
    let at = g.N.Turning.seen in
    let net = (at c.args.network.now).net in
    let net-same = later-net (at c.args.network.now) (at c.loop-place.network) c.loop-place.invariant.later in
    let same : c.clients.result.now ≡ clients_of (at c.args.network.now).net c.args.server = c.clients.ensures ∙ ap (λ n. clients_of n c.args.server) net-same in
    let less : c.loop-place.place < length c.clients.result.now = omega (arith, c.loop-place-test.true, ap length (same ∙ sym c.clients-place-end.ensures)) in
    let client = get_or c.clients.result.now c.loop-place.place 0 in
    record {
      later = later-on (at c.args.network.now) (at c.loop-place.network) (at c.make_script.new.network) c.loop-place.invariant.later c.in_ok-make_script.ensures.later;
      way = t.going_on c.args.phase (server_turns net (t.tree_phase c.args.phase) c.args.server) (client_turns real (net_at real (phased_net net) (t.tree_phase c.args.phase)) c.args.server (drop c.loop-place.place (clients_of net c.args.server)))
          (script_turns net (t.tree_phase c.args.phase) client) (client_turns real (net_at real (phased_net net) (t.tree_phase c.args.phase)) c.args.server (drop (c.loop-place.place + 1) (clients_of net c.args.server))) (at c.args.network.now) (at c.loop-place.network) (at c.make_script.new.network)
          (clients-left net (t.tree_phase c.args.phase) c.args.server c.clients.result.now c.loop-place.place same less) c.loop-place.invariant.way
          (subst (λ n. t.Tries c.args.phase (script_turns n (t.tree_phase c.args.phase) client) (at c.loop-place.network) (at c.make_script.new.network)) net-same c.in_ok-make_script.ensures.tried);
    }

pub returns-clause-tried : goal.returns-clause-tried
returns-clause-tried g c =
    let t = g.N.Turning.trying in
    let at = g.N.Turning.seen in
    let net = (at c.args.network.now).net in
    t.going_ends c.args.phase (server_turns net (t.tree_phase c.args.phase) c.args.server) (client_turns real (net_at real (phased_net net) (t.tree_phase c.args.phase)) c.args.server (drop c.loop-place.place (clients_of net c.args.server))) (at c.args.network.now) (at c.loop-place.network)
    (ap (client_turns real (net_at real (phased_net net) (t.tree_phase c.args.phase)) c.args.server) (drop-end (clients_of net c.args.server) c.loop-place.place (omega (arith, c.loop-place-test.false, ap length c.clients-place-end.ensures)))) c.loop-place.invariant.way

pub returns-in_err-make_script-clause-begun : goal.returns-in_err-make_script-clause-begun
returns-in_err-make_script-clause-begun g c =
    let t = g.N.Turning.trying in
    let at = g.N.Turning.seen in
    let net = (at c.args.network.now).net in
    let net-same = later-net (at c.args.network.now) (at c.loop-place.network) c.loop-place.invariant.later in
    let same : c.clients.result.now ≡ clients_of (at c.args.network.now).net c.args.server = c.clients.ensures ∙ ap (λ n. clients_of n c.args.server) net-same in
    let less : c.loop-place.place < length c.clients.result.now = omega (arith, c.loop-place-test.true, ap length (same ∙ sym c.clients-place-end.ensures)) in
    let client = get_or c.clients.result.now c.loop-place.place 0 in
    on-err c.from_residual.result
    (t.going_breaks c.args.phase (server_turns net (t.tree_phase c.args.phase) c.args.server) (client_turns real (net_at real (phased_net net) (t.tree_phase c.args.phase)) c.args.server (drop c.loop-place.place (clients_of net c.args.server)))
    (script_turns net (t.tree_phase c.args.phase) client) (client_turns real (net_at real (phased_net net) (t.tree_phase c.args.phase)) c.args.server (drop (c.loop-place.place + 1) (clients_of net c.args.server))) (at c.args.network.now) (at c.loop-place.network) (at c.make_script.new.network)
    (clients-left net (t.tree_phase c.args.phase) c.args.server c.clients.result.now c.loop-place.place same less) c.loop-place.invariant.way
    (subst (λ n. t.Begins c.args.phase (script_turns n (t.tree_phase c.args.phase) client) (at c.loop-place.network) (at c.make_script.new.network)) net-same c.in_err-make_script.ensures.begun))
