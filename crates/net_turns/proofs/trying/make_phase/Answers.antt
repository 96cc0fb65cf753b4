use Rattle.std.proofs.Common.{sym, ap, subst, ◌∙◌}
use Rattle.base_tree.specs.Tree.{Topology}
use Rattle.net_model.specs.Nets.{first_tree, topology_at}
use Rattle.net_turns.specs.Trying.{commands_turns, rounds_turns}
use Rattle.net_turns.proofs.Later.{later-on, later-net}
use Rattle.net_turns.proofs.Going.{both-tried}
use Rattle.net_turns.proofs.Walks.{on-ok}
use Rattle.net_turns.proofs.Going.{first-begun, second-begun}
use Rattle.net_turns.proofs.Begun.{on-err as begun-on}
use Rattle.net_turns.proofs.trying.make_phase.Goals as goal
use Rattle.net_model.proofs.SoundNets.{count-at}
use Rattle.base.proofs.Results.{on-err}

pub make_commands-requires-clause-servers : goal.make_commands-requires-clause-servers
make_commands-requires-clause-servers g c =
    let t = g.N.Turning.trying in
    let at = g.N.Turning.seen in
    c.servers.ensures.value
    ∙ (ap (λ (z : Topology). z.count) (c.tree-tree.ensures ∙ ap (topology_at c.args.net.now) c.tree_phase.ensures) ∙ count-at c.args.net.now c.requires.sound (t.tree_phase c.args.phase)
    ∙ ap (λ n. (first_tree n.trees).count) c.requires.net)

pub returns : goal.returns
returns g c =
    let t = g.N.Turning.trying in
    let at = g.N.Turning.seen in
    let net-same = later-net (at c.args.network.now) (at c.make_commands.new.network) c.in_ok-make_commands.ensures.later in
    let tree-is = c.tree-tree.ensures ∙ ap (topology_at c.args.net.now) c.tree_phase.ensures ∙ ap (λ n. topology_at n (t.tree_phase c.args.phase)) (c.requires.net ∙ sym net-same) in
    record {
      tried = on-ok c.settle.result
          (λ settled. both-tried t c.args.phase (commands_turns (at c.args.network.now).net (t.tree_phase c.args.phase)) (rounds_turns (at c.args.network.now).net (t.tree_phase c.args.phase)) (at c.args.network.now) (at c.make_commands.new.network) (at c.settle.new.network) c.in_ok-make_commands.ensures.tried
          (subst (λ n. t.Tries c.args.phase (rounds_turns n (t.tree_phase c.args.phase)) (at c.make_commands.new.network) (at c.settle.new.network)) net-same (settled c.args.phase tree-is)))
          c.settle.ensures.tried;
      begun = begun-on c.settle.result
          (λ settled. second-begun t c.args.phase (commands_turns (at c.args.network.now).net (t.tree_phase c.args.phase)) (rounds_turns (at c.args.network.now).net (t.tree_phase c.args.phase)) (at c.args.network.now) (at c.make_commands.new.network) (at c.settle.new.network) c.in_ok-make_commands.ensures.tried
          (subst (λ n. t.Begins c.args.phase (rounds_turns n (t.tree_phase c.args.phase)) (at c.make_commands.new.network) (at c.settle.new.network)) net-same (settled c.args.phase tree-is)))
          c.settle.ensures.begun;
      later = later-on (at c.args.network.now) (at c.make_commands.new.network) (at c.settle.new.network) c.in_ok-make_commands.ensures.later c.settle.ensures.later;
    }

pub returns-in_err-make_commands-clause-begun : goal.returns-in_err-make_commands-clause-begun
returns-in_err-make_commands-clause-begun g c =
    let t = g.N.Turning.trying in
    let at = g.N.Turning.seen in
    on-err c.from_residual.result
    (first-begun t c.args.phase (commands_turns (at c.args.network.now).net (t.tree_phase c.args.phase)) (rounds_turns (at c.args.network.now).net (t.tree_phase c.args.phase)) (at c.args.network.now) (at c.make_commands.new.network) c.in_err-make_commands.ensures.begun)
