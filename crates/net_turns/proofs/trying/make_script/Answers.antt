use Rattle.std.proofs.Common.{◌≡◌, ◌+◌, ◌-◌, suc, [], ◌∷◌, length, refl, ap, subst, arith}
use Rattle.law_machine.specs.Walk.{repeated}
use Rattle.law_phases.specs.Trees.{machine_at}
use Rattle.net_model.specs.Real.{real}
use Rattle.net_model.specs.Nets.{phased_net, script_of}
use Rattle.net_turns.specs.Trying.{command_turn, script_turns}
use Rattle.net_turns.proofs.Later.{later-same, later-on, later-net}
use Rattle.net_turns.proofs.Going.{going-repeats}
use Rattle.net_turns.proofs.Going.{repeat-breaks}
use Rattle.net_turns.proofs.trying.make_script.Goals as goal
use Rattle.base.proofs.Results.{on-err}

pub loop-init : goal.loop-init
loop-init g c =
    let t = g.N.Turning.trying in
    let at = g.N.Turning.seen in
    let turns = script_turns (at c.args.network.now).net (t.tree_phase c.args.phase) c.args.client in
    let all : length (script_of (at c.args.network.now).net c.args.client) ≡ length (script_of (at c.args.network.now).net c.args.client) - 0 = omega arith in
    record {
      later = later-same (at c.args.network.now) (at c.args.network.now) refl;
      way = subst (λ n. t.Going c.args.phase turns (repeated (machine_at real (phased_net (at c.args.network.now).net) (t.tree_phase c.args.phase)) n (command_turn (at c.args.network.now).net c.args.client ∷ [])) (at c.args.network.now) (at c.args.network.now)) all (t.going_starts c.args.phase turns (at c.args.network.now));
    }

pub loop-preserved : goal.loop-preserved
loop-preserved g c =
    let t = g.N.Turning.trying in
    let at = g.N.Turning.seen in
    let count = length (script_of (at c.args.network.now).net c.args.client) in
    let one : count - c.loop.counter ≡ suc (count - (c.loop.counter + 1)) = omega (arith, c.loop-test.true, c.script_len-end.ensures, ap (λ n. length (script_of n c.args.client)) c.requires.net) in
    record {
      later = later-on (at c.args.network.now) (at c.loop.network) (at c.make_command.new.network) c.loop.invariant.later c.in_ok-make_command.ensures.later;
      way = going-repeats t c.args.phase (t.tree_phase c.args.phase) (count - c.loop.counter) (count - (c.loop.counter + 1)) (script_turns (at c.args.network.now).net (t.tree_phase c.args.phase) c.args.client) (command_turn (at c.args.network.now).net c.args.client ∷ []) (at c.args.network.now) (at c.loop.network) (at c.make_command.new.network)
          one c.loop.invariant.way
          (subst (λ n. t.Tries c.args.phase (command_turn n c.args.client ∷ []) (at c.loop.network) (at c.make_command.new.network)) (later-net (at c.args.network.now) (at c.loop.network) c.loop.invariant.later) c.in_ok-make_command.ensures.tried);
    }

pub returns-then-not-branch-clause-tried : goal.returns-then-not-branch-clause-tried
returns-then-not-branch-clause-tried g c =
    let t = g.N.Turning.trying in
    let at = g.N.Turning.seen in
    let count = length (script_of (at c.args.network.now).net c.args.client) in
    let one : count - c.loop.counter ≡ suc (count - (c.loop.counter + 1)) = omega (arith, c.loop-test.true, c.script_len-end.ensures, ap (λ n. length (script_of n c.args.client)) c.requires.net) in
    t.going_rests c.args.phase (t.tree_phase c.args.phase) (count - c.loop.counter) (count - (c.loop.counter + 1)) (script_turns (at c.args.network.now).net (t.tree_phase c.args.phase) c.args.client) (command_turn (at c.args.network.now).net c.args.client ∷ []) (at c.args.network.now) (at c.loop.network) (at c.make_command.new.network)
    one c.loop.invariant.way
    (subst (λ n. t.Tries c.args.phase (command_turn n c.args.client ∷ []) (at c.loop.network) (at c.make_command.new.network)) (later-net (at c.args.network.now) (at c.loop.network) c.loop.invariant.later) c.in_ok-make_command.ensures.tried)
    (c.in_ok-make_command.ensures.none c.if-not-branch.true)

pub returns-in_err-make_command-clause-begun : goal.returns-in_err-make_command-clause-begun
returns-in_err-make_command-clause-begun g c =
    let t = g.N.Turning.trying in
    let at = g.N.Turning.seen in
    let count = length (script_of (at c.args.network.now).net c.args.client) in
    let one : count - c.loop.counter ≡ suc (count - (c.loop.counter + 1)) = omega (arith, c.loop-test.true, c.script_len-end.ensures, ap (λ n. length (script_of n c.args.client)) c.requires.net) in
    on-err c.from_residual.result
    (repeat-breaks t c.args.phase (t.tree_phase c.args.phase) (count - c.loop.counter) (count - (c.loop.counter + 1)) (script_turns (at c.args.network.now).net (t.tree_phase c.args.phase) c.args.client) (command_turn (at c.args.network.now).net c.args.client ∷ []) (at c.args.network.now) (at c.loop.network) (at c.make_command.new.network)
    one c.loop.invariant.way
    (subst (λ n. t.Begins c.args.phase (command_turn n c.args.client ∷ []) (at c.loop.network) (at c.make_command.new.network)) (later-net (at c.args.network.now) (at c.loop.network) c.loop.invariant.later) c.in_err-make_command.ensures.begun))
