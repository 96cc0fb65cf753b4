use Rattle.std.proofs.Common.{◌≡◌, ◌<◌, length, refl, sym, ap, subst, ◌∙◌}
use Rattle.law_routing.specs.Walk.{enough_rounds}
use Rattle.law_phases.specs.Trees.{net_at}
use Rattle.net_model.specs.Real.{real}
use Rattle.net_model.specs.Nets.{phased_net, topology_at}
use Rattle.net_turns.proofs.Later.{later-same, later-on, later-net}
use Rattle.net_turns.proofs.Ranges.{less-left}
use Rattle.net_turns.proofs.WalkRounds.{settling-starts, settling-on, settling-ends}
use Rattle.net_turns.proofs.WalkRounds.{settling-breaks}
use Rattle.net_turns.proofs.trying.settle.Goals as goal
use Rattle.base.proofs.Results.{on-err}

pub loop-init : goal.loop-init
loop-init g c =
    let t = g.N.Turning.trying in
    let at = g.N.Turning.seen in
    record { later = later-same (at c.args.network.now) (at c.args.network.now) refl; way = λ phase e. settling-starts t phase (t.tree_phase phase) (at c.args.network.now) }

pub returns-in_err-make_round-clause-later : goal.returns-in_err-make_round-clause-later
returns-in_err-make_round-clause-later g c =
    let t = g.N.Turning.trying in
    let at = g.N.Turning.seen in
    later-on (at c.args.network.now) (at c.loop.network) (at c.make_round.new.network) c.loop.invariant.later c.make_round.ensures.later

pub loop-smaller : goal.loop-smaller
loop-smaller g c =
    let t = g.N.Turning.trying in
    let at = g.N.Turning.seen in
    let net-same = later-net (at c.args.network.now) (at c.loop.network) c.loop.invariant.later in
    let fewer : length (at c.loop.network).journal < enough_rounds real (net_at real (phased_net (at c.loop.network).net) (t.tree_phase 0)) = c.in_ok-make_round.ensures.bounded 0 in
    let more : length (at c.loop.network).journal < length (at c.make_round.new.network).journal = c.in_ok-make_round.ensures.some c.if-branch.true in
    let same : enough_rounds real (net_at real (phased_net (at c.loop.network).net) (t.tree_phase 0)) ≡ enough_rounds real (net_at real (phased_net (at c.args.network.now).net) (t.tree_phase 0)) = ap (λ n. enough_rounds real (net_at real (phased_net n) (t.tree_phase 0))) net-same in
    less-left (enough_rounds real (net_at real (phased_net (at c.args.network.now).net) (t.tree_phase 0))) (length (at c.loop.network).journal) (length (at c.make_round.new.network).journal) (subst (λ n. length (at c.loop.network).journal < n) same fewer) more

pub loop-preserved : goal.loop-preserved
loop-preserved g c =
    let t = g.N.Turning.trying in
    let at = g.N.Turning.seen in
    record {
      later = later-on (at c.args.network.now) (at c.loop.network) (at c.make_round.new.network) c.loop.invariant.later c.in_ok-make_round.ensures.later;
      way = λ phase e. settling-on t phase (t.tree_phase phase) (at c.args.network.now) (at c.loop.network) (at c.make_round.new.network) c.loop.invariant.later (c.loop.invariant.way phase e) (c.in_ok-make_round.ensures.bounded phase)
          (c.in_ok-make_round.ensures.tried phase (e ∙ ap (λ n. topology_at n (t.tree_phase phase)) (sym (later-net (at c.args.network.now) (at c.loop.network) c.loop.invariant.later)))) (c.in_ok-make_round.ensures.some c.if-branch.true);
    }

pub returns-clause-tried : goal.returns-clause-tried
returns-clause-tried g c =
    let t = g.N.Turning.trying in
    let at = g.N.Turning.seen in
    λ phase e. settling-ends t phase (t.tree_phase phase) (at c.args.network.now) (at c.loop.network) (at c.make_round.new.network) c.loop.invariant.later (c.loop.invariant.way phase e) (c.in_ok-make_round.ensures.bounded phase)
    (c.in_ok-make_round.ensures.tried phase (e ∙ ap (λ n. topology_at n (t.tree_phase phase)) (sym (later-net (at c.args.network.now) (at c.loop.network) c.loop.invariant.later)))) (c.in_ok-make_round.ensures.none c.if-branch.false)

pub returns-clause-later : goal.returns-clause-later
returns-clause-later g c =
    let t = g.N.Turning.trying in
    let at = g.N.Turning.seen in
    later-on (at c.args.network.now) (at c.loop.network) (at c.make_round.new.network) c.loop.invariant.later c.make_round.ensures.later

pub returns-in_err-make_round-clause-begun : goal.returns-in_err-make_round-clause-begun
returns-in_err-make_round-clause-begun g c =
    let t = g.N.Turning.trying in
    let at = g.N.Turning.seen in
    on-err c.from_residual.result
    (λ phase e. settling-breaks t phase (t.tree_phase phase) (at c.args.network.now) (at c.loop.network) (at c.make_round.new.network) c.loop.invariant.later (c.loop.invariant.way phase e) (c.make_round.ensures.bounded phase)
    (c.in_err-make_round.ensures.begun phase (e ∙ ap (λ n. topology_at n (t.tree_phase phase)) (sym (later-net (at c.args.network.now) (at c.loop.network) c.loop.invariant.later)))))
