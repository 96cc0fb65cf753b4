use Rattle.std.proofs.Common.{[], ◌∷◌, get_or, drop, refl, ap, arith, ◌+◌}
use Rattle.law_machine.specs.Machine.{Received}
use Rattle.net_model.specs.declared.turn.Turn.TheVariants as turns
use Rattle.net_model.proofs.Walking.{drop-end}
use Rattle.net_turns.specs.Trying.{receptions}
use Rattle.net_turns.proofs.Later.{later-same, later-on}
use Rattle.net_turns.proofs.Going.{going-stops}
use Rattle.net_turns.proofs.trying.receive_each.Goals as goal
use Rattle.base.proofs.Lists.{drop-next}
use Rattle.base.proofs.Results.{on-err}

pub loop-from-init : goal.loop-from-init
loop-from-init g c =
    let t = g.N.Turning.trying in
    let at = g.N.Turning.seen in
    record {
      later = later-same (at c.args.network.now) (at c.args.network.now) refl;
      way = λ phase. t.going_starts phase (receptions c.args.server c.args.neighbours.now) (at c.args.network.now);
    }

pub loop-from-preserved : goal.loop-from-preserved
loop-from-preserved g c =
    let t = g.N.Turning.trying in
    let at = g.N.Turning.seen in
    let neighbours = c.args.neighbours.now in
    let from = get_or c.args.neighbours.now c.loop-from.from-index 0 in
    let turn = turns.Receive c.args.server from in
    record {
      later = later-on (at c.args.network.now) (at c.loop-from.network) (at c.make.new.self) c.loop-from.invariant.later (t.turn_later c.in_ok-make.field-0 turn (at c.loop-from.network) (at c.make.new.self) c.in_ok-make.ensures.turn);
      way = λ phase. t.going_on phase (receptions c.args.server neighbours) (receptions c.args.server (drop c.loop-from.from-index neighbours)) ((c.args.server, Received from) ∷ []) (receptions c.args.server (drop (c.loop-from.from-index + 1) neighbours)) (at c.args.network.now) (at c.loop-from.network) (at c.make.new.self)
          (ap (receptions c.args.server) (drop-next neighbours c.loop-from.from-index 0 c.loop-from-test.true)) (c.loop-from.invariant.way phase)
          (t.tries_take c.in_ok-make.field-0 c.args.server from phase (at c.loop-from.network) (at c.make.new.self) c.in_ok-make.ensures.turn);
    }

pub returns-clause-tried : goal.returns-clause-tried
returns-clause-tried g c =
    let t = g.N.Turning.trying in
    let at = g.N.Turning.seen in
    λ phase. t.going_ends phase (receptions c.args.server c.args.neighbours.now) (receptions c.args.server (drop c.loop-from.from-index c.args.neighbours.now)) (at c.args.network.now) (at c.loop-from.network)
    (ap (receptions c.args.server) (drop-end c.args.neighbours.now c.loop-from.from-index (omega arith))) (c.loop-from.invariant.way phase)

pub returns-in_err-make-clause-begun : goal.returns-in_err-make-clause-begun
returns-in_err-make-clause-begun g c =
    let t = g.N.Turning.trying in
    let at = g.N.Turning.seen in
    on-err c.from_residual.result (λ phase. going-stops t phase (receptions c.args.server c.args.neighbours.now) (receptions c.args.server (drop c.loop-from.from-index c.args.neighbours.now)) (at c.args.network.now) (at c.loop-from.network) (at c.make.new.self)
    (c.loop-from.invariant.way phase) c.in_err-make.ensures.err)
