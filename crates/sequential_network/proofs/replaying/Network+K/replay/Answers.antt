use Rattle.net_model.specs.declared.turn.Turn.TheVariants as turns
use Rattle.std.proofs.Common.{get_or, refl, subst}
use Rattle.net_turns.specs.Turns.{IsTurn}
use Rattle.net_turns.proofs.Begun.{replay-begun}
use Rattle.net_turns.proofs.Replayed.{replayed-none, replayed-more, stops}
use Rattle.sequential_network.proofs.replaying.Network+K.replay.Goals as goal

pub loop-line-init : goal.loop-line-init
loop-line-init g c = replayed-none c.args.turns.now c.args.self.now

pub loop-line-preserved : goal.loop-line-preserved
loop-line-preserved g c = replayed-more c.args.turns.now c.args.self.now c.loop-line.self c.turn.new.self c.loop-line.line-index (0, turns.Command 0) c.in-Ok-true.field-0 c.loop-line-test.true c.loop-line.invariant c.in-Ok-true.field-0-test c.in-Ok-true.ensures.turn

pub returns-in-Ok-false-clause-bad : goal.returns-in-Ok-false-clause-bad
returns-in-Ok-false-clause-bad g c line e = stops c.args.turns.now c.args.self.now c.loop-line.self c.turn.new.self c.loop-line.line-index line (0, turns.Command 0) c.in-Ok-false.field-0 c.loop-line-test.true c.loop-line.invariant c.in-Ok-false.field-0-test c.in-Ok-false.ensures.turn cc

pub returns-clause-begun : goal.returns-clause-begun
returns-clause-begun g c = replay-begun c.args.turns.now c.args.self.now c.loop-line.self c.loop-line.self c.loop-line.line-index c.loop-line.invariant refl

pub returns-in-Ok-false-clause-begun : goal.returns-in-Ok-false-clause-begun
returns-in-Ok-false-clause-begun g c =
    let turn = (get_or c.args.turns.now c.loop-line.line-index (0, turns.Command 0)).1 in
    replay-begun c.args.turns.now c.args.self.now c.loop-line.self c.turn.new.self c.loop-line.line-index c.loop-line.invariant
    (subst (λ z. IsTurn z turn c.loop-line.self c.turn.new.self) c.in-Ok-false.field-0-test c.in-Ok-false.ensures.turn).0

pub returns-in-Err-clause-begun : goal.returns-in-Err-clause-begun
returns-in-Err-clause-begun g c = replay-begun c.args.turns.now c.args.self.now c.loop-line.self c.turn.new.self c.loop-line.line-index c.loop-line.invariant c.in-Err.ensures.err
