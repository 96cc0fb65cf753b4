use Rattle.std.proofs.Common.{sym, subst}
use Rattle.base_devices.specs.Pending.{outlet, Went}
use Rattle.base_devices.proofs.Outlets.{went-then}
use Rattle.net_model.specs.declared.turn.Turn.TheVariants as turns
use Rattle.document_format.specs.DocumentText.{ended, turn_line}
use Rattle.document_format.proofs.document.put_turns.Goals as goal
use Rattle.base.proofs.Lists.{flat_map-take-next}

pub loop-turn-preserved : goal.loop-turn-preserved
loop-turn-preserved g c =
    subst (Went (outlet (g.K.Sink.state c.args.sink.now) c.args.out.now)
    (outlet (g.K.Sink.state c.put_turn.new.sink) c.put_turn.new.out))
    (sym (flat_map-take-next (λ turn. ended (turn_line c.args.clients.now turn.1)) c.args.schedule.now c.loop-turn.turn-index (0, turns.Command 0) c.loop-turn-test.true))
    (went-then _ _ _ _ _ c.loop-turn.invariant c.put_turn.ensures)
