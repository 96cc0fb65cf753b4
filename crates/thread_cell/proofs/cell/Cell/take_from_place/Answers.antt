use Rattle.std.proofs.Common.{arith}
use Rattle.std.proofs.lemmas.Grind.{common_steps}
use Rattle.thread_cell.proofs.Walkers.{same-links-still, sight-after, suits-place, place-idle, place-worn}
use Rattle.thread_cell.proofs.cell.Cell.take_from_place.Goals as goal

pub turn-requires : goal.turn-requires
turn-requires g c = record { suits = suits-place c.args.self.now c.lemma_kept.ensures c.args.place c.neighbour.result c.neighbour.ensures }

pub returns-clause-idle : goal.returns-clause-idle
returns-clause-idle g c q =
    let i = place-idle c.args.self.now c.lemma_kept.ensures c.args.place c.neighbour.result c.neighbour.ensures c.turn.new.self.held c.turn.new.self.journal _ c.in_ok-turned.ensures.answers (c.was_made.ensures q) in
    (sight-after c.args.self.now c.turn.new.self c.turn.ensures.root i.0, same-links-still c.args.self.now.held c.turn.new.self.held c.args.self.now.journal c.turn.new.self.journal i.0, i.1)

pub returns-in_err-turned-clause-worn : goal.returns-in_err-turned-clause-worn
returns-in_err-turned-clause-worn g c s e = (
  sight-after c.args.self.now c.turn.new.self c.turn.ensures.root c.in_err-turned.ensures.still,
  place-worn c.args.self.now c.lemma_kept.ensures c.args.place c.neighbour.result c.neighbour.ensures c.turn.new.self.held c.turn.new.self.journal s c.in_err-turned.ensures.still
      (c.in_err-turned.ensures.worn s (grind (arith, common_steps, e, c.from_residual.ensures.1))),
)
