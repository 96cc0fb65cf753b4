use Rattle.std.proofs.Common.{arith}
use Rattle.thread_cell.proofs.Places.{is-neighbour, no-neighbour, no-place}
use Rattle.thread_cell.proofs.link.place_in.Goals as goal

pub returns-then-links-place-clause-some : goal.returns-then-links-place-clause-some
returns-then-links-place-clause-some c = is-neighbour c.loop-place.place _ c.args.links.now c.index-links-place.result (omega arith) c.if-links-place.true

pub loop-place-preserved : goal.loop-place-preserved
loop-place-preserved c = no-neighbour _ _ _ c.index-links-place.result (omega arith) c.if-links-place.false c.loop-place.invariant

pub returns-clause-none : goal.returns-clause-none
returns-clause-none c = no-place _ c.loop-place.place _ (omega arith) c.loop-place.invariant
