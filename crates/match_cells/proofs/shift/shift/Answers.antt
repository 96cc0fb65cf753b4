use Rattle.std.proofs.Common.{false, eqb-true, eq-eqb, arith}
use Rattle.match_cells.specs.declared.ask.Ask.{Ask}
use Rattle.match_cells.proofs.Shifts.{continues-more, lost-more, show-more}
use Rattle.match_cells.proofs.shift.shift.Goals as goal

pub loop-i-preserved : goal.loop-i-preserved
loop-i-preserved c =
    let d : Ask = record { id = 0; below = false; at = false; above = false } in (
      lost-more c.args.asks.now c.loop-i.i d (omega arith) c.loop-i.lost c.args.lost.now c.counted-left.result c.args.from c.args.to (omega (arith, c.requires.known d c.loop-i.i (omega arith)))
          (rw (c.met.ensures, c.met-in-loop-i.ensures) at c.counted-left.ensures) c.loop-i.invariant.0,
      continues-more c.args.history.now c.loop-i.history c.put.new.self c.loop-i.invariant.1 c.in_ok-put.ensures.continues,
      show-more c.args.asks.now c.loop-i.i d (omega arith) c.loop-i.lost c.args.lost.now c.counted-left.result _ c.args.history.now c.loop-i.history c.put.new.self (omega (arith, c.requires.known d c.loop-i.i (omega arith)))
          (λ e. eqb-true c.counted-left.result 0 e, λ e. eq-eqb c.counted-left.result 0 e) c.in_ok-put.ensures c.loop-i.invariant.2,
    )
