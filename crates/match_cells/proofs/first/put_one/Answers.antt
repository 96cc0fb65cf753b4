use Rattle.std.proofs.Common.{◌+◌, false, sym, subst, take}
use Rattle.match_cells.specs.declared.ask.Ask.{Ask}
use Rattle.match_cells.proofs.Firsts.{Has, has-put, has-still}
use Rattle.match_cells.proofs.first.put_one.Goals as goal
use Rattle.match_cells.proofs.first.put_one.Goals.{then-lost-k-eq0, else-lost-k-eq0}

pub loop-i-preserved : goal.loop-i-preserved
loop-i-preserved c =
    let d : Ask = record { id = 0; below = false; at = false; above = false } in
    let P = Has c.args.words.now c.args.lost.now (take (c.loop-i.i + 1) c.args.asks.now) in
    elim c.if-lost-k-eq0.branch [
      | then-lost-k-eq0 w ↦
          subst P (sym w.words-is)
          (has-put c.args.asks.now c.loop-i.i d c.loop-i-test.true c.args.words.now c.args.lost.now c.loop-i.words c.loop-i.invariant w.put.new.words w.if-lost-k-eq0.true w.put.ensures.there w.put.ensures.others)
      | else-lost-k-eq0 w ↦
          subst P (sym w.words-is)
          (has-still c.args.asks.now c.loop-i.i d c.loop-i-test.true c.args.words.now c.args.lost.now c.loop-i.words c.loop-i.invariant w.if-lost-k-eq0.false)
    ]
