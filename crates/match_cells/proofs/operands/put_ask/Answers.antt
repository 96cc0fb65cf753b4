use Rattle.std.proofs.Common.{List, length, subst, ap, arith}
use Rattle.match_cells.specs.Places.{IsCell}
use Rattle.match_cells.proofs.Puts.{put-new, put-there}
use Rattle.match_cells.proofs.operands.put_ask.Goals as goal

pub returns-then-cell-eq1-clause-missed : goal.returns-then-cell-eq1-clause-missed
returns-then-cell-eq1-clause-missed g c x k =
    put-there g.K.LineKey.order g.met.K.LineKey.exact x k c.args.cuts.now.items c.args.groups.now.items c.cell_of-cell.result c.args.key c.index_mut.result.now c.push.new.self c.args.ask c.requires.paired
    (subst (λ (cuts : List g.row.K.Denot). IsCell g.K.LineKey.order c.args.key cuts c.cell_of-cell.result) c.deref.ensures.value c.cell_of-cell.ensures.cell)
    (omega (arith, c.cell_of-cell.ensures.within, ap length c.deref.ensures.value)) c.if-cell-eq1.true c.index_mut.ensures.value c.in_ok-push.ensures.items

pub returns-clause-missed : goal.returns-clause-missed
returns-clause-missed g c x k =
    put-new g.K.LineKey.order x k c.args.cuts.now.items c.insert.new.self.items c.args.groups.now.items c.insert-2.new.self.items _ c.args.key c.in_ok-group.group c.args.ask c.requires.paired
    (omega (arith, c.cell_of-cell.ensures.within, ap length c.deref.ensures.value)) c.in_ok-insert.ensures.items c.in_ok-insert-2.ensures.items c.in_ok-group.ensures.items
