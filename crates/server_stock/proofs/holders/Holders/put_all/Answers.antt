use Rattle.std.proofs.Common.{[], ◌∷◌, set, take, get_or, ap, ◌∙◌, arith}
use Rattle.server_stock.specs.Held.{row_at, with}
use Rattle.server_stock.proofs.Counts.{set-again, with-more}
use Rattle.server_stock.proofs.holders.Holders.put_all.Goals as goal
use Rattle.base.proofs.Sets.{get_or-has}

pub put-requires-clause-number : goal.put-requires-clause-number
put-requires-clause-number c =
    let h = c.requires.add (get_or c.args.add.now c.loop-i.i-index 0) (get_or-has c.args.add.now c.loop-i.i-index 0 (omega arith)) in
    let w = c.loop-i.invariant.width in
    omega (arith, h, w)

pub loop-i-preserved : goal.loop-i-preserved
loop-i-preserved c =
    let v = c.loop-i.invariant in
    let p = c.args.place in
    let rows = c.args.self.now.rows in
    let xs = c.args.add.now in
    let i = c.loop-i.i-index in
    record {
      width = c.put.ensures.width ∙ v.width;
      rows = c.put.ensures.rows
          ∙ (set-again rows c.loop-i.self.rows p (with (row_at rows p) (take i xs)) (λ r. with r (get_or xs i 0 ∷ [])) (omega arith) v.rows
          ∙ ap (set rows p) (with-more (row_at rows p) c.lemma_sorted.ensures.set.rising xs i (omega arith)));
    }
