use Rattle.std.proofs.Common.{[], ◌∷◌, set, take, get_or, refl, ap, sym, ◌∙◌, arith}
use Rattle.server_stock.specs.Held.{row_at, without}
use Rattle.server_stock.proofs.Counts.{set-none, set-again, without-none, without-more}
use Rattle.server_stock.proofs.holders.Holders.take_all.Goals as goal
use Rattle.base.proofs.Sets.{get_or-has}

pub loop-i-init : goal.loop-i-init
loop-i-init c =
    let rows = c.args.self.now.rows in
    record {
      width = refl;
      rows = sym (set-none rows c.args.place (without (row_at rows c.args.place) []) (without-none (row_at rows c.args.place) c.lemma_sorted.ensures.set.rising));
    }

pub take-requires-clause-number : goal.take-requires-clause-number
take-requires-clause-number c =
    let h = c.requires.out (get_or c.args.out.now c.loop-i.i-index 0) (get_or-has c.args.out.now c.loop-i.i-index 0 (omega arith)) in
    let w = c.loop-i.invariant.width in
    omega (arith, h, w)

pub loop-i-preserved : goal.loop-i-preserved
loop-i-preserved c =
    let v = c.loop-i.invariant in
    let p = c.args.place in
    let rows = c.args.self.now.rows in
    let xs = c.args.out.now in
    let i = c.loop-i.i-index in
    record {
      width = c.take.ensures.width ∙ v.width;
      rows = c.take.ensures.rows
          ∙ (set-again rows c.loop-i.self.rows p (without (row_at rows p) (take i xs)) (λ r. without r (get_or xs i 0 ∷ [])) (omega arith) v.rows
          ∙ ap (set rows p) (without-more (row_at rows p) c.lemma_sorted.ensures.set.rising xs i (omega arith)));
    }
