use Rattle.std.proofs.Common.{◌≡◌, ◌+◌, ◌-◌, ◌/◌, ◌<◌, ◌∙◌, false, ap, sym, arith, length, get_or, Bool}
use Rattle.std.specs.Ordering.{is_lt, is_gt}
use Rattle.std.proofs.lemmas.Cmp.{upto}
use Rattle.std.proofs.lemmas.List.{get_or_default}
use Rattle.match_index.specs.Lines.{AreSorted}
use Rattle.match_index.proofs.Orders.{down-least}
use Rattle.match_index.proofs.places.rank.Goals as goal

pub loop-low-preserved-then-is_before : goal.loop-low-preserved-then-is_before
loop-low-preserved-then-is_before g c =
    let order = g.K.LineKey.order in
    let total = g.met.K.LineKey.total in
    let keys = c.args.keys.now in
    let x = g.Q.Sought.meant c.args.key in
    let middle = c.loop-low.low + (c.loop-low.high - c.loop-low.low) / 2 in
    let m : middle < length keys = omega (arith, c.loop-low-test.true, c.loop-low.invariant.within) in
    let at = λ (d : g.row.K.Denot). c.index-keys-middle.is ∙ get_or_default keys middle c.index-keys-middle.result d m in
    let r : AreSorted order keys = c.requires.sorted in
    let b : (d : g.row.K.Denot) → is_gt (order (get_or keys middle d) x) ≡ false = λ d. ap {B = Bool} (λ (y : g.row.K.Denot). is_gt (order y x)) (sym (at d)) ∙ c.is_before.ensures.before c.if-is_before.true in
    record {
      ordered = omega (arith, c.loop-low-test.true);
      within = c.loop-low.invariant.within;
      before = λ d k l. upto total (get_or keys k d) (get_or keys middle d) x (r d k middle (omega (arith, l)) m) (b d);
      behind = c.loop-low.invariant.behind;
    }

pub loop-low-preserved : goal.loop-low-preserved
loop-low-preserved g c =
    let order = g.K.LineKey.order in
    let total = g.met.K.LineKey.total in
    let keys = c.args.keys.now in
    let x = g.Q.Sought.meant c.args.key in
    let middle = c.loop-low.low + (c.loop-low.high - c.loop-low.low) / 2 in
    let m : middle < length keys = omega (arith, c.loop-low-test.true, c.loop-low.invariant.within) in
    let at = λ (d : g.row.K.Denot). c.index-keys-middle.is ∙ get_or_default keys middle c.index-keys-middle.result d m in
    let r : AreSorted order keys = c.requires.sorted in
    let b : (d : g.row.K.Denot) → is_lt (order (get_or keys middle d) x) ≡ false = λ d. ap {B = Bool} (λ (y : g.row.K.Denot). is_lt (order y x)) (sym (at d)) ∙ c.is_before.ensures.behind c.if-is_before.false in
    record {
      ordered = omega (arith, c.loop-low-test.true);
      within = omega (arith, m);
      before = c.loop-low.invariant.before;
      behind = λ d k l n. down-least total (get_or keys k d) (get_or keys middle d) x (r d middle k l n) (b d);
    }
