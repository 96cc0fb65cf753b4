use Rattle.std.proofs.Common.{◌≡◌, ◌+◌, ◌-◌, ◌/◌, ◌<◌, ◌∙◌, true, false, ap, sym, arith, length, get_or, Bool}
use Rattle.std.specs.Ordering.{is_lt}
use Rattle.std.proofs.lemmas.List.{get_or_default}
use Rattle.match_index.specs.Lines.{AreSorted}
use Rattle.match_index.proofs.Orders.{up-less, down-least}
use Rattle.match_index.proofs.places.below.Goals.{then-is_lt, else-is_lt}
use Rattle.match_index.proofs.places.below.Goals as goal

pub loop-left-preserved : goal.loop-left-preserved
loop-left-preserved g c =
    let order = g.K.LineKey.order in
    let total = g.met.K.LineKey.total in
    let keys = c.args.keys.now in
    let x = g.Q.Sought.meant c.args.key in
    let low = c.loop-left.low in
    let left = c.loop-left.left in
    let middle = low + left / 2 in
    let some = c.loop-left-test.true in
    let within = c.loop-left.invariant.within in
    let m : middle < length keys = omega (arith, some, within) in
    let at = λ (d : g.row.K.Denot). c.index-keys-low.is ∙ get_or_default keys middle c.index-keys-low.result d m in
    let told = λ (d : g.row.K.Denot). ap {B = Bool} (λ (y : g.row.K.Denot). is_lt (order y x)) (sym (at d)) ∙ ap is_lt (sym c.against.ensures) ∙ sym c.is_lt.ensures in
    let r : AreSorted order keys = c.requires in
    elim c.if-is_lt.branch [
      | then-is_lt w ↦ record {
        some = omega (arith, some);
        within = omega (arith, w.low-is, some, within);
        before = λ d k l. up-less total (get_or keys k d) (get_or keys middle d) x (r d k middle (omega (arith, l, w.low-is)) m) (told d ∙ w.if-is_lt.true);
        behind = λ d k l n. c.loop-left.invariant.behind d k (omega (arith, l, w.low-is, some)) n;
      }
      | else-is_lt w ↦ record {
        some = omega (arith, some);
        within = omega (arith, w.low-is, some, within);
        before = λ d k l. c.loop-left.invariant.before d k (omega (arith, l, w.low-is));
        behind = λ d k l n. down-least total (get_or keys k d) (get_or keys middle d) x (r d middle k (omega (arith, l, w.low-is, some)) n) (told d ∙ w.if-is_lt.false);
      }
    ]
