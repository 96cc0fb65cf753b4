use Rattle.std.proofs.Common.{◌≡◌, ◌+◌, ◌-◌, ◌/◌, ◌<◌, ◌∙◌, true, false, ap, sym, arith, length, get_or, Bool}
use Rattle.std.specs.Ordering.{is_gt}
use Rattle.std.proofs.lemmas.Cmp.{upto}
use Rattle.std.proofs.lemmas.List.{get_or_default}
use Rattle.match_index.specs.Lines.{AreSorted}
use Rattle.match_index.proofs.Orders.{down-more}
use Rattle.match_index.proofs.places.upto.Goals as goal

pub returns-then-is_gt-clause-behind : goal.returns-then-is_gt-clause-behind
returns-then-is_gt-clause-behind g c = λ d k l n.
    let order = g.K.LineKey.order in
    let keys = c.args.keys.now in
    let x = g.Q.Sought.meant c.args.key in
    let m : c.args.first < length keys = omega (arith, l, n) in
    let at = c.index-keys-first.is ∙ get_or_default keys c.args.first c.index-keys-first.result d m in
    let r : AreSorted order keys = c.requires.sorted in
    let b : is_gt (order (get_or keys c.args.first d) x) ≡ true = ap {B = Bool} (λ (y : g.row.K.Denot). is_gt (order y x)) (sym at) ∙ ap is_gt (sym c.against.ensures) ∙ sym c.is_gt.ensures ∙ c.if-is_gt.true in
    down-more g.met.K.LineKey.total (get_or keys k d) (get_or keys c.args.first d) x (r d c.args.first k l n) b

pub loop-low-preserved-then-is_gt-2 : goal.loop-low-preserved-then-is_gt-2
loop-low-preserved-then-is_gt-2 g c =
    let order = g.K.LineKey.order in
    let total = g.met.K.LineKey.total in
    let keys = c.args.keys.now in
    let x = g.Q.Sought.meant c.args.key in
    let middle = c.loop-low.low + (c.loop-low.high - c.loop-low.low) / 2 in
    let m : middle < length keys = omega (arith, c.loop-low-test.true, c.loop-low.invariant.within) in
    let at = λ (d : g.row.K.Denot). c.index-keys-middle.is ∙ get_or_default keys middle c.index-keys-middle.result d m in
    let r : AreSorted order keys = c.requires.sorted in
    let b : (d : g.row.K.Denot) → is_gt (order (get_or keys middle d) x) ≡ true = λ d. ap {B = Bool} (λ (y : g.row.K.Denot). is_gt (order y x)) (sym (at d)) ∙ ap is_gt (sym c.against-in-loop-low.ensures) ∙ sym c.is_gt-in-loop-low.ensures ∙ c.if-is_gt-2.true in
    record {
      ordered = omega (arith, c.loop-low-test.true);
      within = omega (arith, m);
      known = c.loop-low.invariant.known;
      before = c.loop-low.invariant.before;
      behind = λ d k l n. down-more total (get_or keys k d) (get_or keys middle d) x (r d middle k l n) (b d);
    }

pub loop-low-preserved : goal.loop-low-preserved
loop-low-preserved g c =
    let order = g.K.LineKey.order in
    let total = g.met.K.LineKey.total in
    let keys = c.args.keys.now in
    let x = g.Q.Sought.meant c.args.key in
    let middle = c.loop-low.low + (c.loop-low.high - c.loop-low.low) / 2 in
    let m : middle < length keys = omega (arith, c.loop-low-test.true, c.loop-low.invariant.within) in
    let at = λ (d : g.row.K.Denot). c.index-keys-middle.is ∙ get_or_default keys middle c.index-keys-middle.result d m in
    let r : AreSorted order keys = c.requires.sorted in
    let b : (d : g.row.K.Denot) → is_gt (order (get_or keys middle d) x) ≡ false = λ d. ap {B = Bool} (λ (y : g.row.K.Denot). is_gt (order y x)) (sym (at d)) ∙ ap is_gt (sym c.against-in-loop-low.ensures) ∙ sym c.is_gt-in-loop-low.ensures ∙ c.if-is_gt-2.false in
    record {
      ordered = omega (arith, c.loop-low-test.true);
      within = c.loop-low.invariant.within;
      known = omega (arith, c.loop-low.invariant.known);
      before = λ d k l. upto total (get_or keys k d) (get_or keys middle d) x (r d k middle (omega (arith, l)) m) (b d);
      behind = c.loop-low.invariant.behind;
    }
