use Rattle.std.proofs.Common.{ap₂, ◌&&◌, Bool}
use Rattle.std.proofs.Common.{◌≡◌, inl, inr, ℕ, get_or, sym, subst, ◌∙◌, arith}
use Rattle.base_bits.specs.Rows.{is_in}
use Rattle.base_order.proofs.Numbers.{has-more}
use Rattle.server_stock.specs.Held.{wanted}
use Rattle.server_stock.proofs.Turns.{step-own, step-settled, step-toward}
use Rattle.server_stock.proofs.sides.renew.Goals as goal
use Rattle.base.proofs.Sets.{get_or-has}

pub is_needed-needed-requires-clause-number : goal.is_needed-needed-requires-clause-number
is_needed-needed-requires-clause-number c = c.requires.changed (get_or c.args.changed.now c.loop-i.i-index 0) (get_or-has c.args.changed.now c.loop-i.i-index 0 (omega arith))

pub set_to-was-requires : goal.set_to-was-requires
set_to-was-requires c =
    let h = c.requires.changed (get_or c.args.changed.now c.loop-i.i-index 0) (get_or-has c.args.changed.now c.loop-i.i-index 0 (omega arith)) in
    let r = c.requires in
    let w = c.loop-i.invariant.width in
    omega (arith, h, r.need, w)

pub loop-i-preserved : goal.loop-i-preserved
loop-i-preserved c =
    let v = c.loop-i.invariant in
    let s = c.set_to-was.ensures in
    let f : ℕ → _ = wanted c.args.offered.now.members c.args.held.now.rows c.args.place in
    let x = get_or c.args.changed.now c.loop-i.i-index 0 in
    let b = (c.is_needed-needed.result && c.has-is_offered.result) in
    let now = c.loop-i.need.members in
    let new = c.set_to-was.new.row.members in
    record {
      width = s.width ∙ v.width;
      settled = λ k h. elim (has-more c.args.changed.now c.loop-i.i-index k (omega arith) h) [
        | inl m ↦ step-settled f x b (ap₂ (λ (x y : Bool). x && y) c.is_needed-needed.ensures c.has-is_offered.ensures) now new s.members k (v.settled k m)
        | inr q ↦ subst (λ z. is_in z new ≡ f z) (sym q) (step-own f x b (ap₂ (λ (x y : Bool). x && y) c.is_needed-needed.ensures c.has-is_offered.ensures) now new s.members)
      ];
      toward = λ k. step-toward f x b (ap₂ (λ (x y : Bool). x && y) c.is_needed-needed.ensures c.has-is_offered.ensures) now new s.members c.args.need.now.members k (v.toward k);
    }

pub has-is_offered-requires : goal.has-is_offered-requires
has-is_offered-requires c =
    let h = c.requires.changed (get_or c.args.changed.now c.loop-i.i-index 0) (get_or-has c.args.changed.now c.loop-i.i-index 0 (omega arith)) in
    let m = c.requires.offered in
    omega (arith, h, m)
