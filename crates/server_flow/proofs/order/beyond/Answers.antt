use Rattle.std.proofs.Common.{◌≡◌, ◌+◌, ◌-◌, ℕ, sym, ap, ◌∙◌, arith}
use Rattle.std.specs.List.{range_with_len}
use Rattle.base.specs.Numbers.{count, sum_over}
use Rattle.base_tree.specs.Hops.{side}
use Rattle.base_tree.specs.Tree.{hop_of}
use Rattle.server_spec.proofs.Ordering.{sum-next}
use Rattle.server_flow.proofs.order.beyond.Goals as goal
use Rattle.server_flow.proofs.order.beyond.Goals.{then-side, else-side}

pub loop-x-preserved : goal.loop-x-preserved
loop-x-preserved c =
    let next = sum-next (λ x. count (side (hop_of c.args.tree.now) c.args.at c.args.of x)) c.loop-x.x c.loop-x.auto.x in
    elim c.if-side.branch [
      | then-side w ↦
          let one : count (side (hop_of c.args.tree.now) c.args.at c.args.of c.loop-x.x) ≡ 1 = ap count (sym c.side.ensures.value ∙ w.if-side.true) in
          record { sum = omega (arith, w.size-is, next, one, c.loop-x.invariant.sum); few = omega (arith, w.size-is, c.loop-x.invariant.few) }
      | else-side w ↦
          let none : count (side (hop_of c.args.tree.now) c.args.at c.args.of c.loop-x.x) ≡ 0 = ap count (sym c.side.ensures.value ∙ w.if-side.false) in
          record { sum = omega (arith, w.size-is, next, none, c.loop-x.invariant.sum); few = omega (arith, w.size-is, c.loop-x.invariant.few) }
    ]

pub returns-after-side : goal.returns-after-side
returns-after-side c =
    let f : ℕ → ℕ = λ x. count (side (hop_of c.args.tree.now) c.args.at c.args.of x) in
    let next = sum-next (λ x. count (side (hop_of c.args.tree.now) c.args.at c.args.of x)) c.loop-x.x c.loop-x.auto.x in
    let last : c.loop-x.x + 1 - 1 ≡ c.args.tree.now.count = omega (arith, c.servers-x-end.ensures.value) in
    let whole = ap (λ z. sum_over (λ x. count (side (hop_of c.args.tree.now) c.args.at c.args.of x)) (range_with_len 1 z)) last in
    elim c.if-side.branch [
      | then-side w ↦
          let one : count (side (hop_of c.args.tree.now) c.args.at c.args.of c.loop-x.x) ≡ 1 = ap count (sym c.side.ensures.value ∙ w.if-side.true) in
          omega (arith, w.size-is, next, one, c.loop-x.invariant.sum, whole)
      | else-side w ↦
          let none : count (side (hop_of c.args.tree.now) c.args.at c.args.of c.loop-x.x) ≡ 0 = ap count (sym c.side.ensures.value ∙ w.if-side.false) in
          omega (arith, w.size-is, next, none, c.loop-x.invariant.sum, whole)
    ]
