use Rattle.std.proofs.Common.{◌≡◌, ◌∙◌, arith, ap, ℕ}
use Rattle.match_texts.specs.Keys.{number_of, head_of}
use Rattle.match_texts.proofs.Packed.{number-fits}
use Rattle.match_texts.proofs.key.head_of.Goals as goal

pub overflow_mul-head : goal.overflow_mul-head
overflow_mul-head c = omega (arith, number-fits c.loop-i.i c.args.x.now (λ i. omega (arith, c.type_inv.x i)) c.loop-i-test.true, c.loop-i.invariant)

pub overflow_add-head : goal.overflow_add-head
overflow_add-head c = omega (arith, number-fits c.loop-i.i c.args.x.now (λ i. omega (arith, c.type_inv.x i)) c.loop-i-test.true, c.loop-i.invariant)

pub returns : goal.returns
unfolding head_of
returns c =
    let e : c.loop-i.i ≡ 8 = omega arith in
    c.loop-i.invariant ∙ ap (λ (i : ℕ). number_of i c.args.x.now) e
