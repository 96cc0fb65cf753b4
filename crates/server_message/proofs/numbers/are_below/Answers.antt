use Rattle.std.proofs.Common.{◌<◌, get_or, arith}
use Rattle.server_message.proofs.Members.{each}
use Rattle.server_message.proofs.numbers.are_below.Goals as goal
use Rattle.base.proofs.Sets.{get_or-has}

pub returns-clause-yes : goal.returns-clause-yes
returns-clause-yes c = λ e. each (λ i. i < c.args.bound) c.args.numbers.now (λ j l. c.loop-number.invariant j (let f = c.loop-number-test.false in omega (arith, l, f)))

pub returns-then-number-bound-clause-no : goal.returns-then-number-bound-clause-no
returns-then-number-bound-clause-no c = λ e h.
    let l = h (get_or c.args.numbers.now c.loop-number.number-index 0) (get_or-has c.args.numbers.now c.loop-number.number-index 0 c.loop-number-test.true) in
    let k = c.if-number-bound.true in omega (arith, l, k)
