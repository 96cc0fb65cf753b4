use Rattle.std.proofs.Common.{◌≡◌, suc, ◌+◌, ◌-◌, ◌<◌, get_or, subst, arith}
use Rattle.server_message.proofs.Members.{rises, rising-at}
use Rattle.server_message.proofs.numbers.are_rising.Goals as goal

pub returns-clause-yes : goal.returns-clause-yes
returns-clause-yes c = λ e. rises c.args.numbers.now (λ k l. let same : k + 1 ≡ suc k = omega arith in subst (λ z. get_or c.args.numbers.now k 0 < get_or c.args.numbers.now z 0) same (c.loop-place.invariant k (omega (arith, l))))

pub returns-then-numbers-place-clause-no : goal.returns-then-numbers-place-clause-no
returns-then-numbers-place-clause-no c = λ e r.
    let low = c.loop-place.auto.place in
    let high = c.loop-place-test.true in
    let same : suc (c.loop-place.place - 1) ≡ c.loop-place.place = omega (arith, low) in
    let l = subst (λ z. get_or c.args.numbers.now (c.loop-place.place - 1) 0 < get_or c.args.numbers.now z 0) same (rising-at c.args.numbers.now r (c.loop-place.place - 1) (omega (arith, low, high))) in
    let k = c.if-numbers-place.true in omega (arith, l, k)
