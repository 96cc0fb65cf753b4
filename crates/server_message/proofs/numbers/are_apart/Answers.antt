use Rattle.std.proofs.Common.{get_or, sym, ◌∙◌, arith}
use Rattle.base.specs.Sets.{Has}
use Rattle.server_message.proofs.Members.{each, not-found, also-at}
use Rattle.server_message.proofs.numbers.are_apart.Goals as goal
use Rattle.base.proofs.Sets.{get_or-has, any-has}

pub returns-clause-yes : goal.returns-clause-yes
returns-clause-yes c = λ e. each (λ i. Has i c.args.other.now → ⊥) c.args.one.now (λ j l. c.loop-number.invariant j (let f = c.loop-number-test.false in omega (arith, l, f)))

pub loop-number-preserved : goal.loop-number-preserved
loop-number-preserved c = also-at (λ i. Has i c.args.other.now → ⊥) c.args.one.now c.loop-number.number-index c.loop-number.invariant
    (not-found (get_or c.args.one.now c.loop-number.number-index 0) c.args.other.now c.contains.result c.contains.ensures.value c.if-contains.false)

pub returns-then-contains-clause-no : goal.returns-then-contains-clause-no
returns-then-contains-clause-no c = λ e h.
    h (get_or c.args.one.now c.loop-number.number-index 0) (get_or-has c.args.one.now c.loop-number.number-index 0 c.loop-number-test.true)
    (any-has (get_or c.args.one.now c.loop-number.number-index 0) c.args.other.now (sym c.contains.ensures.value ∙ c.if-contains.true))
