use Rattle.std.proofs.Common.{inl, inr, subst, arith}
use Rattle.base.specs.Sets.{Has}
use Rattle.base.proofs.Sets.{get_or-has, has-get_or}
use Rattle.std.proofs.lemmas.Bool.{cases_lt}
use Rattle.base_bits.proofs.Rising.{climbs}
use Rattle.base_bits.proofs.set.next_listed.Goals as goal

pub returns-then-from-clause-some : goal.returns-then-from-clause-some
returns-then-from-clause-some c = (omega arith, subst (λ i. Has i c.args.list.now) (omega arith) (get_or-has c.args.list.now c.loop-k.k 0 (omega arith)))

pub returns-then-from-clause-least : goal.returns-then-from-clause-least
returns-then-from-clause-least c j l h =
    let a = has-get_or c.args.list.now j h in
    elim (cases_lt a.0 c.loop-k.k) [
      | inl s ↦ absurd (omega (arith, c.loop-k.invariant a.0 s, a.2, l))
      | inr s ↦ let m = climbs c.args.list.now c.requires c.loop-k.k a.0 s a.1 in omega (arith, m, a.2)
    ]

pub returns-clause-none : goal.returns-clause-none
returns-clause-none c j h = let a = has-get_or c.args.list.now j h in let l = c.loop-k.invariant a.0 (omega (arith, a.1)) in omega (arith, l, a.2)
