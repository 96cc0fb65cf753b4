use Rattle.std.proofs.Common.{sym, arith, refl}
use Rattle.audit_claim.proofs.Apart.{alike_whole, differs_at, ends_at, none_equal}
use Rattle.audit_claim.proofs.differing.difference.Goals as goal

pub returns-then-claimed-i-clause-value : goal.returns-then-claimed-i-clause-value
returns-then-claimed-i-clause-value c =
    sym (differs_at c.args.claimed.now c.args.text.now c.loop-i.i (omega (arith, c.loop-i-test.true, c.min-most.ensures)) (omega (arith, c.loop-i-test.true, c.min-most.ensures)) c.loop-i.invariant c.if-claimed-i.true)

pub returns-then-claimed-text-clause-value : goal.returns-then-claimed-text-clause-value
returns-then-claimed-text-clause-value c =
    sym (alike_whole c.args.claimed.now c.args.text.now (λ k l. c.loop-i.invariant k (omega (arith, l, c.loop-i-test.false, c.min-most.ensures, c.if-claimed-text.true))) c.if-claimed-text.true)

pub returns-then-claimed-text-clause-equal : goal.returns-then-claimed-text-clause-equal
returns-then-claimed-text-clause-equal c = (
  λ z. none_equal c.args.claimed.now c.args.text.now
      (alike_whole c.args.claimed.now c.args.text.now (λ k l. c.loop-i.invariant k (omega (arith, l, c.loop-i-test.false, c.min-most.ensures, c.if-claimed-text.true))) c.if-claimed-text.true),
  λ z. refl,
)

pub returns-else-claimed-text-clause-value : goal.returns-else-claimed-text-clause-value
returns-else-claimed-text-clause-value c =
    sym (ends_at c.args.claimed.now c.args.text.now c.min-most.result c.min-most.ensures (λ k l. c.loop-i.invariant k (omega (arith, l, c.loop-i-test.false))) c.if-claimed-text.false)
