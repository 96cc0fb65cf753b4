use Rattle.std.proofs.Common.{arith}
use Rattle.document_script.proofs.IntLaws.{small_pow}
use Rattle.document_script.proofs.number.short_digits.Goals as goal

pub overflow_mul-sum : goal.overflow_mul-sum
overflow_mul-sum c = let s = small_pow c.loop-i.i c.loop-i.sum (omega (arith, c.requires, c.loop-i-test.true)) c.loop-i.invariant.1 in omega (arith, s)

pub overflow_add-sum : goal.overflow_add-sum
overflow_add-sum c = let s = small_pow c.loop-i.i c.loop-i.sum (omega (arith, c.requires, c.loop-i-test.true)) c.loop-i.invariant.1 in omega (arith, s)
