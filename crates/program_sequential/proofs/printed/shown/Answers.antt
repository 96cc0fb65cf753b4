use Rattle.std.proofs.Common.{arith}
use Rattle.std.proofs.lemmas.Grind.{common_steps}
use Rattle.program_sequential.proofs.printed.shown.Goals as goal

pub returns-in_err-ran-clause-bad : goal.returns-in_err-ran-clause-bad
returns-in_err-ran-clause-bad c = λ line kind e. c.in_err-ran.ensures.bad line kind (grind (arith, common_steps, e, c.from_residual.ensures.1))
