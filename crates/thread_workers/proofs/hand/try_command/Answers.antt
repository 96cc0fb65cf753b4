use Rattle.std.proofs.Common.{refl}
use Rattle.thread_workers.proofs.Later.{same-fault}
use Rattle.thread_workers.proofs.hand.try_command.Goals as goal

pub returns-in-Err-clause-worn : goal.returns-in-Err-clause-worn
returns-in-Err-clause-worn g c s e = c.in-Err.ensures.worn _ s refl (same-fault _ _ e)
