use Rattle.thread_outcome.proofs.Reached.{never-worn}
use Rattle.thread_outcome.proofs.law.lemma_never_worn.Goals as goal

pub returns : goal.returns
returns c = λ net last phase old started now begun stamp worn. never-worn net last phase old started now begun stamp worn
