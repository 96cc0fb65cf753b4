use Rattle.thread_outcome.proofs.Going.{stand-between}
use Rattle.thread_outcome.proofs.law.lemma_phase_done.Goals as goal

pub returns : goal.returns
returns c = λ net last phase old started now done. stand-between net last phase old started now done
