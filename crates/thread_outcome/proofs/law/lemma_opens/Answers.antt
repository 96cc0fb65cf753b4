use Rattle.thread_outcome.proofs.Opening.{first-stands}
use Rattle.thread_outcome.proofs.law.lemma_opens.Goals as goal

pub returns : goal.returns
returns c = λ net started are. first-stands net started are
