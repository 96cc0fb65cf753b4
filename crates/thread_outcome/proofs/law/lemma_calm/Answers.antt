use Rattle.thread_outcome.proofs.Closing.{calm}
use Rattle.thread_outcome.proofs.law.lemma_calm.Goals as goal

pub returns : goal.returns
returns c = λ net last next cells hand stood. calm net last next cells hand.sound stood hand.together hand.kept
