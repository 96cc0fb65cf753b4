use Rattle.thread_outcome.proofs.Closing.{stand-later}
use Rattle.thread_outcome.proofs.law.lemma_stand_later.Goals as goal

pub returns : goal.returns
returns c = λ net last next later cells hand stood some none. stand-later net last next cells hand.sound stood hand.together hand.kept later some none
