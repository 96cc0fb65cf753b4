use Rattle.law_machine.proofs.Begun.{next-begun}
use Rattle.law_machine.proofs.laws.begun_phase.Goals as goal

pub returns : goal.returns
returns hold c laws begin rules after begun =
    next-begun hold.M.LocalStep.machine laws begin rules after.opening after.end after.last after.next after.sofar after.journals after.stands begun.later begun.cells begun.ends begun.begins begun.fresh begun.merged begun.hand.merge begun.some begun.hand.replay begun.hand.took begun.ended.quiet begun.ended.through
