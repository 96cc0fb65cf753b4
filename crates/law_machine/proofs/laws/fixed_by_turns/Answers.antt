use Rattle.law_machine.proofs.Tried.{by-turns}
use Rattle.law_machine.proofs.laws.fixed_by_turns.Goals as goal

pub returns : goal.returns
returns hold c run others other otherwise = by-turns hold.M.LocalStep.machine run.start run.first run.entries others run.end other run.last otherwise run.legal
