use Rattle.law_machine.proofs.Fixed.{run-once}
use Rattle.law_machine.proofs.laws.run_fixed.Goals as goal

pub returns : goal.returns
returns hold c run other otherwise g = run-once hold.M.LocalStep.machine run.start run.first run.entries run.end other run.last otherwise run.legal g
