use Rattle.law_machine.proofs.Runs.{bound}
use Rattle.law_machine.proofs.laws.bounded.Goals as goal

pub returns : goal.returns
returns hold c k laws run begins = let b = bound hold.M.LocalStep.machine k laws run.start run.first run.entries run.end run.last run.legal begins.within begins.light begins.calm in record { of_receptions = b.0; of_all = b.1 }
