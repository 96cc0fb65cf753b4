use Rattle.law_machine.proofs.Runs.{within-left}
use Rattle.law_machine.proofs.laws.commands_left.Goals as goal

pub returns : goal.returns
returns hold c k laws run = within-left hold.M.LocalStep.machine k laws run.start run.first run.entries run.end run.last run.legal
