use Rattle.law_machine.proofs.Stamps.{run-stamps}
use Rattle.law_machine.proofs.laws.stamps_low.Goals as goal

pub returns : goal.returns
returns hold c n run = run-stamps hold.M.LocalStep.machine n run.start run.first run.entries run.end run.last run.legal
